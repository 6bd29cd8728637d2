-- In a right state, a transaction that is allowed is the step of the machine.
use Rattle.std.proofs.Common.{◌≡◌, ℕ, false, List, ◌∷◌, Option, Some, None, option_map, option_and_then, refl, sym}
use Rattle.std.proofs.Common.{ap, subst, ◌∙◌}
use Rattle.std.specs.Prelude.{slice_get}
use Rattle.std.proofs.lemmas.Option.{none-some}
use Rattle.activity_states.specs.declared.states.Completed.{Completed}
use Rattle.core_laws.proofs.Asked.{IsOpen as IsOpenThen}
use Rattle.core_laws.proofs.Standing.{front_of_root}
use Rattle.core_laws.proofs.Staying.{awaited, program_is}
use Rattle.core_laws.specs.RightStates.{messages_in, note_queue, input_now, IsRightState}
use Rattle.flow_core.specs.Allowing.{IsAllowed, IsOpen}
use Rattle.flow_core.specs.Answers.{instance_of}
use Rattle.flow_core.specs.Driving.{templates, item_of, entry_in, IsFront}
use Rattle.flow_core.specs.declared.state.Core.{Core}
use Rattle.flow_model.specs.ScopeContainers.{graph_of}
use Rattle.flow_model.specs.declared.graphs.Container.{Container}
use Rattle.flow_model.specs.declared.graphs.Graph.{Graph}
use Rattle.flow_model.specs.declared.graphs.Template.{Template}
use Rattle.flow_model.specs.declared.instances.Fact.{Fact}
use Rattle.flow_model.specs.declared.instances.Message.{Message}
use Rattle.flow_model.specs.declared.instances.Path.{Path}
use Rattle.flow_model.specs.declared.instances.Phase.TheVariants.{Ended}
use Rattle.flow_model.specs.declared.transactions.Transaction.{Transaction}
use Rattle.flow_model.specs.declared.transactions.Transaction.TheVariants.{Import, Start, Turn, Claim, Release}
use Rattle.flow_model.specs.declared.transactions.Transaction.TheVariants.{Transfer, Take, Done, Force, Restart}
use Rattle.flow_model.specs.declared.transactions.Transaction.TheVariants.{Suspend, Resume, Terminate, Delete, Clock}
use Rattle.machine.specs.Imports.{Added, nothing_added}
use Rattle.machine.specs.States.{item_of as item_seen}
use Rattle.machine.specs.Steps.{after}
use Rattle.machine_scopes.proofs.HeldItems.{hold_met}
use Rattle.machine_scopes.proofs.Meeting.{message_met, completion_comes}
use Rattle.machine_scopes.specs.Turns.{MeetsMessage, MeetsItem, MeetsHold}
use Rattle.navigator.specs.Items.{Entry, stand, entry_at, phase_of}
use Rattle.navigator.specs.Showing.{note_in}
use Rattle.navigator.specs.Views.{Shows}
use Rattle.navigator.specs.declared.instance.Instance.{Instance}
use Rattle.activity_states.specs.States.{fate_of}
use Rattle.recover_queue.specs.Queues.{root_of}
use Rattle.root_laws.proofs.NextKnown.{counted_run, turn_comes, output_comes}
use Rattle.root_laws.proofs.Putting.{front_stands}
use Rattle.root_laws.specs.RightRoots.{Queued, root_in, IsRight}
use Rattle.view_laws.proofs.WholeRuns.{running_is}
use Rattle.view_laws.specs.LegalRuns.{IsLegal, Awaits}
use Rattle.view_laws.specs.Messages.{Note}
use Rattle.view_laws.specs.Queues.{queue}
use Rattle.view_laws.specs.Runs.{Root, Event, Turned, Completed as CompletedOf, is_stopped, seen, engine}
use Rattle.machine_laws.specs.Right.{IsExact, HoldsOpen, AddsOnly}
use Rattle.machine_laws.specs.Viewed.{entry_of, view, Does, HasGraph, IfThere}
use Rattle.machine_laws.proofs.Seen.{items}
use Rattle.machine_laws.proofs.Stepping.{clocks, suspends, resumes, terminates, deletes, imports, starts, claims}
use Rattle.machine_laws.proofs.Stepping.{releases, transfers, takes_by_agents, restarts, turns, dones, forces}

-- ---- one root

module _ (ts : List Template) (q : Note → ℕ) (h : List Event) (queued : Queued) (input : Container) (i : Instance)
    (right : IsRight ts q h queued input i) (lives : i.terminated ≡ false) where
  abbrev the_root : Root
  the_root = root_in ts right.depth right.graph input

  runs : is_stopped h ≡ false
  runs = right.stopped ∙ lives

  shows_now : Shows ts right.depth (seen h) right.graph input i.scope
  shows_now =
      subst (λ (a : List Event). Shows ts right.depth (seen a) right.graph input i.scope)
      (running_is h runs) right.shows

  -- the front of a queue is met
  pub turn_met : (n : ℕ) (message : Message) → slice_get (queued n) 0 ≡ Some message
      → MeetsMessage ts message right.graph i.scope
  turn_met n message there =
      let found = front_stands (note_in ts right.graph) (queued n) (queue (engine the_root q) h n) message
      (right.messages n) there in
      let legal : IsLegal the_root q (Turned found.0
      ∷ h) = record {
        fronts = (right.legal.fronts, λ m takes. (n, found.2 ∙ takes));
        awaited = right.legal.awaited;
      } in
      message_met ts right.depth (seen h) (seen
      (Turned found.0 ∷ h)) right.graph input i.scope right.served.well right.served.served
      (counted_run h).messages shows_now message found.0 found.1
      (turn_comes the_root q right.served found.0 h legal runs)

  -- an item that is awaited is met
  pub item_met : (item : Path) (c : Completed) → Awaits ts right.depth (seen h) right.graph input item.parts
      → MeetsItem ts c item right.graph i.scope
  item_met item c awaits =
      let f : Fact = record { item = item; output = c.output } in
      let legal : IsLegal the_root q (CompletedOf f
      ∷ h) = record {
        fronts = (right.legal.fronts, λ m takes. absurd (none-some m takes));
        awaited = (right.legal.awaited, runs, awaits);
      } in
      completion_comes ts right.depth (seen h)
      (seen (CompletedOf f ∷ h)) right.graph input i.scope right.served.well right.served.served
      (counted_run h).messages shows_now item c
      (output_comes the_root q right.served f h legal runs)

-- ---- a state

module _ (c : Core) (all : ℕ → List Event) (right : IsRightState c all) where
  front_met : (number : ℕ) (message : Message) → IsFront c number message → (o : Option Instance)
      → instance_of c (root_of message) ≡ o
      → IfThere (λ i. i.terminated ≡ false → HasGraph (templates c) (λ g. MeetsMessage
      (templates c) message g i.scope) i) o
  front_met number message front None live = tt
  front_met number message front (Some i) live = λ lives.
      let root = root_of message in
      let here = (right.are root i live).right in
      record {
        graph = here.graph;
        there = here.process;
        meets =
            turn_met (templates c) (note_queue c root) (all root) (messages_in c.queues root)
            (input_now c root) i here lives number message
            (front_of_root root c.queues number message front.0 front.1 refl);
      }

  open_then : (item : Path) → IsOpen c item → IsOpenThen c item
  open_then item is i e live there =
      let same : is.root ≡ i = (let both : Some is.root ≡ Some i = sym is.live ∙ live in cc) in
      let entry : is.item ≡ e = (let both : Some is.item ≡ Some e = sym is.there ∙ there in cc) in (
        subst (λ (u : Instance). u.terminated ≡ false) same is.runs,
        subst
            (λ (x : Entry). phase_of (fate_of x.state) x.attempt ≡ Ended → ⊥) entry is.unended,
      )

  completed_met : (item : Path) (is : IsOpen c item) (done : Completed) (o : Option Instance)
      → instance_of c item.root ≡ o
      → IfThere (λ i. HasGraph (templates c) (λ g. MeetsItem (templates c) done item g i.scope) i) o
  completed_met item is done None live = tt
  completed_met item is done (Some i) live =
      let root = item.root in
      let here = (right.are root i live).right in
      let lives = (open_then item is i is.item live is.there).0 in
      record {
        graph = here.graph;
        there = here.process;
        meets =
            item_met (templates c) (note_queue c root) (all root) (messages_in c.queues root)
            (input_now c root) i here lives item done
            (awaited c item (open_then item is) (all root) i live here is.item is.there);
      }

  held_in : (item : Path) (e : Entry) (i : Instance) (o : Option Graph) → graph_of (templates c) i.template ≡ o
      → option_and_then (λ g. entry_at (templates c) item.parts (stand g i.scope)) o ≡ Some e
      → HasGraph (templates c) (λ g. MeetsHold (templates c) item.parts g i.scope) i
  held_in item e i None at is = absurd (none-some e is)
  held_in item e i (Some g) at is = record {
    graph = g;
    there = at;
    meets = hold_met (templates c) item.parts g i.scope e is;
  }

  held_met : (item : Path) (e : Entry) (o : Option Instance) → option_and_then (entry_in (templates c) item) o ≡ Some e
      → IfThere (λ i. HasGraph (templates c) (λ g. MeetsHold (templates c) item.parts g i.scope) i) o
  held_met item e None is = tt
  held_met item e (Some i) is = held_in item e i (graph_of (templates c) i.template) refl is

  holds_met : (item : Path) → IsOpen c item → IfThere (λ i. HasGraph (templates c)
      (λ g. MeetsHold (templates c) item.parts g i.scope) i) (instance_of c item.root)
  holds_met item is =
      held_met item is.item (instance_of c item.root)
      (program_is (option_and_then (entry_in (templates c) item) (instance_of c item.root)) is.item is.there)

  seen_there : (item : Path) (e : Entry) → item_of c item ≡ Some e → item_seen (view c) item ≡ Some (entry_of e)
  seen_there item e is = items c item ∙ ap (option_map entry_of) is

  module _ (c' : Core) where
    plain : (t : Transaction) (added : Added) → added ≡ nothing_added → (does : Does c t added c')
        → IsExact c t does.drives.given c'
        → ((does : Does c t nothing_added c') → IsExact c t does.drives.given c'
        → view c' ≡ after nothing_added t (view c)) → view c' ≡ after added t (view c)
    plain t added nothing does exact step =
        let whole : (d : Does c t nothing_added c')
        × IsExact c t d.drives.given c' = subst (λ a. (d : Does c t a c') × IsExact c t d.drives.given c') nothing
        (does, exact) in
        step whole.0 whole.1 ∙ ap (λ a. after a t (view c)) (sym nothing)

    pub allowed : (t : Transaction) (added : Added) → IsAllowed c t → HoldsOpen c t → AddsOnly t added
        → (does : Does c t added c') → IsExact c t does.drives.given c' → view c' ≡ after added t (view c)
    allowed (Import text) added is opens adds does exact = imports c c' text added does
    allowed (Start root process version starter key settings) added is opens adds does exact =
        plain (Start root process version starter key settings) added adds does exact
        (λ d placed. starts c c' root process version starter key settings d
        (right.counted root is.free).absent placed.place placed.newest placed.runs)
    allowed (Turn number message) added is opens adds does exact =
        plain (Turn number message) added adds does exact
        (λ d so. turns c c' number message d so
        (front_met number message is.asked (instance_of c (root_of message)) refl))
    allowed (Claim item who) added is opens adds does exact =
        plain (Claim item who) added adds does exact (λ d so. claims c c' item who (holds_met item opens) d)
    allowed (Release item who) added is opens adds does exact =
        plain (Release item who) added adds does exact (λ d so. releases c c' item who (holds_met item opens) d)
    allowed (Transfer item who to) added is opens adds does exact =
        plain (Transfer item who to) added adds does exact (λ d so. transfers c c' item who to (holds_met item opens) d)
    allowed (Take item take) added is opens adds does exact =
        plain (Take item take) added adds does exact (λ d so. takes_by_agents c c' item take (holds_met item opens) d)
    allowed (Done item who settings) added is opens adds does exact =
        plain (Done item who settings) added adds does exact
        (λ d so. dones c c' item who settings d is.asked.item is.asked.there
        (seen_there item is.asked.item is.asked.there) (so is.asked.item is.asked.there)
        (completed_met item is.asked _ (instance_of c item.root) refl))
    allowed (Force item settings) added is opens adds does exact =
        plain (Force item settings) added adds does exact
        (λ d so. forces c c' item settings d is.asked.item is.asked.there
        (seen_there item is.asked.item is.asked.there) (so is.asked.item is.asked.there)
        (completed_met item is.asked _ (instance_of c item.root) refl))
    allowed (Restart item) added is opens adds does exact =
        plain (Restart item) added adds does exact (λ d so. restarts c c' item (holds_met item opens) d)
    allowed (Suspend root) added is opens adds does exact =
        plain (Suspend root) added adds does exact (λ d so. suspends c c' root d)
    allowed (Resume root) added is opens adds does exact =
        plain (Resume root) added adds does exact (λ d so. resumes c c' root d)
    allowed (Terminate root) added is opens adds does exact =
        plain (Terminate root) added adds does exact (λ d so. terminates c c' root d)
    allowed (Delete root) added is opens adds does exact =
        plain (Delete root) added adds does exact (λ d so. deletes c c' root d)
    allowed (Clock minutes) added is opens adds does exact =
        plain (Clock minutes) added adds does exact (λ d so. clocks c c' minutes d)
