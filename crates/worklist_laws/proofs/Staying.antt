-- The worklists go on holding exactly the open manual items, with each kind of transaction.
use Rattle.std.proofs.Common.{◌≡◌, ℕ, inl, inr, Bool, true, false, cond, List, [], ◌∷◌, Option, Some, None, refl, ap, ap₂, sym, ◌∙◌, subst}
use Rattle.std.specs.Prelude.{option_and_then, option_map}
use Rattle.std.proofs.lemmas.Bool.Decides.{eqb_tells}
use Rattle.std.proofs.lemmas.Option.{none-some}
use Rattle.activity_states.specs.States.{fate_of}
use Rattle.activity_states.specs.declared.states.Completed.{Completed}
use Rattle.containers.specs.Settings.{filled}
use Rattle.core_laws.proofs.Asked.{IsOpen as IsOpenAt}
use Rattle.core_laws.proofs.Standing.{front_of_root}
use Rattle.core_laws.proofs.Staying.{program_is, awaited}
use Rattle.core_laws.specs.RightStates.{messages_in, note_queue, input_now, AreRight}
use Rattle.flow_core.specs.Allowing.{IsOpen}
use Rattle.flow_core.specs.Answers.{instance_of}
use Rattle.flow_core.specs.Driving.{templates, entry_in, item_of, IfLive, BecomesQuietly, BecomesCompleted, IsFront, ChangesRoot}
use Rattle.flow_core.specs.Shelving.{Standing, SameStanding, rank_on, rank_now, stands, all_listed, MakesReady, CompletesReady, IfRootLive, TurnShelves, CompletionShelves, CompletesShelves, HoldShelves}
use Rattle.flow_core.specs.declared.state.Core.{Core}
use Rattle.flow_model.specs.Containers.{fresh}
use Rattle.flow_model.specs.ScopeContainers.{graph_of}
use Rattle.flow_model.specs.declared.graphs.Graph.{Graph}
use Rattle.flow_model.specs.declared.instances.Fact.{Fact}
use Rattle.flow_model.specs.declared.instances.Message.{Message}
use Rattle.flow_model.specs.declared.instances.Message.TheVariants.{Begin, Signal, End}
use Rattle.flow_model.specs.declared.instances.Path.{Path}
use Rattle.flow_model.specs.declared.instances.Phase.{Phase}
use Rattle.flow_model.specs.declared.instances.Phase.TheVariants.{Ready, Running, Ended}
use Rattle.flow_model.specs.declared.names.Name.{Name}
use Rattle.flow_model.specs.declared.transactions.Setting.{Setting}
use Rattle.item_laws.proofs.HeldItem.{item_held}
use Rattle.item_laws.proofs.HeldKept.{holds_keep}
use Rattle.item_laws.proofs.KeptEvents.{taken_keeps, completed_keeps}
use Rattle.item_laws.proofs.Moved.{taken_moves, completed_moves}
use Rattle.item_laws.specs.OpenItems.{is_open_phase, open_of, open_at, ItemsMove}
use Rattle.navigator.specs.Giving.{root_named}
use Rattle.navigator.specs.Items.{Entry, stand, entry_at, phase_of}
use Rattle.navigator.specs.Views.{Shows}
use Rattle.navigator.specs.declared.instance.HoldChange.{HoldChange}
use Rattle.navigator.specs.declared.instance.Instance.{Instance}
use Rattle.recover_queue.specs.Queues.{root_of}
use Rattle.root_laws.proofs.NextKnown.{counted_run, turn_comes, output_comes}
use Rattle.root_laws.proofs.Putting.{front_stands}
use Rattle.root_laws.specs.Becoming.{TakesIn, CompletesIn, HoldsIn}
use Rattle.root_laws.specs.RightRoots.{root_in}
use Rattle.navigator.specs.Showing.{note_in}
use Rattle.view_laws.proofs.WholeRuns.{running_is}
use Rattle.view_laws.specs.LegalRuns.{IsLegal}
use Rattle.view_laws.specs.Queues.{queue}
use Rattle.view_laws.specs.Runs.{Event, Turned, Completed as CompletedBy, seen, engine}
use Rattle.worklist_laws.proofs.Moving.{message_shelves, completion_shelves, hold_shelves}
use Rattle.worklist_laws.proofs.OpenLines.{IsNamed, open_same}
use Rattle.worklist_laws.proofs.Ranks.{entry_leads}
use Rattle.worklist_laws.proofs.Settled.{ComeBefore, right_settles}
use Rattle.worklist_laws.proofs.Shelves.{hold_same}
use Rattle.worklist_laws.specs.Shelved.{is_open_entry, open_line, HoldExactly, IsShelved}

-- ---- what became of a live root

pub became : (becomes : Instance → Instance → Type 0) (given : List Message) (before after : Option Instance) → IfLive becomes given before after
    → (i : Instance) → before ≡ Some i → (i' : Instance) × (after ≡ Some i') × becomes i i'
became becomes given None after is i live = absurd (none-some i live)
became becomes given (Some j) None is i live = absurd is
became becomes given (Some j) (Some i') is i live = let same : j ≡ i = cc in (i', refl, subst (λ (u : Instance). becomes u i') same is)

became_ready : (becomes : List Path → Instance → Instance → Type 0) (items : List Path) (before after : Option Instance) → IfRootLive becomes items before after
    → (i i' : Instance) → before ≡ Some i → after ≡ Some i' → becomes items i i'
became_ready becomes items None after is i i' live live' = absurd (none-some i live)
became_ready becomes items (Some j) None is i i' live live' = absurd is
became_ready becomes items (Some j) (Some j') is i i' live live' =
    let same : j ≡ i = cc in
    let same' : j' ≡ i' = cc in
    subst (λ (u : Instance). becomes items u i') same (subst (λ (u : Instance). becomes items j u) same' is)

-- ---- from one state to the next

module _ (c c' : Core) where
  -- the shelves hold what is open, where they stand so
  pub shelved_so : (w : Standing) → SameStanding (stands c') w → HoldExactly (open_line c') (rank_now c') w → IsShelved c'
  shelved_so w same hold = hold_same (open_line c') (open_line c') (rank_now c') (rank_now c') w (stands c') same (λ path. refl) (λ path line has. refl) hold

  pub rank_still : (path : Path) → templates c' ≡ templates c → instance_of c' path.root ≡ instance_of c path.root → rank_now c' path ≡ rank_now c path
  rank_still path library root =
      ap₂ (λ ts o. option_map (λ h. path.root ∷ rank_on ts path.parts h) (option_and_then (λ (i : Instance). graph_of ts i.template) o)) library root

  -- nothing changed
  pub all_still : templates c' ≡ templates c → ((root : ℕ) → instance_of c' root ≡ instance_of c root) → SameStanding (stands c') (stands c) → IsShelved c → IsShelved c'
  all_still library roots same shelved =
      hold_same (open_line c) (open_line c') (rank_now c) (rank_now c') (stands c) (stands c') same (λ path. open_same c c' path library (roots path.root))
      (λ path line has. rank_still path library (roots path.root)) shelved

  -- a root that stays, as the others do
  pub roots_still : (root : ℕ) → ((other : ℕ) → (other ≡ root → ⊥) → instance_of c' other ≡ instance_of c other) → instance_of c' root ≡ instance_of c root
      → (r : ℕ) → instance_of c' r ≡ instance_of c r
  roots_still root others here r = elim (eqb_tells r root) [
    | inl is ↦ ap (instance_of c') is.1 ∙ here ∙ sym (ap (instance_of c) is.1)
    | inr other ↦ others r other.1
  ]

-- ---- an open item

opens_so : (p : Phase) → (p ≡ Ended → ⊥) → is_open_phase p ≡ true
opens_so Ready goes = refl
opens_so Running goes = refl
opens_so Ended goes = absurd (goes refl)

-- an item that is asked for is there, in its root
record IsItem (c : Core) (item : Path) (o : IsOpen c item) (g : Graph) : Type 0 where
  entered : entry_at (templates c) item.parts (stand g o.root.scope) ≡ Some o.item
  opens : is_open_entry o.item ≡ true
  state : open_at (templates c) g o.root.scope item.parts ≡ Some o.item.state

item_there : (c : Core) (item : Path) (o : IsOpen c item) (g : Graph) → graph_of (templates c) o.root.template ≡ Some g → IsItem c item o g
item_there c item o g of =
    let found : option_and_then (entry_in (templates c) item) (instance_of c item.root) ≡ Some o.item = program_is (option_and_then (entry_in (templates c) item) (instance_of c item.root)) o.item o.there in
    let entered : entry_at (templates c) item.parts (stand g o.root.scope) ≡ Some o.item
    = sym (ap (option_and_then (λ h. entry_at (templates c) item.parts (stand h o.root.scope))) of) ∙ sym (ap (option_and_then (entry_in (templates c) item)) o.live) ∙ found in
    let opens : is_open_entry o.item ≡ true = opens_so (phase_of (fate_of o.item.state) o.item.attempt) o.unended in
    record {
      entered = entered;
      opens = opens;
      state = ap (option_and_then open_of) entered ∙ ap (λ b. cond b (Some o.item.state) None) opens;
    }

open_as : (c : Core) (item : Path) → IsOpen c item → IsOpenAt c item
open_as c item o i e live there =
    let same : o.root ≡ i = (let both : Some o.root ≡ Some i = sym o.live ∙ live in cc) in
    let entry : o.item ≡ e = (let both : Some o.item ≡ Some e = sym o.there ∙ there in cc) in
    (subst (λ (u : Instance). u.terminated ≡ false) same o.runs, subst (λ (x : Entry). phase_of (fate_of x.state) x.attempt ≡ Ended → ⊥) entry o.unended)

root_is : (m : Message) → root_named m ≡ root_of m
root_is (Begin path) = refl
root_is (Signal path from to v) = refl
root_is (End path) = refl

module _ (c c' : Core) (runs : ℕ → List Event) (are : AreRight c runs) (shelved : IsShelved c) (before : ComeBefore (templates c)) (library : templates c' ≡ templates c) where
  -- a root that isn't terminated shows what the whole run tells
  shows_now : (root : ℕ) (i : Instance) (live : instance_of c root ≡ Some i) → i.terminated ≡ false
      → Shows (templates c) (are root i live).right.depth (seen (runs root)) (are root i live).right.graph (input_now c root) i.scope
  shows_now root i live goes =
      let right = (are root i live).right in
      subst (λ (a : List Event). Shows (templates c) right.depth (seen a) right.graph (input_now c root) i.scope) (running_is (runs root) (right.stopped ∙ goes)) right.shows

  -- ---- a change of a hold

  pub hold_stays : (item : Path) (change : HoldChange) (given : List Message) → ChangesRoot item.root (BecomesQuietly (HoldsIn (templates c) item change) given) c c' → IsOpen c item
      → HoldShelves c item c' → IsShelved c'
  hold_stays item change given changes o shelves =
      let i = o.root in
      let right = (are item.root i o.live).right in
      let g = right.graph in
      let next = became (HoldsIn (templates c) item change) given (instance_of c item.root) (instance_of c' item.root) changes.here.0 i o.live in
      let i' = next.0 in
      let there = item_there c item o g right.process in
      let sets = next.2.sets g right.process in
      let held = item_held (templates c) change sets.0 item.parts g i.scope i'.scope o.item.state there.state sets.1 in
      let keeps = holds_keep (templates c) change sets.0 item.parts g i.scope i'.scope o.item there.entered sets.1 in
      shelved_so c c' _ shelves
      (hold_shelves c c' item.root library changes.others i i' o.live next.1 next.2.kept o.runs g right.process keeps
      (right_settles c item.root (runs item.root) i (are item.root i o.live) before) shelved item refl change o.item.state there.state held)

  -- ---- a turn

  module _ (number : ℕ) (message : Message) (given : List Message) (items : List Path) (front : IsFront c number message)
      (others : (other : ℕ) → (other ≡ root_of message → ⊥) → instance_of c' other ≡ instance_of c other) (same : SameStanding (stands c') (all_listed c' items (stands c))) where
    abbrev root : ℕ
    root = root_of message

    idle_turn : items ≡ [] → instance_of c' root ≡ instance_of c root → IsShelved c'
    idle_turn none here = all_still c c' library (roots_still c c' root others here) (subst (λ (l : List Path). SameStanding (stands c') (all_listed c' l (stands c))) none same) shelved

    module _ (i i' : Instance) (live : instance_of c root ≡ Some i) (live' : instance_of c' root ≡ Some i') (takes : TakesIn (templates c) message given i i')
        (ready : MakesReady (templates c) c.clock message items i i') where
      going_turn : i.terminated ≡ false → IsShelved c'
      going_turn goes =
          let h = runs root in
          let right = (are root i live).right in
          let g = right.graph in
          let r = root_in (templates c) right.depth g (input_now c root) in
          let q = note_queue c root in
          let found = front_stands (note_in (templates c) g) (messages_in c.queues root number) (queue (engine r q) h number) message (right.messages number)
          (front_of_root root c.queues number message front.0 front.1 refl) in
          let note = found.0 in
          let legal : IsLegal r q (Turned note ∷ h) = record { fronts = (right.legal.fronts, λ m takes. (number, found.2 ∙ takes)); awaited = right.legal.awaited } in
          let comes = turn_comes r q right.served note h legal (right.stopped ∙ goes) in
          let does = ready.takes goes in
          let taken = does.1 g right.process in
          let moves = taken_moves (templates c) c.clock message note g i.scope i'.scope does.0 items taken found.1 right.depth (seen h) (seen (Turned note ∷ h)) (input_now c root)
          right.served.well right.served.served (counted_run h) comes (shows_now root i live goes) in
          let keeps = taken_keeps (templates c) c.clock message note g i.scope i'.scope does.0 items taken found.1 right.depth (seen h) (seen (Turned note ∷ h)) (input_now c root)
          right.served.well right.served.served (counted_run h) comes (shows_now root i live goes) in
          shelved_so c c' _ same
          (message_shelves c c' root library others i i' live live' takes.kept goes g right.process keeps (right_settles c root h i (are root i live) before) shelved c.clock items
          (subst (λ (n : ℕ). ItemsMove n c.clock None items (open_at (templates c) g i.scope) (open_at (templates c) g i'.scope)) (root_is message) moves))

      live_turn : (b : Bool) → i.terminated ≡ b → IsShelved c'
      live_turn false goes = going_turn goes
      live_turn true over = idle_turn (ready.idle over).1 (live' ∙ ap Some (ready.idle over).0 ∙ sym live)

    turn_by : (was is : Option Instance) → instance_of c root ≡ was → instance_of c' root ≡ is → IfLive (TakesIn (templates c) message given) given was is
        → IfRootLive (MakesReady (templates c) c.clock message) items was is → IsShelved c'
    turn_by None is live live' becomes ready = idle_turn ready.1 (live' ∙ becomes.0 ∙ sym live)
    turn_by (Some i) None live live' becomes ready = absurd becomes
    turn_by (Some i) (Some i') live live' becomes ready = live_turn i i' live live' becomes ready i.terminated refl

  pub turn_stays : (number : ℕ) (message : Message) (given : List Message) → IsFront c number message → ChangesRoot (root_of message) (IfLive (TakesIn (templates c) message given) given) c c'
      → TurnShelves c message c' → IsShelved c'
  turn_stays number message given front changes shelves =
      turn_by number message given shelves.items front changes.others shelves.stand (instance_of c (root_of message)) (instance_of c' (root_of message)) refl refl changes.here shelves.ready

  -- ---- a completion

  module _ (item : Path) (completed : Completed) (given : List Message) (o : IsOpen c item)
      (others : (other : ℕ) → (other ≡ item.root → ⊥) → instance_of c' other ≡ instance_of c other)
      (becomes : IfLive (CompletesIn (templates c) item completed.output given) given (instance_of c item.root) (instance_of c' item.root)) (shelves : CompletionShelves c item completed c') where
    completion : IsShelved c'
    completion =
        let root = item.root in
        let i = o.root in
        let h = runs root in
        let right = (are root i o.live).right in
        let g = right.graph in
        let r = root_in (templates c) right.depth g (input_now c root) in
        let q = note_queue c root in
        let next = became (CompletesIn (templates c) item completed.output given) given (instance_of c root) (instance_of c' root) becomes i o.live in
        let i' = next.0 in
        let there = item_there c item o g right.process in
        let ready = became_ready (CompletesReady (templates c) c.clock item completed) shelves.items (instance_of c root) (instance_of c' root) shelves.ready i i' o.live next.1 in
        let f : Fact = record { item = item; output = completed.output } in
        let legal : IsLegal r q (CompletedBy f ∷ h)
        = record { fronts = (right.legal.fronts, λ m takes. absurd (none-some m takes)); awaited = (right.legal.awaited, right.stopped ∙ o.runs, awaited c item (open_as c item o) h i o.live right o.item o.there) } in
        let comes = output_comes r q right.served f h legal (right.stopped ∙ o.runs) in
        let happens = ready.completes g right.process in
        let moves = completed_moves (templates c) c.clock item completed g i.scope i'.scope ready.given shelves.items happens right.depth (seen h) (seen (CompletedBy f ∷ h)) (input_now c root)
        right.served.well right.served.served (counted_run h) comes (shows_now root i o.live o.runs) in
        let keeps = completed_keeps (templates c) c.clock item completed g i.scope i'.scope ready.given shelves.items happens right.depth (seen h) (seen (CompletedBy f ∷ h)) (input_now c root)
        right.served.well right.served.served (counted_run h) comes (shows_now root i o.live o.runs) in
        let named : IsNamed c item = record {
          graph = g;
          live = ap (option_and_then (λ (u : Instance). graph_of (templates c) u.template)) o.live ∙ right.process;
          leads = entry_leads (templates c) item.parts (stand g i.scope) o.item there.entered;
        } in
        shelved_so c c' _ shelves.stand
        (completion_shelves c c' root library others i i' o.live next.1 next.2.kept o.runs g right.process keeps (right_settles c root h i (are root i o.live) before) shelved item refl c.clock
        shelves.items named moves)

  pub completion_stays : (item : Path) (performer : Option Name) (settings : List Setting) (given : List Message) → IsOpen c item
      → ChangesRoot item.root (BecomesCompleted (templates c) item settings (item_of c item) given) c c' → CompletesShelves c item performer settings (item_of c item) c' → IsShelved c'
  completion_stays item performer settings given o changes shelves =
      completion item (record { output = filled settings (fresh o.item.activity.output); performer = performer }) given o changes.others
      (subst (λ (e : Option Entry). BecomesCompleted (templates c) item settings e given (instance_of c item.root) (instance_of c' item.root)) o.there changes.here)
      (subst (λ (e : Option Entry). CompletesShelves c item performer settings e c') o.there shelves)
