-- A root that is right goes on being right.
use Rattle.std.proofs.Common.{◌≡◌, ℕ, zero, suc, ◌==◌, Bool, true, false, if◌then◌else◌, List, [], ◌∷◌, ◌++◌, map, drop, Some, None, refl, ap, sym, ◌∙◌, subst, append-nil}
use Rattle.std.proofs.lemmas.Option.{none-some}
use Rattle.std.specs.Prelude.{slice_get}
use Rattle.std.specs.List.{filter}
use Rattle.std.proofs.Math.Path.{fun_ext}
use Rattle.flow_model.specs.ScopeContainers.{graph_of}
use Rattle.flow_model.specs.declared.graphs.Container.{Container}
use Rattle.flow_model.specs.declared.graphs.Graph.{Graph}
use Rattle.flow_model.specs.declared.graphs.Template.{Template}
use Rattle.flow_model.specs.declared.instances.Message.{Message}
use Rattle.flow_model.specs.declared.instances.Fact.{Fact}
use Rattle.flow_model.specs.declared.instances.Message.TheVariants.{Begin}
use Rattle.flow_model.specs.declared.instances.Path.{Path}
use Rattle.flow_model.specs.declared.names.Name.{Name}
use Rattle.library_laws.proofs.SameDue.{messages_kept}
use Rattle.library_laws.proofs.SameForm.{root_form}
use Rattle.library_laws.proofs.SameRuns.{run_kept}
use Rattle.library_laws.proofs.SameViews.{view_kept}
use Rattle.library_laws.specs.Larger.{Agrees}
use Rattle.navigator.proofs.OneChanged.{incoming_of, few_of}
use Rattle.navigator.proofs.Untouched.{fresh_shows}
use Rattle.navigator.specs.Driven.{IsServedRoot}
use Rattle.navigator.specs.Giving.{root_named, AreOf, Gives}
use Rattle.navigator.specs.Instances.{IsStarted}
use Rattle.navigator.specs.Showing.{note_in}
use Rattle.navigator.specs.Views.{Shows}
use Rattle.navigator.specs.declared.instance.HoldChange.{HoldChange}
use Rattle.navigator.specs.declared.instance.Instance.{Instance}
use Rattle.view_laws.proofs.WholeRuns.{running_is}
use Rattle.view_laws.specs.LegalRuns.{Awaits, IsLegal}
use Rattle.view_laws.specs.Messages.{Note, BeginNote}
use Rattle.view_laws.specs.Queues.{put, queue, first, TakesFronts}
use Rattle.view_laws.specs.Runs.{Root, Event, Started, Turned, Completed, Held, Stopped, is_stopped, running, has_started, seen, turned, due, due_now, engine}
use Rattle.root_laws.proofs.NextKnown.{counted_run, TellsNothing, still_seen, still_due, stopped_run, start_puts, turn_comes, output_comes, gives_put}
use Rattle.root_laws.proofs.NextQueues.{puts_nothing, queue_put, queue_taken}
use Rattle.root_laws.proofs.Putting.{Stand, both_stand, front_stands, taken_stand, put_stand}
use Rattle.root_laws.specs.Becoming.{TakesIn, CompletesIn, HoldsIn}
use Rattle.root_laws.specs.RightRoots.{Queued, none_queued, after_put, after_taken, AgreesOn, AreQueued, root_in, IsRight}

-- ---- messages

module _ (r : Root) (q : Note → ℕ) (served : IsServedRoot r) where
  -- they stand where they did after an event that puts and takes none
  queued_still : (e : Event) (h : List Event) (queued : Queued) → TakesFronts (engine r q) (e ∷ h) → turned e ≡ None → due r (e ∷ h) ≡ due r h
      → AreQueued r q h queued → AreQueued r q (e ∷ h) queued
  queued_still e h queued fronts idle same stand = λ k.
      let left = ap (λ l. queue (engine r q) h k ++ filter (λ m. q m == k) l) (puts_nothing r q e h same) ∙ append-nil (queue (engine r q) h k) in
      stand k ∙ ap (map Some) (sym (queue_put r q served.well e h fronts idle k ∙ left))

  module _ (queue_of : Message → ℕ) (given : List Message) (agrees : AgreesOn r.templates r.graph queue_of q given) where
    -- what an event puts is put
    queued_put : (e : Event) (h : List Event) (queued : Queued) → TakesFronts (engine r q) (e ∷ h) → turned e ≡ None
        → Stand (note_in r.templates r.graph) given (put (engine r q) e h) → AreQueued r q h queued → AreQueued r q (e ∷ h) (after_put queue_of given queued)
    queued_put e h queued fronts idle gives stand = λ k.
        both_stand (note_in r.templates r.graph) (queued k) (filter (λ m. queue_of m == k) given) (queue (engine r q) h k) (filter (λ n. q n == k) (put (engine r q) e h))
        (stand k) (put_stand (note_in r.templates r.graph) queue_of q k given (put (engine r q) e h) agrees gives)
        ∙ ap (map Some) (sym (queue_put r q served.well e h fronts idle k))

    -- and what a turn takes is taken
    queued_taken : (m : Note) (h : List Event) (queued : Queued) (n : ℕ) → TakesFronts (engine r q) (Turned m ∷ h) → first (queue (engine r q) h n) ≡ Some m
        → Stand (note_in r.templates r.graph) given (put (engine r q) (Turned m) h) → AreQueued r q h queued
        → AreQueued r q (Turned m ∷ h) (after_put queue_of given (after_taken n queued))
    queued_taken m h queued n fronts front gives stand = λ k.
        both_stand (note_in r.templates r.graph) (if k == n then drop 1 (queued k) else queued k) (filter (λ m. queue_of m == k) given)
        (if k == n then drop 1 (queue (engine r q) h k) else queue (engine r q) h k) (filter (λ n. q n == k) (put (engine r q) (Turned m) h))
        (taken_stand (note_in r.templates r.graph) (k == n) (queued k) (queue (engine r q) h k) (stand k))
        (put_stand (note_in r.templates r.graph) queue_of q k given (put (engine r q) (Turned m) h) agrees gives)
        ∙ ap (map Some) (sym (queue_taken r q served.well (Turned m) h fronts m refl n front k))

-- ---- a root

module _ (ts : List Template) (q : Note → ℕ) (h : List Event) (queued : Queued) (input : Container) (i i' : Instance) (right : IsRight ts q h queued input i) where
  abbrev the_root : Root
  the_root = root_in ts right.depth right.graph input

  -- it is right after one more event that leaves all but its scope: where the run may go on so, the state shows what is known then, and the messages stand in their queues
  next_right : (e : Event) (queued' : Queued) → i' ≡ record i { scope = i'.scope } → has_started (e ∷ h) ≡ has_started h → is_stopped (e ∷ h) ≡ is_stopped h
      → IsLegal the_root q (e ∷ h) → Shows ts right.depth (seen (running (e ∷ h))) right.graph input i'.scope → AreQueued the_root q (e ∷ h) queued'
      → IsRight ts q (e ∷ h) queued' input i'
  next_right e queued' kept started stopped legal shows messages = record {
    depth = right.depth;
    graph = right.graph;
    process = ap (λ (u : Instance). graph_of ts u.template) kept ∙ right.process;
    served = right.served;
    legal = legal;
    started = started ∙ right.started;
    stopped = stopped ∙ right.stopped ∙ sym (ap (λ (u : Instance). u.terminated) kept);
    shows = shows;
    messages = messages;
  }

  -- while it isn't terminated its state shows what the whole run tells
  shows_now : is_stopped h ≡ false → Shows ts right.depth (seen h) right.graph input i.scope
  shows_now runs = subst (λ (a : List Event). Shows ts right.depth (seen a) right.graph input i.scope) (running_is h runs) right.shows

  -- a scope that is the same shows the same
  shows_same : i'.scope ≡ i.scope → Shows ts right.depth (seen (running h)) right.graph input i'.scope
  shows_same same = subst (λ s. Shows ts right.depth (seen (running h)) right.graph input s) (sym same) right.shows

  pub holds_right : (item : Path) (change : HoldChange) (held : Bool) → HoldsIn ts item change i i' → IsRight ts q (Held item.parts held ∷ h) queued input i'
  holds_right item change held holds =
      let e : Event = Held item.parts held in
      let tells : TellsNothing e h = record { seen = refl; started = refl } in
      let legal : IsLegal the_root q (e ∷ h) = record { fronts = (right.legal.fronts, λ m takes. absurd (none-some m takes)); awaited = right.legal.awaited } in
      next_right e queued holds.kept refl refl legal
      (subst (λ k. Shows ts right.depth k right.graph input i'.scope) (sym (still_seen e h refl))
      (holds.shows right.graph right.process right.depth (seen (running h)) input right.shows))
      (queued_still the_root q right.served e h queued legal.fronts refl (still_due the_root e h tells) right.messages)

  pub stops_right : i' ≡ record i { terminated = true } → IsRight ts q (Stopped ∷ h) queued input i'
  stops_right is =
      let tells : TellsNothing Stopped h = record { seen = refl; started = refl } in
      let legal : IsLegal the_root q (Stopped ∷ h) = record { fronts = (right.legal.fronts, λ m takes. absurd (none-some m takes)); awaited = right.legal.awaited } in
      record {
        depth = right.depth;
        graph = right.graph;
        process = ap (λ (u : Instance). graph_of ts u.template) is ∙ right.process;
        served = right.served;
        legal = legal;
        started = right.started;
        stopped = sym (ap (λ (u : Instance). u.terminated) is);
        shows = subst (λ k. Shows ts right.depth k right.graph input i'.scope) (sym (still_seen Stopped h refl)) (shows_same (ap (λ (u : Instance). u.scope) is));
        messages = queued_still the_root q right.served Stopped h queued legal.fronts refl (still_due the_root Stopped h tells) right.messages;
      }

  pub mode_right : (suspended : Bool) → i' ≡ record i { suspended = suspended } → IsRight ts q h queued input i'
  mode_right suspended is = record {
    depth = right.depth;
    graph = right.graph;
    process = ap (λ (u : Instance). graph_of ts u.template) is ∙ right.process;
    served = right.served;
    legal = right.legal;
    started = right.started;
    stopped = right.stopped ∙ sym (ap (λ (u : Instance). u.terminated) is);
    shows = shows_same (ap (λ (u : Instance). u.scope) is);
    messages = right.messages;
  }

  -- what a completion gives became due by it
  gave_completed : (item : Path) (out : Container) (given : List Message) → i.terminated ≡ false → Awaits ts right.depth (seen h) right.graph input item.parts
      → CompletesIn ts item out given i i'
      → Gives item.root ts right.depth right.graph input (seen h) (seen (Completed (record { item = item; output = out }) ∷ h)) given
  gave_completed item out given lives awaits completes =
      let f : Fact = record { item = item; output = out } in
      let runs : is_stopped h ≡ false = right.stopped ∙ lives in
      let legal : IsLegal the_root q (Completed f ∷ h)
      = record { fronts = (right.legal.fronts, λ m takes. absurd (none-some m takes)); awaited = (right.legal.awaited, runs, awaits) } in
      completes.gives right.graph right.process right.depth (seen h) (seen (Completed f ∷ h)) input right.served.well right.served.served right.served.aimed (counted_run h)
      (output_comes the_root q right.served f h legal runs) (shows_now runs)

  -- and names its root
  pub completes_named : (item : Path) (out : Container) (given : List Message) → i.terminated ≡ false → Awaits ts right.depth (seen h) right.graph input item.parts
      → CompletesIn ts item out given i i' → AreOf item.root given
  completes_named item out given lives awaits completes = (gave_completed item out given lives awaits completes).named

  pub completes_right : (queue_of : Message → ℕ) (item : Path) (out : Container) (given : List Message) → i.terminated ≡ false
      → Awaits ts right.depth (seen h) right.graph input item.parts → CompletesIn ts item out given i i' → AgreesOn ts right.graph queue_of q given
      → IsRight ts q (Completed (record { item = item; output = out }) ∷ h) (after_put queue_of given queued) input i'
  completes_right queue_of item out given lives awaits completes agrees =
      let f : Fact = record { item = item; output = out } in
      let runs : is_stopped h ≡ false = right.stopped ∙ lives in
      let legal : IsLegal the_root q (Completed f ∷ h)
      = record { fronts = (right.legal.fronts, λ m takes. absurd (none-some m takes)); awaited = (right.legal.awaited, runs, awaits) } in
      let on : running (Completed f ∷ h) ≡ Completed f ∷ h = running_is (Completed f ∷ h) runs in
      let comes = output_comes the_root q right.served f h legal runs in
      next_right (Completed f) (after_put queue_of given queued) completes.kept refl refl legal
      (subst (λ (a : List Event). Shows ts right.depth (seen a) right.graph input i'.scope) (sym on)
      (completes.shows right.graph right.process right.depth (seen h) (seen (Completed f ∷ h)) input right.served.well right.served.served (counted_run h) comes (shows_now runs)))
      (queued_put the_root q right.served queue_of given agrees (Completed f) h queued legal.fronts refl
      (gives_put the_root h (Completed f) given right.started runs on (gave_completed item out given lives awaits completes).due q) right.messages)

  -- ---- turns

  module _ (n : ℕ) (message : Message) (given : List Message) (takes : TakesIn ts message given i i')
      (note : Note) (is : note_in ts right.graph message ≡ Some note) (front : first (queue (engine the_root q) h n) ≡ Some note) where
    legal_turn : IsLegal the_root q (Turned note ∷ h)
    legal_turn = record {
      fronts = (right.legal.fronts, λ m takes. (n, front ∙ takes));
      awaited = right.legal.awaited;
    }

    -- what a turn gives became due by it
    gave_turned : i.terminated ≡ false → Gives (root_named message) ts right.depth right.graph input (seen h) (seen (Turned note ∷ h)) given
    gave_turned lives =
        let runs : is_stopped h ≡ false = right.stopped ∙ lives in
        takes.gives lives right.graph right.process note is right.depth (seen h) (seen (Turned note ∷ h)) input right.served.well right.served.served right.served.aimed (counted_run h)
        (turn_comes the_root q right.served note h legal_turn runs) (shows_now runs)

    -- and names its root
    named : (b : Bool) → i.terminated ≡ b → AreOf (root_named message) given
    named false lives = (gave_turned lives).named
    named true dead = subst (AreOf (root_named message)) (sym (takes.idle dead).1) (λ k m there. absurd (none-some m there))

    turns : (queue_of : Message → ℕ) → AgreesOn ts right.graph queue_of q given → (b : Bool) → i.terminated ≡ b
        → IsRight ts q (Turned note ∷ h) (after_put queue_of given (after_taken n queued)) input i'
    turns queue_of agrees false lives =
        let runs : is_stopped h ≡ false = right.stopped ∙ lives in
        let on : running (Turned note ∷ h) ≡ Turned note ∷ h = running_is (Turned note ∷ h) runs in
        let comes = turn_comes the_root q right.served note h legal_turn runs in
        next_right (Turned note) (after_put queue_of given (after_taken n queued)) takes.kept refl refl legal_turn
        (subst (λ (a : List Event). Shows ts right.depth (seen a) right.graph input i'.scope) (sym on)
        (takes.shows lives right.graph right.process note is right.depth (seen h) (seen (Turned note ∷ h)) input right.served.well right.served.served (counted_run h) comes (shows_now runs)))
        (queued_taken the_root q right.served queue_of given agrees note h queued n legal_turn.fronts front
        (gives_put the_root h (Turned note) given right.started runs on (gave_turned lives).due q) right.messages)
    turns queue_of agrees true dead =
        let same : running (Turned note ∷ h) ≡ running h = stopped_run (Turned note) h (right.stopped ∙ dead) in
        let idle = takes.idle dead in
        let nothing : put (engine the_root q) (Turned note) h ≡ [] = puts_nothing the_root q (Turned note) h (ap (due_now the_root) same) in
        next_right (Turned note) (after_put queue_of given (after_taken n queued)) takes.kept refl refl legal_turn
        (subst (λ (a : List Event). Shows ts right.depth (seen a) right.graph input i'.scope) (sym same) (shows_same (ap (λ (u : Instance). u.scope) idle.0)))
        (queued_taken the_root q right.served queue_of given agrees note h queued n legal_turn.fronts front
        (ap (map (note_in ts right.graph)) idle.1 ∙ ap (map Some) (sym nothing)) right.messages)

  -- a message of the queue is one of the run, and what its turn gives names its root
  pub turns_named : (n : ℕ) (message : Message) (given : List Message) → slice_get (queued n) 0 ≡ Some message → TakesIn ts message given i i' → AreOf (root_named message) given
  turns_named n message given there takes =
      let found = front_stands (note_in ts right.graph) (queued n) (queue (engine the_root q) h n) message (right.messages n) there in
      named n message given takes found.0 found.1 found.2 i.terminated refl

  pub turns_right : (queue_of : Message → ℕ) (n : ℕ) (message : Message) (given : List Message) → slice_get (queued n) 0 ≡ Some message
      → TakesIn ts message given i i' → AgreesOn ts right.graph queue_of q given
      → (note : Note) × (note_in ts right.graph message ≡ Some note) × IsRight ts q (Turned note ∷ h) (after_put queue_of given (after_taken n queued)) input i'
  turns_right queue_of n message given there takes agrees =
      let found = front_stands (note_in ts right.graph) (queued n) (queue (engine the_root q) h n) message (right.messages n) there in
      (found.0, found.1, turns n message given takes found.0 found.1 found.2 queue_of agrees i.terminated refl)

-- so it is where each queue is written in another way
pub requeued : (ts : List Template) (q : Note → ℕ) (h : List Event) (queued queued' : Queued) (input : Container) (i : Instance) → ((n : ℕ) → queued' n ≡ queued n)
    → IsRight ts q h queued input i → IsRight ts q h queued' input i
requeued ts q h queued queued' input i same right = subst (λ (each : Queued). IsRight ts q h each input i) (sym (fun_ext same)) right

-- ---- a larger library

pub imports_right : (ts ts' : List Template) (q : Note → ℕ) (h : List Event) (queued : Queued) (input : Container) (i : Instance) → Agrees ts ts' → IsRight ts q h queued input i → IsRight ts' q h queued input i
imports_right ts ts' q h queued input i agrees right =
    let r = root_in ts right.depth right.graph input in
    let kept = messages_kept ts' r q agrees right.served.served in
    record {
      depth = right.depth;
      graph = right.graph;
      process = agrees i.template right.graph right.process;
      served = root_form ts' r agrees right.served;
      legal = run_kept ts' r q h agrees right.served.served right.legal;
      started = right.started;
      stopped = right.stopped;
      shows = (view_kept ts ts' right.depth right.depth (seen (running h)) right.graph input i.scope agrees right.served.served).there right.shows;
      messages = λ n. ap (λ f. map f (queued n)) (fun_ext kept.places) ∙ right.messages n ∙ ap (λ x. map Some (queue x h n)) (sym kept.queues);
    }

-- ---- the start

pub starts_right : (ts : List Template) (q : Note → ℕ) (queue_of : Message → ℕ) (t number depth : ℕ) (g : Graph) (name : Name) (input : Container) (i : Instance)
    → graph_of ts t ≡ Some g → IsServedRoot (root_in ts depth g input) → IsStarted ts t number name input i
    → queue_of (Begin (record { root = number; parts = [] })) ≡ q (BeginNote [])
    → IsRight ts q (Started ∷ []) (after_put queue_of (Begin (record { root = number; parts = [] }) ∷ []) none_queued) input i
starts_right ts q queue_of t number depth g name input i of served starts same =
    let legal : IsLegal (root_in ts depth g input) q (Started ∷ []) = record { fronts = (tt, λ m takes. absurd (none-some m takes)); awaited = tt } in
    record {
      depth = depth;
      graph = g;
      process = ap (graph_of ts) starts.template ∙ of;
      served = served;
      legal = legal;
      started = refl;
      stopped = sym starts.lives;
      shows = fresh_shows ts depth (seen []) g input i.scope (starts.scope g of) (record { unbegun = refl; unsent = λ a b. refl })
          (incoming_of ts depth g served.served) (few_of ts depth g served.served);
      messages = queued_put (root_in ts depth g input) q served queue_of (Begin (record { root = number; parts = [] }) ∷ []) agrees Started [] none_queued legal.fronts refl
          (ap (map Some) (sym (start_puts (root_in ts depth g input) q))) (λ n. refl);
    }
  where
    agrees : AgreesOn ts g queue_of q (Begin (record { root = number; parts = [] }) ∷ [])
    agrees zero m note is named =
        let m_is : Begin (record { root = number; parts = [] }) ≡ m = cc in
        let note_is : BeginNote [] ≡ note = (let both : Some (BeginNote []) ≡ Some note = ap (note_in ts g) m_is ∙ named in cc) in
        sym (ap queue_of m_is) ∙ same ∙ ap q note_is
    agrees (suc k) m note is named = absurd (none-some m is)
