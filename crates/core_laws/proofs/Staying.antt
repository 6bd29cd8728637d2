-- A state stays right with each transaction.
use Rattle.std.proofs.Common.{◌≡◌, ℕ, zero, suc, ◌-◌, ◌<◌, ◌≤◌, ◌==◌, Bool, true, false, if◌then◌else◌, List, [], ◌∷◌, ◌++◌, drop, length, Option, Some, None, refl, ap, sym, subst, ◌∙◌, inl, inr, append-nil}
use Rattle.std.proofs.Math.Path.{fun_ext}
use Rattle.std.proofs.lemmas.Bool.Decides.{eqb_tells}
use Rattle.std.proofs.lemmas.List.{length-set}
use Rattle.std.proofs.lemmas.Option.{none-some}
use Rattle.std.specs.List.{filter}
use Rattle.std.specs.Prelude.{slice_get, option_and_then}
use Rattle.containers.specs.Settings.{filled}
use Rattle.flow_core.proofs.Putting.{put_length}
use Rattle.flow_core.specs.Answers.{instance_of}
use Rattle.flow_core.specs.Driving.{templates, graph_now, queue_now, queue_in, put_in, IfLive, BecomesQuietly, BecomesStarted, BecomesCompleted, StartsIn, item_of, entry_in, entry_with, program_in, program_entry, ChangesRoot, Drives}
use Rattle.flow_core.specs.Facts.{start_settings}
use Rattle.flow_core.specs.declared.state.Core.{Core}
use Rattle.flow_model.specs.Containers.{fresh}
use Rattle.flow_model.specs.ScopeContainers.{graph_of}
use Rattle.flow_model.specs.declared.graphs.Container.{Container}
use Rattle.flow_model.specs.declared.graphs.Graph.{Graph}
use Rattle.flow_model.specs.declared.graphs.Program.{Program as ProgramOf}
use Rattle.flow_model.specs.declared.graphs.Template.{Template}
use Rattle.flow_model.specs.declared.instances.Message.{Message}
use Rattle.flow_model.specs.declared.instances.Message.TheVariants.{Begin}
use Rattle.flow_model.specs.declared.instances.Path.{Path}
use Rattle.flow_model.specs.declared.names.Name.{Name}
use Rattle.flow_model.specs.declared.transactions.Setting.{Setting}
use Rattle.flow_model.specs.declared.transactions.Transaction.{Transaction}
use Rattle.flow_model.specs.declared.transactions.Transaction.TheVariants.{Import, Start, Turn, Claim, Release, Transfer, Take, Done, Force, Restart, Suspend, Resume, Terminate, Delete, Clock}
use Rattle.library_laws.specs.Larger.{Agrees}
use Rattle.navigator.specs.Items.{Entry, stand, entry_at}
use Rattle.navigator.specs.Serving.{Served}
use Rattle.navigator.specs.Showing.{note_in}
use Rattle.navigator.specs.Views.{Shows}
use Rattle.navigator.specs.declared.instance.HoldChange.{HoldChange}
use Rattle.navigator.specs.declared.instance.HoldChange.TheVariants as hold
use Rattle.navigator.specs.declared.instance.Instance.{Instance}
use Rattle.recover_queue.specs.Queues.{queue, with_queue, root_of}
use Rattle.root_laws.proofs.GoesOn.{holds_right, stops_right, mode_right, completes_right, turns_right, requeued, imports_right, starts_right}
use Rattle.root_laws.proofs.OpenItems.{open_awaited}
use Rattle.root_laws.specs.Becoming.{TakesIn, CompletesIn, HoldsIn}
use Rattle.root_laws.specs.RightRoots.{Queued, none_queued, after_put, after_taken, AgreesOn, IsRight}
use Rattle.view_laws.proofs.WholeRuns.{running_is}
use Rattle.view_laws.specs.LegalRuns.{Awaits}
use Rattle.view_laws.specs.Messages.{Note, BeginNote}
use Rattle.view_laws.specs.Runs.{Event, Started, Turned, Completed, Held, Stopped, seen}
use Rattle.core_laws.proofs.Places.{place_same, queue_is, queue_low, queue_high}
use Rattle.core_laws.proofs.Standing.{messages_put, all_kept, none_kept, front_of_root, taken_here, taken_there}
use Rattle.core_laws.proofs.Asked.{IsOpen, IsNew, AreOf, KeepsStarts, MayBe}
use Rattle.core_laws.specs.RightStates.{messages_in, place_queue, note_queue, input_by, input_now, IsRightRoot, AreRight, with_turn, with_output, note_now, runs_after}

pub begins : (c : Core) → ((root : ℕ) → instance_of c root ≡ None) → AreRight c (λ root. [])
begins c none root i live = absurd (none-some i (sym (none root) ∙ live))

-- a root that is right is so in a larger library, with its queues written in another way
carried : (ts ts' : List Template) (q q' : Note → ℕ) (h : List Event) (queued queued' : Queued) (input : Container) (i : Instance) → Agrees ts ts' → ((note : Note) → q' note ≡ q note)
    → ((n : ℕ) → queued' n ≡ queued n) → IsRight ts q h queued input i → IsRight ts' q' h queued' input i
carried ts ts' q q' h queued queued' input i agrees same stand right =
    subst (λ (f : Note → ℕ). IsRight ts' f h queued' input i) (sym (fun_ext same)) (requeued ts' q h queued queued' input i stand (imports_right ts ts' q h queued input i agrees right))

-- what became of a root that is live was of one that was
pub if_live : (becomes : Instance → Instance → Type 0) (given : List Message) (before after : Option Instance) → IfLive becomes given before after
    → (i' : Instance) → after ≡ Some i' → (i : Instance) × (before ≡ Some i) × becomes i i'
if_live becomes given None after is i' live = absurd (none-some i' (sym is.0 ∙ live))
if_live becomes given (Some i) None is i' live = absurd is
if_live becomes given (Some i) (Some j) is i' live = let same : j ≡ i' = cc in (i, refl, subst (λ (u : Instance). becomes i u) same is)

-- messages that are none are of any root, and the BEGIN of a root is of it
pub none_of : (root : ℕ) (given : List Message) → given ≡ [] → AreOf root given
none_of root given none = subst (λ ms. AreOf root ms) (sym none) (λ k m there. absurd (none-some m there))

begin_of : (root : ℕ) → AreOf root (Begin (record { root = root; parts = [] }) ∷ [])
begin_of root zero m there = let same : Begin (record { root = root; parts = [] }) ≡ m = cc in sym (ap root_of same)
begin_of root (suc k) m there = absurd (none-some m there)

-- ---- from a state to one whose queues have what is given behind what was left

module _ (c c' : Core) (given : List Message) (qs : List (List Message)) (queues : c'.queues ≡ put_in (queue_now c') given qs) (many : length qs ≡ length c.queues)
    (some_ : 1 ≤ length c.queues) (library : Agrees (templates c) (templates c')) (starts : KeepsStarts c c') where
  count_same : length c'.queues ≡ length c.queues
  count_same = ap length queues ∙ put_length (queue_now c') given qs ∙ many

  high : (m : Message) → queue_now c' m - 1 < length qs
  high m =
      subst (λ n. queue_now c' m - 1 < n) (count_same ∙ sym many)
      (queue_high (templates c') (length c'.queues) (graph_now c' (root_of m)) m (subst (λ n. 1 ≤ n) (sym count_same) some_))

  stand_after : (root n : ℕ) → messages_in c'.queues root n ≡ after_put (queue_now c') (filter (λ m. root_of m == root) given) (messages_in qs root) n
  stand_after root n =
      ap (λ l. messages_in l root n) queues
      ∙ messages_put root (queue_now c') given qs (λ m. queue_low (templates c') (length c'.queues) (graph_now c' (root_of m)) m) high n

  stand_given : (root : ℕ) → AreOf root given → (n : ℕ) → messages_in c'.queues root n ≡ after_put (queue_now c') given (messages_in qs root) n
  stand_given root are n = stand_after root n ∙ ap (λ l. messages_in qs root n ++ filter (λ m. queue_now c' m == n) l) (all_kept root given are)

  pub stand_still : (root : ℕ) → filter (λ m. root_of m == root) given ≡ [] → ((n : ℕ) → messages_in qs root n ≡ messages_in c.queues root n)
      → (n : ℕ) → messages_in c'.queues root n ≡ messages_in c.queues root n
  stand_still root none left n =
      stand_after root n
      ∙ ap (λ l. messages_in qs root n ++ filter (λ m. queue_now c' m == n) l) none
      ∙ append-nil (messages_in qs root n)
      ∙ left n

  -- ---- one root

  later : (root : ℕ) (i' : Instance) → instance_of c' root ≡ Some i' → (g : Graph) → graph_of (templates c) i'.template ≡ Some g → graph_now c' root ≡ Some g
  later root i' live' g of = ap (option_and_then (λ (u : Instance). graph_of (templates c') u.template)) live' ∙ library i'.template g of

  now : (root : ℕ) (i : Instance) → instance_of c root ≡ Some i → (g : Graph) → graph_of (templates c) i.template ≡ Some g → graph_now c root ≡ Some g
  now root i live g of = ap (option_and_then (λ (u : Instance). graph_of (templates c) u.template)) live ∙ of

  now_is : (root : ℕ) (i : Instance) → instance_of c root ≡ Some i → (g : Graph) → graph_of (templates c) i.template ≡ Some g → (note : Note)
      → note_queue c root note ≡ place_queue (templates c) (length c.queues) root (Some g) note
  now_is root i live g of note = ap (λ o. place_queue (templates c) (length c.queues) root o note) (now root i live g of)

  goes_on : (root : ℕ) (i' : Instance) → instance_of c' root ≡ Some i' → (q : Note → ℕ) (h' : List Event) (queued' : Queued) (input : Container) → i'.root ≡ root
      → ((g : Graph) → graph_of (templates c) i'.template ≡ Some g → (note : Note) → q note ≡ place_queue (templates c) (length c.queues) root (Some g) note)
      → ((n : ℕ) → messages_in c'.queues root n ≡ queued' n) → (right : IsRight (templates c) q h' queued' input i')
      → ((g : Graph) → graph_of (templates c) i'.template ≡ Some g → input ≡ input_by (start_settings root c'.live.items) (Some g)) → IsRightRoot c' root h' i'
  goes_on root i' live' q h' queued' input number placed stand right told = record {
    number = number;
    right = subst (λ (x : Container). IsRight (templates c') (note_queue c' root) h' (messages_in c'.queues root) x i') filled_so
        (carried (templates c) (templates c') q (note_queue c' root) h' queued' (messages_in c'.queues root) input i' library same stand right);
  }
    where
      filled_so : input ≡ input_now c' root
      filled_so = told right.graph right.process ∙ ap (input_by (start_settings root c'.live.items)) (sym (later root i' live' right.graph right.process))

      same : (note : Note) → note_queue c' root note ≡ q note
      same note =
          ap (λ o. place_queue (templates c') (length c'.queues) root o note) (later root i' live' right.graph right.process)
          ∙ ap (λ n. place_queue (templates c') n root (Some right.graph) note) count_same
          ∙ place_same (templates c) (templates c') library right.depth right.graph right.served.served (length c.queues) root note
          ∙ sym (placed right.graph right.process note)

  -- the input of a root that stays live is told as it was
  input_still : (root : ℕ) (i i' : Instance) → instance_of c root ≡ Some i → instance_of c' root ≡ Some i' → i'.template ≡ i.template → (g : Graph) → graph_of (templates c) i'.template ≡ Some g
      → input_now c root ≡ input_by (start_settings root c'.live.items) (Some g)
  input_still root i i' live live' template g of =
      ap (input_by (start_settings root c.live.items)) (now root i live g (ap (graph_of (templates c)) (sym template) ∙ of))
      ∙ ap (λ settings. input_by settings (Some g)) (sym (starts root i i' live live'))

  agrees : (root : ℕ) (i i' : Instance) → instance_of c root ≡ Some i → instance_of c' root ≡ Some i' → i'.template ≡ i.template → (levels : ℕ) (g : Graph)
      → graph_of (templates c) i.template ≡ Some g → Served (templates c) levels g → AreOf root given → AgreesOn (templates c) g (queue_now c') (note_queue c root) given
  agrees root i i' live live' template levels g of served are = λ k m note there named.
      ap (λ r. queue_in (templates c') (length c'.queues) (graph_now c' r) m) (are k m there)
      ∙ ap (λ o. queue_in (templates c') (length c'.queues) o m) (later root i' live' g (ap (graph_of (templates c)) template ∙ of))
      ∙ ap (λ n. queue_in (templates c') n (Some g) m) count_same
      ∙ queue_is (templates c) (templates c') g (length c.queues) root m note named (are k m there)
      ∙ place_same (templates c) (templates c') library levels g served (length c.queues) root note
      ∙ sym (now_is root i live g of note)

  -- a root of which nothing is said or taken
  still : (root : ℕ) (h h' : List Event) (i i' : Instance) → instance_of c root ≡ Some i → instance_of c' root ≡ Some i' → i'.template ≡ i.template → i'.root ≡ i.root
      → filter (λ m. root_of m == root) given ≡ [] → ((n : ℕ) → messages_in qs root n ≡ messages_in c.queues root n)
      → IsRightRoot c root h i → IsRight (templates c) (note_queue c root) h' (messages_in c.queues root) (input_now c root) i' → IsRightRoot c' root h' i'
  still root h h' i i' live live' template same none left was right =
      goes_on root i' live' (note_queue c root) h' (messages_in c.queues root) (input_now c root) (same ∙ was.number)
      (λ g of note. now_is root i live g (ap (graph_of (templates c)) (sym template) ∙ of) note)
      (stand_still root none left) right (input_still root i i' live live' template)

  -- all roots, where the others stay as they are
  pub each : (about : ℕ) (runs : ℕ → List Event) (after : List Event → List Event) → AreRight c runs
      → ((other : ℕ) → (other ≡ about → ⊥) → instance_of c' other ≡ instance_of c other) → AreOf about given
      → ((other : ℕ) → (other ≡ about → ⊥) → (n : ℕ) → messages_in qs other n ≡ messages_in c.queues other n)
      → ((i' : Instance) → instance_of c' about ≡ Some i' → IsRightRoot c' about (after (runs about)) i')
      → (root : ℕ) (i' : Instance) → instance_of c' root ≡ Some i' → IsRightRoot c' root (if about == root then after (runs root) else runs root) i'
  each about runs after are others of left here root i' live' = elim (eqb_tells about root) [
    | inl is ↦
        subst (λ (l : List Event). IsRightRoot c' root l i') (sym (ap (λ b. if b then after (runs root) else runs root) is.0))
        (subst (λ (r : ℕ). (j : Instance) → instance_of c' r ≡ Some j → IsRightRoot c' r (after (runs r)) j) is.1 here i' live')
    | inr other ↦
        let apart : root ≡ about → ⊥ = λ e. other.1 (sym e) in
        let live : instance_of c root ≡ Some i' = sym (others root apart) ∙ live' in
        let was = are root i' live in
        subst (λ (l : List Event). IsRightRoot c' root l i') (sym (ap (λ b. if b then after (runs root) else runs root) other.0))
        (still root (runs root) (runs root) i' i' live live' refl refl (none_kept about root apart given of) (left root apart) was was.right)
  ]

-- ---- transactions that give and take nothing

module _ (c c' : Core) (root : ℕ) (h : List Event) (was : (i : Instance) → instance_of c root ≡ Some i → IsRightRoot c root h i) (given : List Message)
    (queues : c'.queues ≡ put_in (queue_now c') given c.queues) (some_ : 1 ≤ length c.queues) (library : Agrees (templates c) (templates c')) (starts : KeepsStarts c c') where
  quietly : (h' : List Event) (i i' : Instance) → instance_of c root ≡ Some i → instance_of c' root ≡ Some i' → given ≡ [] → i'.template ≡ i.template → i'.root ≡ i.root
      → IsRight (templates c) (note_queue c root) h' (messages_in c.queues root) (input_now c root) i' → IsRightRoot c' root h' i'
  quietly h' i i' live live' none template same right =
      still c c' given c.queues queues refl some_ library starts root h h' i i' live live' template same (ap (filter (λ m. root_of m == root)) none) (λ n. refl) (was i live) right

  pub held : (item : Path) (change : HoldChange) (b : Bool) → BecomesQuietly (HoldsIn (templates c) item change) given (instance_of c root) (instance_of c' root)
      → (i' : Instance) → instance_of c' root ≡ Some i' → IsRightRoot c' root (Held item.parts b ∷ h) i'
  held item change b becomes i' live' =
      let found = if_live (HoldsIn (templates c) item change) given (instance_of c root) (instance_of c' root) becomes.0 i' live' in
      quietly (Held item.parts b ∷ h) found.0 i' found.1 live' becomes.1 (ap (λ (u : Instance). u.template) found.2.kept) (ap (λ (u : Instance). u.root) found.2.kept)
      (holds_right (templates c) (note_queue c root) h (messages_in c.queues root) (input_now c root) found.0 i' (was found.0 found.1).right item change b found.2)

  pub suspended : (b : Bool) → BecomesQuietly (λ i i'. i' ≡ record i { suspended = b }) given (instance_of c root) (instance_of c' root)
      → (i' : Instance) → instance_of c' root ≡ Some i' → IsRightRoot c' root h i'
  suspended b becomes i' live' =
      let found = if_live (λ i i'. i' ≡ record i { suspended = b }) given (instance_of c root) (instance_of c' root) becomes.0 i' live' in
      quietly h found.0 i' found.1 live' becomes.1 (ap (λ (u : Instance). u.template) found.2) (ap (λ (u : Instance). u.root) found.2)
      (mode_right (templates c) (note_queue c root) h (messages_in c.queues root) (input_now c root) found.0 i' (was found.0 found.1).right b found.2)

  pub terminated : BecomesQuietly (λ i i'. i' ≡ record i { terminated = true }) given (instance_of c root) (instance_of c' root)
      → (i' : Instance) → instance_of c' root ≡ Some i' → IsRightRoot c' root (Stopped ∷ h) i'
  terminated becomes i' live' =
      let found = if_live (λ i i'. i' ≡ record i { terminated = true }) given (instance_of c root) (instance_of c' root) becomes.0 i' live' in
      quietly (Stopped ∷ h) found.0 i' found.1 live' becomes.1 (ap (λ (u : Instance). u.template) found.2) (ap (λ (u : Instance). u.root) found.2)
      (stops_right (templates c) (note_queue c root) h (messages_in c.queues root) (input_now c root) found.0 i' (was found.0 found.1).right found.2)

  pub stays : given ≡ [] → instance_of c' root ≡ instance_of c root → (i' : Instance) → instance_of c' root ≡ Some i' → IsRightRoot c' root h i'
  stays none same i' live' =
      let live : instance_of c root ≡ Some i' = sym same ∙ live' in
      quietly h i' i' live live' none refl refl (was i' live).right

-- ---- a turn

module _ (c c' : Core) (number : ℕ) (message : Message) (given : List Message)
    (queues : c'.queues ≡ put_in (queue_now c') given (with_queue c.queues number (drop 1 (queue c.queues number)))) (some_ : 1 ≤ length c.queues)
    (library : Agrees (templates c) (templates c')) (starts : KeepsStarts c c') (of : AreOf (root_of message) given) (low : 1 ≤ number) (front : slice_get (queue c.queues number) 0 ≡ Some message) where
  abbrev left : List (List Message)
  left = with_queue c.queues number (drop 1 (queue c.queues number))

  many_left : length left ≡ length c.queues
  many_left = length-set c.queues (number - 1) (drop 1 (queue c.queues number))

  -- the run goes on with the note of the message
  turn_noted : (h : List Event) (i i' : Instance) (live : instance_of c (root_of message) ≡ Some i) → instance_of c' (root_of message) ≡ Some i'
      → (was : IsRightRoot c (root_of message) h i) → TakesIn (templates c) message given i i' → (note : Note) → note_in (templates c) was.right.graph message ≡ Some note
      → IsRight (templates c) (note_queue c (root_of message)) (Turned note ∷ h)
      (after_put (queue_now c') given (after_taken number (messages_in c.queues (root_of message)))) (input_now c (root_of message)) i'
      → IsRightRoot c' (root_of message) (with_turn (note_now c message) h) i'
  turn_noted h i i' live live' was takes note named right =
      let root = root_of message in
      let template : i'.template ≡ i.template = ap (λ (u : Instance). u.template) takes.kept in
      let noted : note_now c message ≡ Some note
      = ap (option_and_then (λ g. note_in (templates c) g message)) (now c c' given left queues many_left some_ library starts root i live was.right.graph was.right.process) ∙ named in
      subst (λ (o : Option Note). IsRightRoot c' root (with_turn o h) i') (sym noted)
      (goes_on c c' given left queues many_left some_ library starts root i' live' (note_queue c root) (Turned note ∷ h)
      (after_put (queue_now c') given (after_taken number (messages_in c.queues root))) (input_now c root)
      (ap (λ (u : Instance). u.root) takes.kept ∙ was.number)
      (λ g there n. now_is c c' given left queues many_left some_ library starts root i live g (ap (graph_of (templates c)) (sym template) ∙ there) n)
      (λ n. stand_given c c' given left queues many_left some_ library starts root of n
      ∙ ap (λ l. l ++ filter (λ m. queue_now c' m == n) given) (taken_here root c.queues number message low front refl n))
      right (input_still c c' given left queues many_left some_ library starts root i i' live live' template))

  turned_right : (h : List Event) → ((i : Instance) → instance_of c (root_of message) ≡ Some i → IsRightRoot c (root_of message) h i)
      → IfLive (TakesIn (templates c) message given) given (instance_of c (root_of message)) (instance_of c' (root_of message))
      → (i' : Instance) → instance_of c' (root_of message) ≡ Some i' → IsRightRoot c' (root_of message) (with_turn (note_now c message) h) i'
  turned_right h was becomes i' live' =
      let root = root_of message in
      let found = if_live (TakesIn (templates c) message given) given (instance_of c root) (instance_of c' root) becomes i' live' in
      let right = (was found.0 found.1).right in
      let turns = turns_right (templates c) (note_queue c root) h (messages_in c.queues root) (input_now c root) found.0 i' right (queue_now c') number message given
      (front_of_root root c.queues number message low front refl) found.2
      (agrees c c' given left queues many_left some_ library starts root found.0 i' found.1 live' (ap (λ (u : Instance). u.template) found.2.kept)
      right.depth right.graph right.process right.served.served of) in
      turn_noted h found.0 i' found.1 live' (was found.0 found.1) found.2 turns.0 turns.1 turns.2

-- ---- a completion

entry_is : (x e : Entry) (o : Option ProgramOf) → entry_with x o ≡ Some e → Some x ≡ Some e
entry_is x e None is = absurd (none-some e is)
entry_is x e (Some p) is = is

pub program_is : (o : Option Entry) (e : Entry) → program_entry o ≡ Some e → o ≡ Some e
program_is None e is = is
program_is (Some x) e is = entry_is x e (program_in x.activity.work) is

module _ (c : Core) (item : Path) (open_ : IsOpen c item) where
  -- the item that is there is awaited
  pub awaited : (h : List Event) (i : Instance) → instance_of c item.root ≡ Some i → (right : IsRight (templates c) (note_queue c item.root) h (messages_in c.queues item.root) (input_now c item.root) i)
      → (e : Entry) → item_of c item ≡ Some e → Awaits (templates c) right.depth (seen h) right.graph (input_now c item.root) item.parts
  awaited h i live right e is =
      let opened = open_ i e live is in
      let there : option_and_then (entry_in (templates c) item) (instance_of c item.root) ≡ Some e
      = program_is (option_and_then (entry_in (templates c) item) (instance_of c item.root)) e is in
      let entered : entry_at (templates c) item.parts (stand right.graph i.scope) ≡ Some e
      = sym (ap (option_and_then (λ g. entry_at (templates c) item.parts (stand g i.scope))) right.process)
      ∙ sym (ap (option_and_then (entry_in (templates c) item)) live) ∙ there in
      open_awaited (templates c) item.parts right.depth (seen h) (input_now c item.root) (stand right.graph i.scope) e
      (subst (λ (a : List Event). Shows (templates c) right.depth (seen a) right.graph (input_now c item.root) i.scope) (running_is h (right.stopped ∙ opened.0)) right.shows)
      opened.1 entered

module _ (c c' : Core) (item : Path) (settings : List Setting) (given : List Message) (queues : c'.queues ≡ put_in (queue_now c') given c.queues) (some_ : 1 ≤ length c.queues)
    (library : Agrees (templates c) (templates c')) (starts : KeepsStarts c c') (of : AreOf item.root given) (open_ : IsOpen c item) where
  completes : (h : List Event) (i i' : Instance) → instance_of c item.root ≡ Some i → instance_of c' item.root ≡ Some i' → IsRightRoot c item.root h i
      → (e : Entry) → item_of c item ≡ Some e → CompletesIn (templates c) item (filled settings (fresh e.activity.output)) given i i'
      → IsRightRoot c' item.root (with_output item settings (Some e) h) i'
  completes h i i' live live' was e is completed =
      let root = item.root in
      let out = filled settings (fresh e.activity.output) in
      let right = was.right in
      let template : i'.template ≡ i.template = ap (λ (u : Instance). u.template) completed.kept in
      goes_on c c' given c.queues queues refl some_ library starts root i' live' (note_queue c root) (Completed (record { item = item; output = out }) ∷ h)
      (after_put (queue_now c') given (messages_in c.queues root)) (input_now c root)
      (ap (λ (u : Instance). u.root) completed.kept ∙ was.number)
      (λ g there note. now_is c c' given c.queues queues refl some_ library starts root i live g (ap (graph_of (templates c)) (sym template) ∙ there) note)
      (stand_given c c' given c.queues queues refl some_ library starts root of)
      (completes_right (templates c) (note_queue c root) h (messages_in c.queues root) (input_now c root) i i' right (queue_now c') item out given (open_ i e live is).0
      (awaited c item open_ h i live right e is) completed
      (agrees c c' given c.queues queues refl some_ library starts root i i' live live' template right.depth right.graph right.process right.served.served of))
      (input_still c c' given c.queues queues refl some_ library starts root i i' live live' template)

  completed_right : (h : List Event) → ((i : Instance) → instance_of c item.root ≡ Some i → IsRightRoot c item.root h i)
      → (o : Option Entry) → item_of c item ≡ o → BecomesCompleted (templates c) item settings o given (instance_of c item.root) (instance_of c' item.root)
      → (i' : Instance) → instance_of c' item.root ≡ Some i' → IsRightRoot c' item.root (with_output item settings o h) i'
  completed_right h was None none becomes i' live' = stays c c' item.root h was given queues some_ library starts becomes.1 becomes.0 i' live'
  completed_right h was (Some e) is becomes i' live' =
      let found
      = if_live (CompletesIn (templates c) item (filled settings (fresh e.activity.output)) given) given (instance_of c item.root) (instance_of c' item.root) becomes i' live' in
      completes h found.0 i' found.1 live' (was found.0 found.1) e is found.2

-- ---- a start

starts_in : (ts : List Template) (root : ℕ) (process : Name) (version : ℕ) (starter : Name) (settings : List Setting) (given : List Message) (before after : Option Instance) → before ≡ None
    → BecomesStarted ts root process version starter settings given before after → (i' : Instance) → after ≡ Some i'
    → StartsIn ts root process version starter settings i' × (given ≡ Begin (record { root = root; parts = [] }) ∷ [])
starts_in ts root process version starter settings given before None absent is i' live = absurd (none-some i' live)
starts_in ts root process version starter settings given before (Some i) absent is i' live =
    let same : i ≡ i' = cc in
    elim is [
      | inl stay ↦ absurd (none-some i (sym absent ∙ sym stay.0.0))
      | inr starts ↦ (subst (λ (u : Instance). StartsIn ts root process version starter settings u) same starts.0, starts.1)
    ]

pub start_of : (ts : List Template) (root : ℕ) (process : Name) (version : ℕ) (starter : Name) (settings : List Setting) (given : List Message) (before after : Option Instance)
    → BecomesStarted ts root process version starter settings given before after → AreOf root given
start_of ts root process version starter settings given before None is = none_of root given is.0.1
start_of ts root process version starter settings given before (Some i) is = elim is [
  | inl stay ↦ none_of root given stay.0.1
  | inr starts ↦ subst (λ ms. AreOf root ms) (sym starts.1) (begin_of root)
]

module _ (c c' : Core) (root : ℕ) (process : Name) (version : ℕ) (starter : Name) (settings : List Setting) (given : List Message) (queues : c'.queues ≡ put_in (queue_now c') given c.queues)
    (some_ : 1 ≤ length c.queues) (library : Agrees (templates c) (templates c')) (starts : KeepsStarts c c') (of : AreOf root given) (new_ : IsNew c root settings c') where
  started_right : BecomesStarted (templates c) root process version starter settings given (instance_of c root) (instance_of c' root)
      → (i' : Instance) → instance_of c' root ≡ Some i' → IsRightRoot c' root (Started ∷ []) i'
  started_right becomes i' live' =
      let begin : Message = Begin (record { root = root; parts = [] }) in
      let both = starts_in (templates c) root process version starter settings given (instance_of c root) (instance_of c' root) new_.unused.absent becomes i' live' in
      let what = both.0 in
      let g = what.graph in
      let count = length c.queues in
      let process : graph_of (templates c) i'.template ≡ Some g = ap (graph_of (templates c)) what.started.template ∙ what.there in
      let served = new_.served i' live' g process what.input in
      let same : queue_now c' begin ≡ place_queue (templates c) count root (Some g) (BeginNote [])
      = ap (λ o. queue_in (templates c') (length c'.queues) o begin) (later c c' given c.queues queues refl some_ library starts root i' live' g process)
      ∙ ap (λ n. queue_in (templates c') n (Some g) begin) (count_same c c' given c.queues queues refl some_ library starts)
      ∙ queue_is (templates c) (templates c') g count root begin (BeginNote []) refl refl
      ∙ place_same (templates c) (templates c') library served.0 g served.1.served count root (BeginNote []) in
      goes_on c c' given c.queues queues refl some_ library starts root i' live' (place_queue (templates c) count root (Some g)) (Started ∷ [])
      (after_put (queue_now c') (begin ∷ []) none_queued) what.input what.started.root
      (λ g' there note. ap (λ o. place_queue (templates c) count root o note) (sym process ∙ there))
      (λ n. stand_given c c' given c.queues queues refl some_ library starts root of n
      ∙ ap (λ l. messages_in c.queues root n ++ filter (λ m. queue_now c' m == n) l) both.1
      ∙ ap (λ l. l ++ filter (λ m. queue_now c' m == n) (begin ∷ [])) (new_.unused.unqueued n))
      (starts_right (templates c) (place_queue (templates c) count root (Some g)) (queue_now c') what.template root served.0 g starter what.input i'
      what.there served.1 what.started same)
      (λ g' there.
      what.filled ∙ ap (λ o. input_by settings o) (sym process ∙ there)
      ∙ ap (λ l. input_by l (Some g')) (sym new_.told))

-- ---- all transactions

module _ (c c' : Core) (runs : ℕ → List Event) (are : AreRight c runs) where
  -- a transaction about a root, that takes no message
  on_root : (about : ℕ) (after : List Event → List Event) (given : List Message) (becomes : Option Instance → Option Instance → Type 0) → ChangesRoot about becomes c c'
      → c'.queues ≡ put_in (queue_now c') given c.queues → 1 ≤ length c.queues → Agrees (templates c) (templates c') → KeepsStarts c c' → AreOf about given
      → ((i' : Instance) → instance_of c' about ≡ Some i' → IsRightRoot c' about (after (runs about)) i')
      → (root : ℕ) (i' : Instance) → instance_of c' root ≡ Some i' → IsRightRoot c' root (if about == root then after (runs root) else runs root) i'
  on_root about after given becomes changes queues some_ library starts of here =
      each c c' given c.queues queues refl some_ library starts about runs after are changes.others of (λ other apart n. refl) here

  -- one about no root
  on_none : (given : List Message) → ((root : ℕ) → instance_of c' root ≡ instance_of c root) → given ≡ [] → c'.queues ≡ put_in (queue_now c') given c.queues
      → 1 ≤ length c.queues → Agrees (templates c) (templates c') → KeepsStarts c c' → AreRight c' runs
  on_none given same none queues some_ library starts root i' live' = stays c c' root (runs root) (are root) given queues some_ library starts none (same root) i' live'

  -- one that holds an item, or gives it back
  on_item : (item : Path) (change : HoldChange) (b : Bool) (given : List Message) → ChangesRoot item.root (BecomesQuietly (HoldsIn (templates c) item change) given) c c'
      → c'.queues ≡ put_in (queue_now c') given c.queues → 1 ≤ length c.queues → Agrees (templates c) (templates c') → KeepsStarts c c' → AreOf item.root given
      → (root : ℕ) (i' : Instance) → instance_of c' root ≡ Some i' → IsRightRoot c' root (if item.root == root then Held item.parts b ∷ runs root else runs root) i'
  on_item item change b given changes queues some_ library starts of =
      on_root item.root (λ h. Held item.parts b ∷ h) given (BecomesQuietly (HoldsIn (templates c) item change) given) changes queues some_ library starts of
      (held c c' item.root (runs item.root) (are item.root) given queues some_ library starts item change b changes.here)

  pub stays_right : (t : Transaction) (drives : Drives c t c') → MayBe c t drives.given c' → AreRight c' (runs_after c t runs)
  stays_right (Import text) drives may = on_none drives.given drives.roots.0 drives.roots.1 drives.queues may.queued may.library may.starts
  stays_right (Start root process version starter key settings) drives may =
      let of = start_of (templates c) root process version starter settings drives.given (instance_of c root) (instance_of c' root) drives.roots.here in
      on_root root (λ h. Started ∷ []) drives.given _ drives.roots drives.queues may.queued may.library may.starts of
      (started_right c c' root process version starter settings drives.given drives.queues may.queued may.library may.starts of may.asked drives.roots.here)
  stays_right (Turn number message) drives may =
      let low = may.asked.0.0 in
      let front = may.asked.0.1 in
      let of = may.asked.1 in
      each c c' drives.given (left c c' number message drives.given drives.queues may.queued may.library may.starts of low front) drives.queues
      (many_left c c' number message drives.given drives.queues may.queued may.library may.starts of low front) may.queued may.library may.starts
      (root_of message) runs (λ h. with_turn (note_now c message) h) are drives.roots.others of
      (λ other apart n. taken_there other c.queues number message low front (λ e. apart (sym e)) n)
      (turned_right c c' number message drives.given drives.queues may.queued may.library may.starts of low front (runs (root_of message)) (are (root_of message)) drives.roots.here)
  stays_right (Claim item who) drives may = on_item item (hold.Person who) true drives.given drives.roots drives.queues may.queued may.library may.starts (none_of item.root drives.given drives.roots.here.1)
  stays_right (Release item who) drives may = on_item item hold.Nobody false drives.given drives.roots drives.queues may.queued may.library may.starts (none_of item.root drives.given drives.roots.here.1)
  stays_right (Transfer item who to) drives may = on_item item (hold.Person to) true drives.given drives.roots drives.queues may.queued may.library may.starts (none_of item.root drives.given drives.roots.here.1)
  stays_right (Take item take) drives may = on_item item hold.Agent true drives.given drives.roots drives.queues may.queued may.library may.starts (none_of item.root drives.given drives.roots.here.1)
  stays_right (Done item who settings) drives may =
      on_root item.root (λ h. with_output item settings (item_of c item) h) drives.given _ drives.roots drives.queues may.queued may.library may.starts may.asked.1
      (completed_right c c' item settings drives.given drives.queues may.queued may.library may.starts may.asked.1 may.asked.0 (runs item.root) (are item.root) (item_of c item) refl drives.roots.here)
  stays_right (Force item settings) drives may =
      on_root item.root (λ h. with_output item settings (item_of c item) h) drives.given _ drives.roots drives.queues may.queued may.library may.starts may.asked.1
      (completed_right c c' item settings drives.given drives.queues may.queued may.library may.starts may.asked.1 may.asked.0 (runs item.root) (are item.root) (item_of c item) refl drives.roots.here)
  stays_right (Restart item) drives may = on_item item hold.Nobody false drives.given drives.roots drives.queues may.queued may.library may.starts (none_of item.root drives.given drives.roots.here.1)
  stays_right (Suspend root) drives may =
      on_root root (λ h. h) drives.given _ drives.roots drives.queues may.queued may.library may.starts (none_of root drives.given drives.roots.here.1)
      (suspended c c' root (runs root) (are root) drives.given drives.queues may.queued may.library may.starts true drives.roots.here)
  stays_right (Resume root) drives may =
      on_root root (λ h. h) drives.given _ drives.roots drives.queues may.queued may.library may.starts (none_of root drives.given drives.roots.here.1)
      (suspended c c' root (runs root) (are root) drives.given drives.queues may.queued may.library may.starts false drives.roots.here)
  stays_right (Terminate root) drives may =
      on_root root (λ h. Stopped ∷ h) drives.given _ drives.roots drives.queues may.queued may.library may.starts (none_of root drives.given drives.roots.here.1)
      (terminated c c' root (runs root) (are root) drives.given drives.queues may.queued may.library may.starts drives.roots.here)
  stays_right (Delete root) drives may =
      on_root root (λ h. h) drives.given _ drives.roots drives.queues may.queued may.library may.starts (none_of root drives.given drives.roots.here.1)
      (λ i' live'. absurd (none-some i' (sym drives.roots.here.0 ∙ live')))
  stays_right (Clock minutes) drives may = on_none drives.given drives.roots.0 drives.roots.1 drives.queues may.queued may.library may.starts
