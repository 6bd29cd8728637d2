-- What an event of a root gives is of that root.
use Rattle.std.proofs.Common.{◌≡◌, ℕ, zero, suc, ◌-◌, ◌==◌, Bool, true, false, if◌then◌else◌, Option, Some}
use Rattle.std.proofs.Common.{None, List, [], ◌∷◌, ◌++◌, length, refl}
use Rattle.std.specs.Prelude.{slice_get, slice_set}
use Rattle.std.specs.List.{filter, filter_map, cons_option}
use Rattle.activity_states.specs.States.{State, completed}
use Rattle.activity_states.specs.declared.states.Completed.{Completed}
use Rattle.blocks_subprocs.specs.Ends.{ends_of}
use Rattle.dead_paths.specs.Signals.{signal, signal_of, signals}
use Rattle.dead_paths.specs.declared.joins.Tally.{Tally}
use Rattle.flow_model.specs.Conditions.{holds}
use Rattle.flow_model.specs.Fates.{connector_value}
use Rattle.flow_model.specs.ScopeContainers.{graph_in, base_of, looped}
use Rattle.flow_model.specs.declared.graphs.Activity.{Activity}
use Rattle.flow_model.specs.declared.graphs.Container.{Container}
use Rattle.flow_model.specs.declared.graphs.Control.{Control}
use Rattle.flow_model.specs.declared.graphs.Graph.{Graph, out-Graph}
use Rattle.flow_model.specs.declared.graphs.Template.{Template}
use Rattle.flow_model.specs.declared.instances.Message.{Message}
use Rattle.flow_model.specs.declared.instances.Message.TheVariants.{Begin, Signal, End}
use Rattle.flow_model.specs.declared.instances.Part.{Part}
use Rattle.flow_model.specs.declared.instances.Path.{Path}
use Rattle.flow_model.specs.declared.instances.SourceEnd.{SourceEnd}
use Rattle.flow_model.specs.declared.instances.SourceEnd.TheVariants as end
use Rattle.recover_queue.specs.Queues.{root_of}
use Rattle.machine.specs.Moves.{Told, nothing, Scene, end_after, settles, dead_standing}
use Rattle.machine.specs.Moves.{finished_standing, changed, with_row_of, with_signal, begins_next, begins, opens}
use Rattle.machine.specs.Moves.{decided, decided_by, decides_first, joined_by, signalled, completes_by}
use Rattle.machine.specs.Moves.{completes_at, completes}
use Rattle.machine.specs.Moves.{ends_by, ends_from, ends_at, ended, given_by, scopes_had, row_inside}
use Rattle.machine.specs.Moves.{Happening, Begins, Signals, Ends, Completes, received, Change, into_attempt, into_part}
use Rattle.machine.specs.Moves.{graph_under, changes_at}
use Rattle.machine.specs.Moves.{receives_in, receives, happens, last_part, front, happens_last, takes, completes_item}
use Rattle.machine.specs.Moves.{given_of}
use Rattle.machine.specs.Rows.{Standing, Item, Inner, Row, Scopes, place_of, attempt_place, inside}

-- messages are of a root
abbrev pub AreOf : ℕ → List Message → Type 0
AreOf root [] = Unit {0}
AreOf root (m ∷ ms) = (root_of m ≡ root) × AreOf root ms

pub more_of : (root : ℕ) (xs ys : List Message) → AreOf root xs → AreOf root ys → AreOf root (xs ++ ys)
more_of root [] ys first others = others
more_of root (x ∷ xs) ys first others = (first.0, more_of root xs ys first.1 others)

-- what follows from an event is of a root
pub record TellsOf (root : ℕ) (t : Told) : Type 0 where
  pub signals : AreOf root t.signals
  pub begins : AreOf root t.begins
  pub ends : AreOf root t.ends

nothing_told : (root : ℕ) → TellsOf root nothing
nothing_told root = record { signals = tt; begins = tt; ends = tt }

-- ---- signals and ENDs

-- a message, where there is one, is of a root
abbrev IsOf : ℕ → Option Message → Type 0
IsOf root None = Unit {0}
IsOf root (Some m) = root_of m ≡ root

signal_own : (s : Path) (a b : Option Activity) (v : Option Bool) → IsOf s.root (signal s a b v)
signal_own s (Some a) (Some b) (Some v) = refl
signal_own s (Some a) (Some b) None = tt
signal_own s (Some a) None v = tt
signal_own s None b v = tt

one_more : (root : ℕ) (o : Option Message) (ms : List Message) → IsOf root o → AreOf root ms
    → AreOf root (cons_option o ms)
one_more root None ms here others = others
one_more root (Some m) ms here others = (here, others)

signals_from : (g : Graph) (s : Path) (e : SourceEnd) (cs : List Control)
    → AreOf s.root (filter_map (signal_of g s e) cs)
signals_from g s e [] = tt
signals_from g s e (c ∷ cs) =
    one_more s.root (signal_of g s e c) (filter_map (signal_of g s e) cs)
    (signal_own s (slice_get (out-Graph g).activities c.from) (slice_get (out-Graph g).activities c.to)
    (connector_value (out-Graph g).controls c e)) (signals_from g s e cs)

end_own : (path : Path) (b : Bool) → AreOf path.root (if b then End path ∷ [] else [])
end_own path true = (refl, tt)
end_own path false = tt

-- ---- an activity

module _ (ts : List Template) (path : Path) (clock : ℕ) where
  abbrev Tells : Scene → Type 0
  Tells x = TellsOf path.root x.told

  settled : (g : Graph) (a : ℕ) (e : SourceEnd) (x : Scene) → Tells x → Tells (settles g path a e x)
  settled g a e x told = record {
    signals = more_of path.root x.told.signals (signals g path a e) told.signals
        (signals_from g path e (filter (λ c. c.from == a) (out-Graph g).controls));
    begins = told.begins;
    ends = more_of path.root x.told.ends (end_after path (x.row.unsettled - 1)) told.ends (end_own path _);
  }

  next_begun : (h : Graph) (input : Container) (a : ℕ) (activity : Activity) (n : ℕ) (x : Scene) → Tells x
      → Tells (begins_next h input path a activity n x)
  next_begun h input a activity n x told = record {
    signals = told.signals;
    begins = more_of path.root x.told.begins _ told.begins (refl, tt);
    ends = told.ends;
  }

  begun_by : (h : Option Graph) (input : Container) (a : ℕ) (activity : Activity) (n : ℕ) (x : Scene) → Tells x
      → Tells (begins h input path a activity n x)
  begun_by None input a activity n x told = told
  begun_by (Some h) input a activity n x told = next_begun h input a activity n x told

  opened : (g : Graph) (a : ℕ) (activity : Activity) (was : Option Standing) (x : Scene) → Tells x
      → Tells (opens ts g path clock a activity was x)
  opened g a activity None x told = told
  opened g a activity (Some (Item p)) x told = record { signals = told.signals; begins = told.begins; ends = told.ends }
  opened g a activity (Some (Inner stage n)) x told =
      begun_by (graph_in ts activity.work) (base_of g activity a x.row.input (ends_of x.row.ends)) a activity n x told

  decided_own : (g : Graph) (a : ℕ) (activity : Activity) (answer : Option Bool) (x : Scene) → Tells x
      → Tells (decided ts g path clock a activity answer x)
  decided_own g a activity None x told = told
  decided_own g a activity (Some true) x told = opened g a activity (slice_get x.row.standings a) x told
  decided_own g a activity (Some false) x told =
      settled g a end.Dead (with_row_of (changed dead_standing a x.row) x) told

  decided_at : (g : Graph) (a : ℕ) (activity : Option Activity) (t : Option Tally) (x : Scene) → Tells x
      → Tells (decided_by ts g path clock a activity t x)
  decided_at g a None t x told = told
  decided_at g a (Some activity) None x told = told
  decided_at g a (Some activity) (Some t) x told = decided_own g a activity (joined_by activity.join t) x told

  first_decided : (g : Graph) (n : ℕ) (x : Scene) → Tells x → Tells (decides_first ts g path clock n x)
  first_decided g zero x told = told
  first_decided g (suc n) x told =
      let before = decides_first ts g path clock n x in
      decided_at g n (slice_get (out-Graph g).activities n) (slice_get before.row.tallies n) before
      (first_decided g n x told)

  signalled_own : (g : Graph) (v : Bool) (a : Option ℕ) (x : Scene) → Tells x → Tells (signalled ts g path clock v a x)
  signalled_own g v None x told = told
  signalled_own g v (Some a) x told =
      let counted = with_signal v a (slice_get x.row.tallies a) x.row in
      decided_at g a (slice_get (out-Graph g).activities a) (slice_get counted.tallies a) (with_row_of counted x) told

  completed_by : (b : Bool) (g : Graph) (a : ℕ) (activity : Activity) (p : State) (c : Completed) (x : Scene) → Tells x
      → Tells (completes_by b g path clock a activity p c x)
  completed_by true g a activity p c x told =
      settled g a (end.Finished c.output)
      (with_row_of (record x.row { standings = slice_set x.row.standings a (Item (completed p c true clock)) }) x) told
  completed_by false g a activity p c x told = record { signals = told.signals; begins = told.begins; ends = told.ends }

  completed_at : (g : Graph) (a : ℕ) (c : Completed) (activity : Option Activity) (was : Option Standing) (x : Scene)
      → Tells x
      → Tells (completes_at g path clock a c activity was x)
  completed_at g a c None was x told = told
  completed_at g a c (Some activity) None x told = told
  completed_at g a c (Some activity) (Some (Item p)) x told =
      completed_by (holds activity.exit c.output) g a activity p c x told
  completed_at g a c (Some activity) (Some (Inner stage n)) x told = told

  completed_own : (g : Graph) (c : Completed) (a : Option ℕ) (x : Scene) → Tells x
      → Tells (completes g path clock c a x)
  completed_own g c None x told = told
  completed_own g c (Some a) x told =
      completed_at g a c (slice_get (out-Graph g).activities a) (slice_get x.row.standings a) x told

  ended_by : (b : Bool) (g h : Graph) (a : ℕ) (activity : Activity) (was : Standing) (out : Container) (x : Scene)
      → Tells x
      → Tells (ends_by b g h path a activity was out x)
  ended_by true g h a activity was out x told =
      settled g a (end.Finished out) (with_row_of (changed finished_standing a x.row) x) told
  ended_by false g h a activity was out x told =
      next_begun h (looped (out-Graph g).loops a out (base_of g activity a x.row.input (ends_of x.row.ends))) a activity
      (scopes_had was) x told

  ended_from : (g : Graph) (a : ℕ) (activity : Activity) (was : Option Standing) (h : Option Graph) (inner : Option Row)
      (x : Scene) → Tells x → Tells (ends_from g path a activity was h inner x)
  ended_from g a activity None h inner x told = told
  ended_from g a activity (Some was) None inner x told = told
  ended_from g a activity (Some was) (Some h) None x told = told
  ended_from g a activity (Some was) (Some h) (Some r) x told =
      ended_by (holds activity.exit (given_by h r)) g h a activity was (given_by h r) x told

  ended_at : (g : Graph) (j a : ℕ) (activity : Option Activity) (x : Scene) → Tells x
      → Tells (ends_at ts g path j a activity x)
  ended_at g j a None x told = told
  ended_at g j a (Some activity) x told =
      ended_from g a activity (slice_get x.row.standings a) (graph_in ts activity.work)
      (row_inside a (attempt_place j) x.scopes) x told

  ended_own : (g : Graph) (j : ℕ) (a : Option ℕ) (x : Scene) → Tells x → Tells (ended ts g path j a x)
  ended_own g j None x told = told
  ended_own g j (Some a) x told = ended_at g j a (slice_get (out-Graph g).activities a) x told

  -- ---- an event

  received_own : (e : Happening) (g : Graph) (x : Scene) → Tells x → Tells (received ts path clock e g x)
  received_own Begins g x told =
      first_decided g (length (out-Graph g).activities) (with_row_of (record x.row { begun = true }) x) told
  received_own (Signals name v) g x told = signalled_own g v (place_of g name) x told
  received_own (Ends name j) g x told = ended_own g j (place_of g name) x told
  received_own (Completes name c) g x told = completed_own g c (place_of g name) x told

  received_in : (e : Happening) (g : Graph) (s : Scopes) (r : Option Row)
      → TellsOf path.root (receives_in ts path clock e g s r).told
  received_in e g s None = nothing_told path.root
  received_in e g s (Some r) =
      received_own e g (record { row = r; scopes = s; told = nothing }) (nothing_told path.root)

-- ---- where it happens

module _ (root : ℕ) (ts : List Template) (change : Change)
    (own : (g : Graph) (s : Scopes) → TellsOf root (change g s).told) where
  attempt_own : (inner : Change) → ((g : Graph) (s : Scopes) → TellsOf root (inner g s).told) → (s : Scopes) (a : ℕ)
      (h : Option Graph) (i : Option ℕ) → TellsOf root (into_attempt inner s a h i).told
  attempt_own inner of s a None i = nothing_told root
  attempt_own inner of s a (Some h) None = nothing_told root
  attempt_own inner of s a (Some h) (Some i) = of h (inside a i s)

  part_own : (inner : Change) → ((g : Graph) (s : Scopes) → TellsOf root (inner g s).told) → (g : Graph) (s : Scopes)
      (j : ℕ) (a : Option ℕ) → TellsOf root (into_part ts inner g s j a).told
  part_own inner of g s j None = nothing_told root
  part_own inner of g s j (Some a) =
      attempt_own inner of s a (graph_under ts (slice_get (out-Graph g).activities a)) (attempt_place j)

  changed_own : (parts : List Part) (g : Graph) (s : Scopes) → TellsOf root (changes_at ts change parts g s).told
  changed_own [] g s = own g s
  changed_own (q ∷ qs) g s =
      part_own (changes_at ts change qs) (changed_own qs) g s q.attempt (place_of g q.name)

happens_own : (ts : List Template) (path : Path) (clock : ℕ) (e : Happening) (g : Graph) (s : Scopes)
    → TellsOf path.root (happens ts path clock e g s).told
happens_own ts path clock e g s =
    changed_own path.root ts (receives ts path clock e) (λ h t. received_in ts path clock e h t (t [])) path.parts g s

last_own : (ts : List Template) (path : Path) (clock : ℕ) (e : Part → Happening) (q : Option Part) (g : Graph)
    (s : Scopes)
    → TellsOf path.root (happens_last ts path clock e q g s).told
last_own ts path clock e None g s = nothing_told path.root
last_own ts path clock e (Some q) g s = happens_own ts (front path) clock (e q) g s

given_own : (root : ℕ) (t : Told) → TellsOf root t → AreOf root (given_of t)
given_own root t told = more_of root (t.signals ++ t.begins) t.ends
    (more_of root t.signals t.begins told.signals told.begins) told.ends

-- ---- messages and completions

pub takes_own : (ts : List Template) (clock : ℕ) (m : Message) (g : Graph) (s : Scopes)
    → AreOf (root_of m) (given_of (takes ts clock m g s).told)
takes_own ts clock (Begin path) g s = given_own path.root _ (happens_own ts path clock Begins g s)
takes_own ts clock (Signal path from to v) g s = given_own path.root _ (happens_own ts path clock (Signals to v) g s)
takes_own ts clock (End path) g s =
    given_own path.root _ (last_own ts path clock (λ q. Ends q.name q.attempt) (last_part path.parts) g s)

pub completes_own : (ts : List Template) (clock : ℕ) (item : Path) (c : Completed) (g : Graph) (s : Scopes)
    → AreOf item.root (given_of (completes_item ts clock item c g s).told)
completes_own ts clock item c g s =
    given_own item.root _ (last_own ts item clock (λ q. Completes q.name c) (last_part item.parts) g s)
