-- What an event does to the scopes of a root: one function for each step, and one for the whole.
use Rattle.std.specs.Prelude.{ℕ, zero, suc, ◌+◌, ◌-◌, ◌==◌, nat_le, nat_lt, Bool, true, false, not, ◌&&◌, ◌||◌}
use Rattle.std.specs.Prelude.{if◌then◌else◌, Option, Some, None, List, [], ◌∷◌, ◌++◌, length}
use Rattle.std.specs.Prelude.{slice_get, slice_set}
use Rattle.activity_states.specs.States.{State, fate_of, made_ready, killed, completed, held, taken}
use Rattle.activity_states.specs.declared.states.Completed.{Completed}
use Rattle.blocks_subprocs.specs.Ends.{ends_of}
use Rattle.dead_paths.specs.Signals.{signals}
use Rattle.dead_paths.specs.declared.joins.Tally.{Tally}
use Rattle.flow_model.specs.Conditions.{holds}
use Rattle.flow_model.specs.Containers.{fresh, with_return_code}
use Rattle.flow_model.specs.Rows.{below}
use Rattle.flow_model.specs.ScopeContainers.{graph_in, base_of, fed, looped}
use Rattle.flow_model.specs.Scopes.{part}
use Rattle.flow_model.specs.declared.graphs.Activity.{Activity}
use Rattle.flow_model.specs.declared.graphs.Container.{Container}
use Rattle.flow_model.specs.declared.graphs.Graph.{Graph, out-Graph}
use Rattle.flow_model.specs.declared.graphs.Join.{Join}
use Rattle.flow_model.specs.declared.graphs.Join.TheVariants.{All, AtLeastOne, AtLeast}
use Rattle.flow_model.specs.declared.graphs.MapEnd.TheVariants.{Border}
use Rattle.flow_model.specs.declared.graphs.Template.{Template}
use Rattle.flow_model.specs.declared.instances.Fate.{Fate}
use Rattle.flow_model.specs.declared.instances.Fate.TheVariants as fates
use Rattle.flow_model.specs.declared.instances.Hold.TheVariants as hold
use Rattle.flow_model.specs.declared.instances.Message.{Message}
use Rattle.flow_model.specs.declared.instances.Message.TheVariants.{Begin, Signal, End}
use Rattle.flow_model.specs.declared.instances.Part.{Part}
use Rattle.flow_model.specs.declared.instances.Path.{Path}
use Rattle.flow_model.specs.declared.instances.SourceEnd.{SourceEnd}
use Rattle.flow_model.specs.declared.instances.SourceEnd.TheVariants as end
use Rattle.flow_model.specs.declared.names.Name.{Name}
use Rattle.machine.specs.Rows.{Runs, Ended, Died, Standing, Item, Inner, Row, Scopes, only, inside}
use Rattle.machine.specs.Rows.{with_row, with_inside, place_of, attempt_place, fresh_row}

-- ---- what follows from an event

-- the messages that follow, by their kinds, and the items that became ready
pub record Told : Type 0 where
  pub signals : List Message
  pub begins : List Message
  pub ends : List Message
  pub ready : List Path

-- nothing follows
abbrev pub nothing : Told
nothing = record { signals = []; begins = []; ends = []; ready = [] }

-- a scope while an event happens to it: what stands in it, the scopes inside it, and what follows so far
pub record Scene : Type 0 where
  pub row : Row
  pub scopes : Scopes
  pub told : Told

-- where it leaves the scopes, and what follows
pub record Outcome : Type 0 where
  pub scopes : Scopes
  pub told : Told

-- a scene as an outcome: what stands in the scope now is written back into the scopes
abbrev pub as_left : Scene → Outcome
as_left x = record { scopes = with_row x.row x.scopes; told = x.told }

-- the scopes stay, and nothing follows
abbrev pub unchanged : Scopes → Outcome
unchanged s = record { scopes = s; told = nothing }

-- the same scene with something else standing in its scope
abbrev pub with_row_of : Row → Scene → Scene
with_row_of r x = record { row = r; scopes = x.scopes; told = x.told }

-- ---- joins, by what a tally counts

-- what a join answers once all its values are known; with no connector it is true
abbrev pub asks_by : Join → Tally → Bool
asks_by All t = t.trues == t.total
asks_by AtLeastOne t = (t.total == 0) || nat_lt 0 t.trues
asks_by (AtLeast n) t = (t.total == 0) || nat_le n t.trues

-- the join of an activity by its tally: unknown while a value is missing
abbrev pub joined_by : Join → Tally → Option Bool
joined_by join t = if nat_lt 0 t.missing then None else Some (asks_by join t)

-- 1 for a true value, 0 for a false one
abbrev pub one_if : Bool → ℕ
one_if true = 1
one_if false = 0

-- a tally with one more value known
abbrev pub with_value : Bool → Tally → Tally
with_value v t = record { total = t.total; missing = t.missing - 1; trues = t.trues + one_if v }

-- ---- an activity is settled

-- the state at a place is changed, where the place has one
abbrev pub changed_at : (Standing → Standing) → ℕ → Option Standing → Row → Row
changed_at change a None r = r
changed_at change a (Some x) r = record r { standings = slice_set r.standings a (change x) }

-- the state of the activity at a place is changed, where there is one
abbrev pub changed : (Standing → Standing) → ℕ → Row → Row
changed change a r = changed_at change a (slice_get r.standings a) r

-- a path without parts is that of the root's own scope
abbrev pub is_root : List Part → Bool
is_root [] = true
is_root (q ∷ qs) = false

-- the END of a scope, by the number of its activities that are left; the root has none
abbrev pub end_after : Path → ℕ → List Message
end_after path left = if (left == 0) && not (is_root path.parts) then End path ∷ [] else []

-- it has ended so: its signals go out, and the scope's END where it was the last
abbrev pub settles : Graph → Path → ℕ → SourceEnd → Scene → Scene
settles g path a e x = record {
  row = record x.row { ends = slice_set x.row.ends a e; unsettled = x.row.unsettled - 1 };
  scopes = x.scopes;
  told =
      record x.told {
        signals = x.told.signals ++ signals g path a e;
        ends = x.told.ends ++ end_after path (x.row.unsettled - 1);
      };
}

-- the state of an activity that is dead; a block keeps the number of its scopes
abbrev pub dead_standing : Standing → Standing
dead_standing (Item p) = Item (killed p)
dead_standing (Inner stage n) = Inner Died n

-- the activity at a place is dead: it is settled as such
abbrev pub dies : Graph → Path → ℕ → Scene → Scene
dies g path a x = settles g path a end.Dead (with_row_of (changed dead_standing a x.row) x)

-- ---- an attempt begins

-- one scope more of an activity, by the number that it had, of this graph and input; its BEGIN goes out
abbrev pub begins_next : Graph → Container → Path → ℕ → Activity → ℕ → Scene → Scene
begins_next h input path a activity n x = record {
  row = record x.row { standings = slice_set x.row.standings a (Inner Runs (n + 1)) };
  scopes = with_inside a n (only (fresh_row h input)) x.scopes;
  told = record x.told { begins = x.told.begins ++ Begin (below path (part activity.name (n + 1))) ∷ [] };
}

-- an activity that runs no graph has no scope
abbrev pub begins : Option Graph → Container → Path → ℕ → Activity → ℕ → Scene → Scene
begins None input path a activity n x = x
begins (Some h) input path a activity n x = begins_next h input path a activity n x

-- the first attempt: an item that is ready, or a scope whose input is the base input
abbrev pub opens : List Template → Graph → Path → ℕ → ℕ → Activity → Option Standing → Scene → Scene
opens ts g path clock a activity None x = x
opens ts g path clock a activity (Some (Item p)) x = record {
  row = record x.row { standings = slice_set x.row.standings a (Item (made_ready p clock)) };
  scopes = x.scopes;
  told = record x.told { ready = x.told.ready ++ below path (part activity.name 1) ∷ [] };
}
opens ts g path clock a activity (Some (Inner stage n)) x =
    begins (graph_in ts activity.work) (base_of g activity a x.row.input (ends_of x.row.ends)) path a activity n x

-- ---- the join of an activity is known, or not yet

-- the join has said this: nothing yet, open the activity, or let it die
abbrev pub decided : List Template → Graph → Path → ℕ → ℕ → Activity → Option Bool → Scene → Scene
decided ts g path clock a activity None x = x
decided ts g path clock a activity (Some true) x = opens ts g path clock a activity (slice_get x.row.standings a) x
decided ts g path clock a activity (Some false) x = dies g path a x

-- the same, for the activity and the tally at a place, where there are any
abbrev pub decided_by : List Template → Graph → Path → ℕ → ℕ → Option Activity → Option Tally → Scene → Scene
decided_by ts g path clock a None t x = x
decided_by ts g path clock a (Some activity) None x = x
decided_by ts g path clock a (Some activity) (Some t) x =
    decided ts g path clock a activity (joined_by activity.join t) x

-- the activity at a place is decided by its tally
abbrev pub decides : List Template → Graph → Path → ℕ → ℕ → Scene → Scene
decides ts g path clock a x =
    decided_by ts g path clock a (slice_get (out-Graph g).activities a) (slice_get x.row.tallies a) x

-- the first n activities are, in their order
abbrev pub decides_first : List Template → Graph → Path → ℕ → ℕ → Scene → Scene
decides_first ts g path clock zero x = x
decides_first ts g path clock (suc n) x = decides ts g path clock n (decides_first ts g path clock n x)

-- ---- a scope begins

-- the scope has begun: all its activities are decided, in order
abbrev pub begun : List Template → Graph → Path → ℕ → Scene → Scene
begun ts g path clock x =
    decides_first ts g path clock (length (out-Graph g).activities) (with_row_of (record x.row { begun = true }) x)

-- ---- a signal is taken

-- one more value is counted for the activity at a place
abbrev pub with_signal : Bool → ℕ → Option Tally → Row → Row
with_signal v a None r = r
with_signal v a (Some t) r = record r { tallies = slice_set r.tallies a (with_value v t) }

-- a signal is counted for the activity that it leads to, which is then decided
abbrev pub signalled : List Template → Graph → Path → ℕ → Bool → Option ℕ → Scene → Scene
signalled ts g path clock v None x = x
signalled ts g path clock v (Some a) x =
    decides ts g path clock a (with_row_of (with_signal v a (slice_get x.row.tallies a) x.row) x)

-- ---- an attempt of a program activity is completed

-- the item of the next attempt, where an attempt that wasn't the last one makes the activity ready again
abbrev pub ready_item : Path → Name → Fate → List Path
ready_item path name fates.Waiting = []
ready_item path name (fates.Ready j) = below path (part name j) ∷ []
ready_item path name (fates.Running j) = []
ready_item path name (fates.Finished j) = []
ready_item path name fates.Dead = []

-- an attempt is completed; true where its exit condition holds, so that it is the last one
abbrev pub completes_by : Bool → Graph → Path → ℕ → ℕ → Activity → State → Completed → Scene → Scene
completes_by true g path clock a activity p c x =
    settles g path a (end.Finished c.output)
    (with_row_of (record x.row { standings = slice_set x.row.standings a (Item (completed p c true clock)) }) x)
completes_by false g path clock a activity p c x = record {
  row = record x.row { standings = slice_set x.row.standings a (Item (completed p c false clock)) };
  scopes = x.scopes;
  told = record x.told { ready = x.told.ready ++ ready_item path activity.name (fate_of (completed p c false clock)) };
}

-- the same for the activity at a place, where that runs a program
abbrev pub completes_at : Graph → Path → ℕ → ℕ → Completed → Option Activity → Option Standing → Scene → Scene
completes_at g path clock a c None state x = x
completes_at g path clock a c (Some activity) None x = x
completes_at g path clock a c (Some activity) (Some (Item p)) x =
    completes_by (holds activity.exit c.output) g path clock a activity p c x
completes_at g path clock a c (Some activity) (Some (Inner stage n)) x = x

-- the same, where the name of the activity leads to a place
abbrev pub completes : Graph → Path → ℕ → Completed → Option ℕ → Scene → Scene
completes g path clock c None x = x
completes g path clock c (Some a) x =
    completes_at g path clock a c (slice_get (out-Graph g).activities a) (slice_get x.row.standings a) x

-- ---- the scope of an attempt has ended

-- the output of a scope, with the return code before it
abbrev pub given_by : Graph → Row → Container
given_by h r = with_return_code (fed (out-Graph h).lines Border r.input (ends_of r.ends) (fresh (out-Graph h).output))

-- the state of a block or process activity whose last attempt has ended
abbrev pub finished_standing : Standing → Standing
finished_standing (Item p) = Item p
finished_standing (Inner stage n) = Inner Ended n

-- how many scopes an activity has had
abbrev pub scopes_had : Standing → ℕ
scopes_had (Item p) = 0
scopes_had (Inner stage n) = n

-- where the attempt is the last one, the activity is settled, else the next scope reads the base input with the LOOP
-- maps from this output
abbrev pub ends_by : Bool → Graph → Graph → Path → ℕ → Activity → Standing → Container → Scene → Scene
ends_by true g h path a activity was out x =
    settles g path a (end.Finished out) (with_row_of (changed finished_standing a x.row) x)
ends_by false g h path a activity was out x =
    begins_next h (looped (out-Graph g).loops a out
    (base_of g activity a x.row.input (ends_of x.row.ends))) path a activity (scopes_had was) x

-- an attempt has ended with this row, where the activity, its graph and the row are there
abbrev pub ends_from : Graph → Path → ℕ → Activity → Option Standing → Option Graph → Option Row → Scene → Scene
ends_from g path a activity None h inner x = x
ends_from g path a activity (Some was) None inner x = x
ends_from g path a activity (Some was) (Some h) None x = x
ends_from g path a activity (Some was) (Some h) (Some r) x =
    ends_by (holds activity.exit (given_by h r)) g h path a activity was (given_by h r) x

-- what stands in the scope of an attempt
abbrev pub row_inside : ℕ → Option ℕ → Scopes → Option Row
row_inside a None s = None
row_inside a (Some i) s = s ((a, i) ∷ [])

-- the same, for the attempt of this number of the activity at a place
abbrev pub ends_at : List Template → Graph → Path → ℕ → ℕ → Option Activity → Scene → Scene
ends_at ts g path j a None x = x
ends_at ts g path j a (Some activity) x =
    ends_from g path a activity (slice_get x.row.standings a) (graph_in ts activity.work)
    (row_inside a (attempt_place j) x.scopes) x

-- the same, where the name of the activity leads to a place
abbrev pub ended : List Template → Graph → Path → ℕ → Option ℕ → Scene → Scene
ended ts g path j None x = x
ended ts g path j (Some a) x = ends_at ts g path j a (slice_get (out-Graph g).activities a) x

-- ---- an event

-- what happens to a scope: its BEGIN, the SIGNAL of a connector that leads to this activity, the END of an attempt of
-- this activity, a completion
pub data Happening : Type 0 where
  Begins : Happening
  Signals : Name → Bool → Happening
  Ends : Name → ℕ → Happening
  Completes : Name → Completed → Happening

-- it is received by a scope
abbrev pub received : List Template → Path → ℕ → Happening → Graph → Scene → Scene
received ts path clock Begins g x = begun ts g path clock x
received ts path clock (Signals name v) g x = signalled ts g path clock v (place_of g name) x
received ts path clock (Ends name j) g x = ended ts g path j (place_of g name) x
received ts path clock (Completes name c) g x = completes g path clock c (place_of g name) x

-- ---- where it happens

-- what an outcome inside an attempt leaves of all scopes
abbrev pub left_inside : ℕ → ℕ → Scopes → Outcome → Outcome
left_inside a i s after = record { scopes = with_inside a i after.scopes s; told = after.told }

-- a change of one scope
abbrev pub Change : Type 0
Change = Graph → Scopes → Outcome

-- the scopes of an attempt change, where it is there
abbrev pub into_attempt : Change → Scopes → ℕ → Option Graph → Option ℕ → Outcome
into_attempt change s a None i = unchanged s
into_attempt change s a (Some h) None = unchanged s
into_attempt change s a (Some h) (Some i) = left_inside a i s (change h (inside a i s))

-- the graph that an activity runs, if it runs one
abbrev pub graph_under : List Template → Option Activity → Option Graph
graph_under ts None = None
graph_under ts (Some activity) = graph_in ts activity.work

-- the scopes to which one part leads change, where it leads to some
abbrev pub into_part : List Template → Change → Graph → Scopes → ℕ → Option ℕ → Outcome
into_part ts change g s j None = unchanged s
into_part ts change g s j (Some a) =
    into_attempt change s a (graph_under ts (slice_get (out-Graph g).activities a)) (attempt_place j)

-- the scope to which the parts lead changes, and no other one but those inside it; where they lead to none, nothing
-- happens
abbrev pub changes_at : List Template → Change → List Part → Change
changes_at ts change [] g s = change g s
changes_at ts change (q ∷ qs) g s = into_part ts (changes_at ts change qs) g s q.attempt (place_of g q.name)

-- a scope that is there receives what happens to it; one that isn't stays away
abbrev pub receives_in : List Template → Path → ℕ → Happening → Graph → Scopes → Option Row → Outcome
receives_in ts path clock e g s None = unchanged s
receives_in ts path clock e g s (Some r) =
    as_left (received ts path clock e g (record { row = r; scopes = s; told = nothing }))

-- the scope itself receives what happens to it
abbrev pub receives : List Template → Path → ℕ → Happening → Change
receives ts path clock e g s = receives_in ts path clock e g s (s [])

-- an event happens at the scope of a path
abbrev pub happens : List Template → Path → ℕ → Happening → Graph → Scopes → Outcome
happens ts path clock e g s = changes_at ts (receives ts path clock e) path.parts g s

-- ---- messages and completions

-- the last part of a path
abbrev pub last_part : List Part → Option Part
last_part [] = None
last_part (q ∷ []) = Some q
last_part (q ∷ (r ∷ qs)) = last_part (r ∷ qs)

-- all parts of a path but the last one
abbrev pub front_parts : List Part → List Part
front_parts [] = []
front_parts (q ∷ []) = []
front_parts (q ∷ (r ∷ qs)) = q ∷ front_parts (r ∷ qs)

-- the path of the scope around
abbrev pub front : Path → Path
front path = record { root = path.root; parts = front_parts path.parts }

-- what the last part of a path names happens in the scope to which the others lead
abbrev pub happens_last : List Template → Path → ℕ → (Part → Happening) → Option Part → Graph → Scopes → Outcome
happens_last ts path clock e None g s = unchanged s
happens_last ts path clock e (Some q) g s = happens ts (front path) clock (e q) g s

-- a message happens to the scope of its path, an END to the scope around it
abbrev pub takes : List Template → ℕ → Message → Graph → Scopes → Outcome
takes ts clock (Begin path) g s = happens ts path clock Begins g s
takes ts clock (Signal path from to v) g s = happens ts path clock (Signals to v) g s
takes ts clock (End path) g s = happens_last ts path clock (λ q. Ends q.name q.attempt) (last_part path.parts) g s

-- the item of a path is completed
abbrev pub completes_item : List Template → ℕ → Path → Completed → Graph → Scopes → Outcome
completes_item ts clock item c g s = happens_last ts item clock (λ q. Completes q.name c) (last_part item.parts) g s

-- the messages in the order in which they are put
abbrev pub given_of : Told → List Message
given_of t = t.signals ++ t.begins ++ t.ends

-- ---- holds

-- who holds an item from now on: a person, an agent by the next take number, or nobody
pub data Holding : Type 0 where
  ByPerson : Name → Holding
  ByAgent : Holding
  ByNobody : Holding

-- the state of an item after its hold is changed
abbrev pub held_by : Holding → State → State
held_by (ByPerson who) p = held p (hold.Person who)
held_by ByAgent p = taken p
held_by ByNobody p = held p hold.Nobody

-- the same for the state of an activity; a block has no hold
abbrev pub held_standing : Holding → Standing → Standing
held_standing change (Item p) = Item (held_by change p)
held_standing change (Inner stage n) = Inner stage n

-- the same for the activity at a place of a scope
abbrev pub held_row : Holding → Option ℕ → Row → Row
held_row change None r = r
held_row change (Some a) r = changed (held_standing change) a r

-- the hold of the activity of this name is changed in a scope that is there
abbrev pub holds_here : Holding → Name → Graph → Scopes → Option Row → Outcome
holds_here change name g s None = unchanged s
holds_here change name g s (Some r) = record {
  scopes = with_row (held_row change (place_of g name) r) s;
  told = nothing;
}

-- the same, in the scope to which the other parts of a path lead
abbrev pub holds_last : List Template → Holding → List Part → Option Part → Graph → Scopes → Scopes
holds_last ts change parts None g s = s
holds_last ts change parts (Some q) g s = (changes_at ts (λ h t. holds_here change q.name h t (t [])) parts g s).scopes

-- the hold of the item of a path is changed so
abbrev pub holds_item : List Template → List Part → Holding → Graph → Scopes → Scopes
holds_item ts item change g s = holds_last ts change (front_parts item) (last_part item) g s
