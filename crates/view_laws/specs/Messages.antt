-- The messages of a root, and which of them are due. A message names its scope by a path from the scope at hand, and a
-- connector by the places of its ends.
use Rattle.std.specs.Prelude.{ℕ, zero, suc, ◌==◌, Bool, true, false, ◌&&◌, if◌then◌else◌, Option, Some, None, List, []}
use Rattle.std.specs.Prelude.{◌∷◌, ◌++◌, map, length, slice_get, not}
use Rattle.std.specs.List.{flat_map}
use Rattle.flow_model.specs.declared.graphs.Activity.{Activity}
use Rattle.flow_model.specs.declared.graphs.Container.{Container}
use Rattle.flow_model.specs.declared.graphs.Control.{Control}
use Rattle.flow_model.specs.declared.graphs.Graph.{Graph, out-Graph}
use Rattle.flow_model.specs.declared.graphs.Template.{Template}
use Rattle.flow_model.specs.declared.instances.Part.{Part}
use Rattle.flow_model.specs.declared.names.Name.{Name}
use Rattle.flow_model.specs.Fates.{Ends, connector_value}
use Rattle.flow_model.specs.Rows.{same_parts}
use Rattle.flow_model.specs.ScopeContainers.{graph_in, up_to}
use Rattle.flow_model.specs.Scopes.{Known, at, Runs, Start, part, output, tree_ends, started_at}

-- BEGIN of a scope, SIGNAL of a connector with its truth, END of a scope
pub data Note : Type 0 where
  BeginNote : List Part → Note
  SignalNote : List Part → ℕ → ℕ → Bool → Note
  EndNote : List Part → Note

-- the same message, from the scope one step up
abbrev pub push : Part → Note → Note
push q (BeginNote p) = BeginNote (q ∷ p)
push q (SignalNote p a b v) = SignalNote (q ∷ p) a b v
push q (EndNote p) = EndNote (q ∷ p)

abbrev pub same_truth : Bool → Bool → Bool
same_truth true v = v
same_truth false v = not v

-- two messages are one
abbrev pub same_note : Note → Note → Bool
same_note (BeginNote p) (BeginNote q) = same_parts p q
same_note (BeginNote p) (SignalNote q a b v) = false
same_note (BeginNote p) (EndNote q) = false
same_note (SignalNote p a b v) (BeginNote q) = false
same_note (SignalNote p a b v) (SignalNote q c d w) = same_parts p q && (a == c) && (b == d) && same_truth v w
same_note (SignalNote p a b v) (EndNote q) = false
same_note (EndNote p) (BeginNote q) = false
same_note (EndNote p) (SignalNote q a b v) = false
same_note (EndNote p) (EndNote q) = same_parts p q

-- ---- what is due

-- the SIGNAL of a connector whose value is known
abbrev pub note_of : Control → Option Bool → List Note
note_of c None = []
note_of c (Some v) = SignalNote [] c.from c.to v ∷ []

-- the SIGNALs of a scope, by how its activities have ended
abbrev pub notes : List Control → List Control → Ends → List Note
notes controls [] e = []
notes controls (c ∷ cs) e = note_of c (connector_value controls c (e c.from)) ++ notes controls cs e

abbrev pub is_given : Option Container → Bool
is_given None = false
is_given (Some out) = true

-- what is due of an attempt that has started, by what its scope gives and by what is due in it
abbrev pub due_of : Known → Part → Option Container → List Note → List Note
due_of k q out below = BeginNote (q ∷ []) ∷ (if k.begun (q ∷ []) && is_given out then EndNote (q ∷ []) ∷ [] else [])
    ++ map (push q) below

-- what is due of the attempts of an activity that start, if it is a block or a process activity
abbrev pub due_with : Runs → (Known → Graph → Container → List Note) → Known → Name → Option Graph → List Start
    → List Note
due_with runs below k name None ss = []
due_with runs below k name (Some g) ss =
    flat_map (λ s. due_of k (part name s.attempt) (runs (at (part name s.attempt) k) g s.input)
    (below (at (part name s.attempt) k) g s.input)) ss

abbrev pub due_at : List Template → Runs → (Known → Graph → Container → List Note) → Known → Graph → Container → Ends
    → ℕ → Option Activity → List Note
due_at ts runs below k g input e a None = []
due_at ts runs below k g input e a (Some activity) =
    due_with runs below k activity.name (graph_in ts activity.work) (started_at ts k runs g input e a activity)

-- what is due in a scope and below it, but for the BEGIN and the END of the scope itself
abbrev pub due_in : List Template → ℕ → Known → Graph → Container → List Note
due_in ts zero k g input = notes (out-Graph g).controls (out-Graph g).controls (tree_ends ts zero k g input)
due_in ts (suc depth) k g input =
    notes (out-Graph g).controls (out-Graph g).controls (tree_ends ts (suc depth) k g input)
    ++ flat_map
    (λ a. due_at ts (output ts (suc depth)) (due_in ts depth) k g input (tree_ends ts (suc depth) k g input) a
    (slice_get (out-Graph g).activities a))
    (up_to (length (out-Graph g).activities) 0)
