-- The rows of all reached scopes in show order, and from them what the completions of a root come to.
use Rattle.std.specs.Prelude.{◌≡◌, ℕ, zero, suc, ◌+◌, ◌<◌, ◌==◌, Bool, true, false, ◌&&◌, if◌then◌else◌, Option, Some}
use Rattle.std.specs.Prelude.{None, List, [], ◌∷◌, ◌++◌, take, length, slice_get, bytes_eq}
use Rattle.std.specs.List.{flat_map, Contains}
use Rattle.flow_model.specs.declared.graphs.Activity.{Activity}
use Rattle.flow_model.specs.declared.graphs.Container.{Container}
use Rattle.flow_model.specs.declared.graphs.Graph.{Graph, out-Graph}
use Rattle.flow_model.specs.declared.graphs.Template.{Template}
use Rattle.flow_model.specs.declared.instances.Fact.{Fact}
use Rattle.flow_model.specs.declared.instances.Fate.TheVariants.{Ready}
use Rattle.flow_model.specs.declared.instances.FateRow.{FateRow}
use Rattle.flow_model.specs.declared.instances.Part.{Part}
use Rattle.flow_model.specs.declared.instances.Path.{Path}
use Rattle.flow_model.specs.Scopes.{Known, at, Start, part, output, tree_ends, tree_fate, started_at}
use Rattle.flow_model.specs.ScopeContainers.{graph_in, up_to}

-- ---- what is known from completions alone

abbrev pub same_part : Part → Part → Bool
same_part p q = bytes_eq p.name q.name && (p.attempt == q.attempt)

abbrev pub same_parts : List Part → List Part → Bool
same_parts [] [] = true
same_parts [] (q ∷ qs) = false
same_parts (p ∷ ps) [] = false
same_parts (p ∷ ps) (q ∷ qs) = same_part p q && same_parts ps qs

-- the first accepted output of an item
abbrev pub output_of : List Fact → List Part → Option Container
output_of [] p = None
output_of (f ∷ fs) p = if same_parts f.item.parts p then Some f.output else output_of fs p

-- every scope has begun, everything counts at once, and no activity has more attempts than this
abbrev pub by_facts : ℕ → List Fact → Known
by_facts most fs = record {
  most = most;
  begun = λ p. true;
  closed = λ p. true;
  sent = λ p a b v. v;
  given = λ p. output_of fs p;
}

-- ---- rows

abbrev pub below : Path → Part → Path
below s q = record { root = s.root; parts = s.parts ++ q ∷ [] }

-- the rows of each attempt that starts, if the activity is a block or a process activity
abbrev pub rows_below : (Known → Graph → Container → Path → List FateRow) → Known → Activity → Option Graph → List Start
    → Path → List FateRow
rows_below rows k activity None starts s = []
rows_below rows k activity (Some h) starts s =
    flat_map (λ start. rows (at (part activity.name start.attempt) k) h start.input
    (below s (part activity.name start.attempt))) starts

-- the row of the activity at a place, and then those below it
abbrev pub rows_of : List Template → ℕ → (Known → Graph → Container → Path → List FateRow) → Known → Graph → Container
    → Path → ℕ → Option Activity → List FateRow
rows_of ts depth rows k g input s a None = []
rows_of ts depth rows k g input s a (Some activity) =
    record { scope = s; name = activity.name; fate = tree_fate ts depth k g input a }
    ∷ rows_below rows k activity (graph_in ts activity.work)
    (started_at ts k (output ts depth) g input (tree_ends ts depth k g input) a activity) s

-- the rows of a scope and of those below it, at most this deep
abbrev pub rows : List Template → ℕ → Known → Graph → Container → Path → List FateRow
rows ts zero k g input s =
    flat_map (λ a. rows_of ts zero (λ k' h i p. []) k g input s a (slice_get (out-Graph g).activities a))
    (up_to (length (out-Graph g).activities) 0)
rows ts (suc depth) k g input s =
    flat_map (λ a. rows_of ts (suc depth) (rows ts depth) k g input s a (slice_get (out-Graph g).activities a))
    (up_to (length (out-Graph g).activities) 0)

-- ---- one root

-- no process nests deeper
abbrev pub deepest : ℕ
deepest = 16

-- the rows of a root by these completions
abbrev pub fate_rows : List Template → Graph → ℕ → Container → ℕ → List Fact → List FateRow
fate_rows ts g root input most fs = rows ts deepest (by_facts most fs) g input (record { root = root; parts = [] })

-- the output of a root by these completions, once its scope is complete
abbrev pub fate_output : List Template → Graph → Container → ℕ → List Fact → Option Container
fate_output ts g input most fs = output ts (deepest + 1) (by_facts most fs) g input

-- a completion is ready where the rows by the completions before it show its activity ready at its attempt
abbrev pub IsReady : List FateRow → Path → Type 0
IsReady shown item = (s : Path) × (q : Part) × (item ≡ below s q)
    × Contains shown (record { scope = s; name = q.name; fate = Ready q.attempt })

abbrev pub IsReadyBy : List Template → Graph → ℕ → Container → List Fact → ℕ → Fact → Type 0
IsReadyBy ts g root input fs n f = IsReady (fate_rows ts g root input (length fs) (take n fs)) f.item

-- the first n completions are ready, each by those before it
abbrev pub AreReady : List Template → Graph → ℕ → Container → List Fact → ℕ → Type 0
AreReady ts g root input fs n = (i : ℕ) (f : Fact) → i < n → slice_get fs i ≡ Some f → IsReadyBy ts g root input fs i f
