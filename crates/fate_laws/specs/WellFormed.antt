-- The graphs that the laws speak of: acyclic, with data lines along connectors and no name or connector twice, at every
-- depth.
use Rattle.std.specs.Prelude.{◌≡◌, ℕ, zero, suc, ◌<◌, ◌==◌, ◌&&◌, false, Some, List, [], ◌∷◌, length, slice_get}
use Rattle.std.specs.List.{list_any}
use Rattle.flow_model.specs.declared.graphs.Activity.{Activity}
use Rattle.flow_model.specs.declared.graphs.Control.{Control}
use Rattle.flow_model.specs.declared.graphs.Graph.{Graph, out-Graph}
use Rattle.flow_model.specs.declared.graphs.Template.{Template}
use Rattle.flow_model.specs.ScopeContainers.{graph_in}
use Rattle.fate_laws.specs.Orders.{IsOrder, IsFlow}
use Rattle.fate_laws.specs.Walks.{IsWired}

-- no two connectors have the same ends
abbrev pub AreSimple : List Control → Type 0
AreSimple [] = Unit {0}
AreSimple (c ∷ cs) = (list_any (λ d. (c.from == d.from) && (c.to == d.to)) cs ≡ false) × AreSimple cs

-- a graph with an order, whose blocks and subprocesses have this property
pub record IsWell (ts : List Template) (g : Graph) (inner : Graph → Type 0) : Type 0 where
  pub order : List ℕ
  pub peopled : 0 < length (out-Graph g).activities
  pub flow : IsFlow g order
  pub wired : IsWired g
  pub simple : AreSimple (out-Graph g).controls
  pub named : (a b : ℕ) (x y : Activity) → slice_get (out-Graph g).activities a ≡ Some x
      → slice_get (out-Graph g).activities b ≡ Some y → x.name ≡ y.name → a ≡ b
  pub inside : (a : ℕ) (activity : Activity) → slice_get (out-Graph g).activities a ≡ Some activity
      → (h : Graph) → graph_in ts activity.work ≡ Some h → inner h

-- so is the graph, and so are those inside, to this depth
abbrev pub Well : List Template → ℕ → Graph → Type 0
Well ts zero g = IsWell ts g (λ h. Unit {0})
Well ts (suc depth) g = IsWell ts g (Well ts depth)

-- an order in which the connectors lead forward is one of the data lines too, where those go along walks of connectors
abbrev pub OrderIsFlow : Type 0
OrderIsFlow = (g : Graph) (order : List ℕ) → IsOrder g order → IsWired g → IsFlow g order
