-- Graphs as they are laid out to be passed through: the rows of the wiring are right, and the order goes along all
-- lines, at every depth.
use Rattle.std.specs.Prelude.{◌≡◌, ℕ, zero, suc, Option, Some, None, List, slice_get}
use Rattle.flow_model.specs.ScopeContainers.{graph_in}
use Rattle.flow_model.specs.Wiring.{IsIncoming, IsOutgoing, IsFeeding, IsSinking, IsLooping}
use Rattle.flow_model.specs.declared.graphs.Activity.{Activity}
use Rattle.flow_model.specs.declared.graphs.Graph.{Graph, out-Graph}
use Rattle.flow_model.specs.declared.graphs.Template.{Template}
use Rattle.fate_laws.specs.Orders.{IsFlow}

-- the wiring of a graph follows from its lists, and its order leads along all lines
pub record IsLaid (g : Graph) : Type 0 where
  pub incoming : IsIncoming g
  pub outgoing : IsOutgoing g
  pub feeding : IsFeeding g
  pub sinking : IsSinking g
  pub looping : IsLooping g
  pub flow : IsFlow g (out-Graph g).wiring.order

-- what holds of the graph that an activity runs
abbrev pub OfInside : List Template → (Graph → Type 0) → Option Activity → Type 0
OfInside ts P None = Unit {0}
OfInside ts P (Some activity) = (h : Graph) → graph_in ts activity.work ≡ Some h → P h

pub record IsLaidWith (ts : List Template) (g : Graph) (P : Graph → Type 0) : Type 0 where
  pub here : IsLaid g
  pub inside : (a : ℕ) → OfInside ts P (slice_get (out-Graph g).activities a)

-- a graph is laid, and so are those inside, to this depth
abbrev pub Laid : List Template → ℕ → Graph → Type 0
Laid ts zero g = IsLaidWith ts g (λ h. Unit {0})
Laid ts (suc depth) g = IsLaidWith ts g (Laid ts depth)

-- one level further in
abbrev pub LaidBelow : List Template → ℕ → Graph → Type 0
LaidBelow ts depth h = (d : ℕ) → depth ≡ suc d → Laid ts d h
