-- Which graphs are served: the rows of the wiring are right and sizes fit, at every depth, and none nests deeper than
-- this.
use Rattle.std.specs.Prelude.{◌≡◌, ℕ, zero, suc, ◌<◌, ◌^◌, Some, List, length, slice_get}
use Rattle.flow_model.specs.ScopeContainers.{graph_in, graph_of}
use Rattle.flow_model.specs.Wiring.{IsIncoming, IsSinking}
use Rattle.flow_model.specs.declared.graphs.Activity.{Activity}
use Rattle.flow_model.specs.declared.graphs.Graph.{Graph, out-Graph}
use Rattle.flow_model.specs.declared.graphs.Template.{Template}
use Rattle.flow_model.specs.declared.graphs.Work.{Work, Program, Block, Process}
use Rattle.navigator.specs.Events.{IsUsable}

-- a process activity has its process
abbrev pub HasGraph : List Template → Work → Type 0
HasGraph ts (Program p) = Unit {0}
HasGraph ts (Block g) = Unit {0}
HasGraph ts (Process t) = (h : Graph) × (graph_of ts t ≡ Some h)

abbrev pub HasGraphs : List Template → Graph → Type 0
HasGraphs ts g = (a : ℕ) (activity : Activity) → slice_get (out-Graph g).activities a ≡ Some activity
    → HasGraph ts activity.work

-- a graph whose blocks and subprocesses have this property
pub record IsServed (ts : List Template) (g : Graph) (inner : Graph → Type 0) : Type 0 where
  pub usable : IsUsable g
  pub graphs : HasGraphs ts g
  pub incoming : IsIncoming g
  pub sinking : IsSinking g
  pub few : length (out-Graph g).controls < 2 ^ 32
  pub inside : (a : ℕ) (activity : Activity) (h : Graph) → slice_get (out-Graph g).activities a ≡ Some activity
      → graph_in ts activity.work ≡ Some h → inner h

-- so is the graph, and so are those inside, to this depth, below which there is none
abbrev pub Served : List Template → ℕ → Graph → Type 0
Served ts zero g = IsServed ts g (λ h. ⊥)
Served ts (suc depth) g = IsServed ts g (Served ts depth)
