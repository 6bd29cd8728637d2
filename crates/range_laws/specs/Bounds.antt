-- Graphs in bounds: how deep they nest, how many activities they have, which names these have, and how small the
-- outputs of these are.
use Rattle.std.specs.Prelude.{◌≡◌, ℕ, zero, suc, ◌^◌, ◌<◌, ◌≤◌, Some, List, length, slice_get}
use Rattle.flow_model.specs.ScopeContainers.{graph_of}
use Rattle.flow_model.specs.declared.graphs.Activity.{Activity}
use Rattle.flow_model.specs.declared.graphs.Graph.{Graph, out-Graph}
use Rattle.flow_model.specs.declared.graphs.Template.{Template}
use Rattle.flow_model.specs.declared.graphs.Work.{Work, Program, Block, Process}
use Rattle.flow_txn.specs.Ranges.{IsName}
use Rattle.reopening_laws.specs.Ranges.{TemplateIsInRange}

-- what an activity runs, if it is a graph, has this property: that of its block, or of a template that is there
abbrev pub RunsOnly : List Template → (Graph → Type 0) → Work → Type 0
RunsOnly ts P (Program p) = Unit {0}
RunsOnly ts P (Block g) = P g
RunsOnly ts P (Process t) = (h : Graph) × (graph_of ts t ≡ Some h) × P h

-- an activity has a name and a small output, and the graph that it runs has this property
pub record HasBounds (ts : List Template) (P : Graph → Type 0) (activity : Activity) : Type 0 where
  pub named : IsName activity.name
  pub small : length activity.output.leaves < 2 ^ 16
  pub inside : RunsOnly ts P activity.work

-- a graph has at most 1,024 activities, and each of them is within these bounds
pub record IsGraphInBounds (ts : List Template) (P : Graph → Type 0) (g : Graph) : Type 0 where
  pub few : length (out-Graph g).activities ≤ 1024
  pub each : (a : ℕ) (activity : Activity) → slice_get (out-Graph g).activities a ≡ Some activity
      → HasBounds ts P activity

-- a graph and those inside it nest no more than this many levels deep, itself the first, and are so
abbrev pub IsInBounds : List Template → ℕ → Graph → Type 0
IsInBounds ts zero g = ⊥
IsInBounds ts (suc levels) g = IsGraphInBounds ts (IsInBounds ts levels) g

-- a template has a version and an input that their bytes hold, and nests as deep as it says, at most 16 levels below
-- its own graph
pub record IsBounded (ts : List Template) (t : Template) : Type 0 where
  pub fits : TemplateIsInRange t
  pub shallow : t.depth ≤ 16
  pub graph : IsInBounds ts (suc t.depth) t.graph
