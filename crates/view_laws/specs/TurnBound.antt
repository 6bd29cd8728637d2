-- A run takes no more messages than the size of its process, times one more than its completions.
use Rattle.std.specs.Prelude.{ℕ, zero, suc, ◌+◌, ◌*◌, ◌≤◌, Option, Some, None, List, [], ◌∷◌, length}
use Rattle.flow_model.specs.declared.graphs.Activity.{Activity}
use Rattle.flow_model.specs.declared.graphs.Graph.{Graph, out-Graph}
use Rattle.flow_model.specs.declared.graphs.Template.{Template}
use Rattle.flow_model.specs.ScopeContainers.{graph_in}
use Rattle.fate_laws.specs.WellFormed.{Well}
use Rattle.view_laws.specs.Messages.{Note}
use Rattle.view_laws.specs.Queues.{spent, TakesFronts}
use Rattle.view_laws.specs.Runs.{Root, Event, running, facts, engine}

abbrev pub size_in : (Graph → ℕ) → Option Graph → ℕ
size_in size None = 0
size_in size (Some g) = size g

-- the sizes of the blocks and subprocesses of these activities
abbrev pub sizes : (Graph → ℕ) → List Template → List Activity → ℕ
sizes size ts [] = 0
sizes size ts (a ∷ activities) = size_in size (graph_in ts a.work) + sizes size ts activities

-- the expanded size of a graph: its connectors and two more, for its BEGIN and its END, and the sizes of what is
-- inside, each use counted, to this depth
abbrev pub expanded_size : List Template → ℕ → Graph → ℕ
expanded_size ts zero g = length (out-Graph g).controls + 2
expanded_size ts (suc depth) g = length (out-Graph g).controls + 2
    + sizes (expanded_size ts depth) ts (out-Graph g).activities

-- the messages taken are at most the expanded size times one more than the completions that were accepted before the
-- root was stopped
abbrev pub TurnsAreBounded : Type 0
TurnsAreBounded =
    (r : Root) (q : Note → ℕ) (h : List Event) → Well r.templates r.depth r.graph → TakesFronts (engine r q) h
    → length (spent (engine r q) h) ≤ expanded_size r.templates r.depth r.graph * (1 + length (facts (running h)))
