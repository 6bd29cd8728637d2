-- The connectors of a graph as edges between numbers.
use Rattle.std.specs.Prelude.{◌≡◌, ◌<◌, ℕ, Bool, List, Some, length, nat_eq}
use Rattle.std.specs.Global.{Vec}
use Rattle.std.specs.HashMap.{HashMap, get}
use Rattle.graph_check.specs.Spreading.{AreReaching}
use Rattle.flow_model.specs.declared.trees.ElementTree.{ElementTree}
use Rattle.text_graphs.specs.Texts.{activities_in, edges_in}
use Rattle.text_graphs.specs.declared.edges.Edges.{Edges}

-- edges are those of the graph of these elements
pub record AreEdgesOf (elements : List ElementTree) (edges : Edges) : Type 0 where
  pub nodes : edges.nodes ≡ length (activities_in elements)
  pub pairs : edges.pairs.items ≡ edges_in elements

-- for each node that is known, from which nodes walks lead to it
abbrev pub AreKnown : {S : Type 0} → Edges → HashMap ℕ (Vec Bool) S → Type 0
AreKnown edges known = (to : ℕ) (seen : Vec Bool) → get nat_eq known to ≡ Some seen → to < edges.nodes
    → AreReaching edges.nodes edges.pairs.items to seen.items
