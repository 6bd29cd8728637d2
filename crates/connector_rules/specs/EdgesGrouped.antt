-- Activities in groups: a connector lies on a closed walk where both its ends are in one group.
use Rattle.std.specs.Prelude.{ℕ, List, length}
use Rattle.flow_model.specs.declared.trees.ElementTree.{ElementTree}
use Rattle.graph_check.specs.Components.{AreComponents}
use Rattle.text_graphs.specs.Texts.{activities_in, edges_in}

-- the number of each activity's group in a graph
abbrev pub AreGroupsOf : List ElementTree → List ℕ → Type 0
AreGroupsOf elements groups = AreComponents (length (activities_in elements)) (edges_in elements) groups
