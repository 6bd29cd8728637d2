use Rattle.std.proofs.Common.{take}
use Rattle.text_graphs.specs.Places.{IsLeastOf, AnyAt}
use Rattle.text_graphs.specs.Graphs.{graph_at}
use Rattle.leaf_rules.specs.Structures.{behind, AreNoContainersIn}
use Rattle.leaf_rules.proofs.structures.Structures.unknown_containers.Given as goal

abbrev pub invariant-loop-scope : goal.invariant-loop-scope
invariant-loop-scope l = IsLeastOf (AnyAt (λ s. AreNoContainersIn (behind l.self.definitions.items) (graph_at s)) (take l.scope-index l.scopes)) l.least
