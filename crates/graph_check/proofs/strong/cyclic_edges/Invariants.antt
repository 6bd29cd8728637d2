use Rattle.std.proofs.Common.{◌≡◌, take, map}
use Rattle.graph_check.specs.Components.{same_number}
use Rattle.graph_check.proofs.strong.cyclic_edges.Given as goal

abbrev pub invariant-loop-edge : goal.invariant-loop-edge
invariant-loop-edge l = l.cyclic.items ≡ map (same_number l.numbers.items) (take l.edge-index l.edges)
