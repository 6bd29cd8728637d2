use Rattle.std.proofs.Common.{◌≡◌, length}
use Rattle.graph_check.specs.Grouping.{merged}
use Rattle.graph_check.proofs.strong.Grouping.merge.Given as goal

abbrev pub invariant-loop-root : goal.invariant-loop-root
invariant-loop-root l = merged l.self l.place ≡ merged l.initial.self l.place

abbrev pub decreases-loop-root : goal.decreases-loop-root
decreases-loop-root l = length l.self.roots
