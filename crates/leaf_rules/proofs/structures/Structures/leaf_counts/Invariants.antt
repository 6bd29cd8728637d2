use Rattle.leaf_rules.specs.Structures.{behind}
use Rattle.leaf_rules.proofs.Counting.{AreCountedTo}
use Rattle.leaf_rules.proofs.structures.Structures.leaf_counts.Given as goal

abbrev pub invariant-loop-number : goal.invariant-loop-number
invariant-loop-number l = AreCountedTo (behind l.self.definitions.items) l.order l.number-index l.counts.items
