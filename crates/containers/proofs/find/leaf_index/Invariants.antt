use Rattle.std.proofs.Common.{◌≡◌, drop}
use Rattle.std.specs.List.{position_from}
use Rattle.containers.specs.Named.{names_leaf}
use Rattle.containers.proofs.find.leaf_index.Given as goal

abbrev pub invariant-loop-i : goal.invariant-loop-i
invariant-loop-i l = position_from (λ f. names_leaf l.steps f.name.steps) l.i (drop l.i l.leaves.leaves) ≡ position_from (λ f. names_leaf l.steps f.name.steps) 0 l.leaves.leaves
