use Rattle.std.proofs.Common.{◌<◌, ◌^◌, List, ◌++◌, length, drop}
use Rattle.flow_model.specs.declared.graphs.Expr.{Expr}
use Rattle.conditions.specs.Resolving.{AreClear, AreResolved}
use Rattle.conditions.proofs.resolving.+expression.Given as goal

abbrev pub invariant-members_of-loop-member : goal.invariant-members_of-loop-member
invariant-members_of-loop-member l = length l.leaves.leaves < 2 ^ 32 → AreClear l.leaves.leaves l.members
    → AreClear l.leaves.leaves (drop l.member-index l.members)
    × ((later : List Expr) → AreResolved l.leaves.leaves (drop l.member-index l.members) later → AreResolved l.leaves.leaves l.members (l.resolved ++ later))
