use Rattle.std.proofs.Common.{◌≡◌, ◌<◌, ◌^◌, length, map, drop}
use Rattle.conditions.specs.Faults.{first_found, unknown_leaf}
use Rattle.conditions.proofs.faults.+unknown.Given as goal

abbrev pub invariant-first_unknown_among-loop-member : goal.invariant-first_unknown_among-loop-member
invariant-first_unknown_among-loop-member l = length l.leaves.leaves < 2 ^ 32
    → first_found (map (unknown_leaf l.leaves.leaves) (drop l.member-index l.members)) ≡ first_found (map (unknown_leaf l.leaves.leaves) l.members)
