use Rattle.std.proofs.Common.{◌≡◌, ◌<◌, ◌^◌, length, map, drop}
use Rattle.conditions.specs.Faults.{first_found, mismatch}
use Rattle.conditions.proofs.faults.+mismatch.Given as goal

abbrev pub invariant-first_mismatch_among-loop-member : goal.invariant-first_mismatch_among-loop-member
invariant-first_mismatch_among-loop-member l = length l.leaves.leaves < 2 ^ 32
    → first_found (map (mismatch l.leaves.leaves) (drop l.member-index l.members)) ≡ first_found (map (mismatch l.leaves.leaves) l.members)
