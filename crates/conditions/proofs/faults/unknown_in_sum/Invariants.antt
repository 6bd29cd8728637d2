use Rattle.std.proofs.Common.{◌≡◌, ◌<◌, ◌^◌, length, map, drop}
use Rattle.conditions.specs.Faults.{first_found, unknown_term}
use Rattle.conditions.proofs.faults.unknown_in_sum.Given as goal

abbrev pub invariant-loop-term : goal.invariant-loop-term
invariant-loop-term l = length l.leaves.leaves < 2 ^ 32
    → first_found (map (unknown_term l.leaves.leaves) (drop l.term-index l.terms)) ≡ first_found (map (unknown_term l.leaves.leaves) l.terms)
