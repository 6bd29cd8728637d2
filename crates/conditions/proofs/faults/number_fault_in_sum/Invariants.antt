use Rattle.std.proofs.Common.{◌≡◌, map, drop}
use Rattle.conditions.specs.Faults.{first_found, unsized_term}
use Rattle.conditions.proofs.faults.number_fault_in_sum.Given as goal

abbrev pub invariant-loop-term : goal.invariant-loop-term
invariant-loop-term l = first_found (map unsized_term (drop l.term-index l.terms)) ≡ first_found (map unsized_term l.terms)
