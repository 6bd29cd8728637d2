use Rattle.std.proofs.Common.{◌≡◌, map, drop}
use Rattle.conditions.specs.Faults.{first_found, unsized_number}
use Rattle.conditions.proofs.faults.+unsized_number.Given as goal

abbrev pub invariant-first_number_fault_among-loop-member : goal.invariant-first_number_fault_among-loop-member
invariant-first_number_fault_among-loop-member l = first_found (map unsized_number (drop l.member-index l.members)) ≡ first_found (map unsized_number l.members)
