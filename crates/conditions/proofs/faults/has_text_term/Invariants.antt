use Rattle.std.proofs.Common.{◌≡◌, ◌<◌, ◌^◌, length, drop}
use Rattle.std.specs.List.{list_any}
use Rattle.conditions.specs.Faults.{is_text_term}
use Rattle.conditions.proofs.faults.has_text_term.Given as goal

abbrev pub invariant-loop-term : goal.invariant-loop-term
invariant-loop-term l = length l.leaves.leaves < 2 ^ 32
    → list_any (is_text_term l.leaves.leaves) (drop l.term-index l.terms) ≡ list_any (is_text_term l.leaves.leaves) l.terms
