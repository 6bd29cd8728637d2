use Rattle.std.proofs.Common.{ℕ, List, length, ◌-◌}
use Rattle.fdl_lexer.proofs.Doubled.{IsHalfRead}
use Rattle.fdl_lexer.proofs.quoted.double.Given as goal

abbrev pub invariant-text : goal.invariant-text
invariant-text l = (so_far : List ℕ) × IsHalfRead l.bytes l.at l.size so_far

abbrev pub decreases-text : goal.decreases-text
decreases-text l = length l.bytes - l.at
