use Rattle.std.proofs.Common.{◌≤◌, ◌-◌, length}
use Rattle.fdl_lexer.specs.Tokens.{Scans}
use Rattle.fdl_lexer.proofs.lexer.lex_allowed.Given as goal

abbrev pub invariant-scan : goal.invariant-scan
invariant-scan l = record { within : l.at ≤ length l.text; so_far : Scans l.text 0 l.tokens.items l.at }

abbrev pub decreases-scan : goal.decreases-scan
decreases-scan l = length l.text - l.at
