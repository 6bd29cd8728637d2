use Rattle.fdl_parser.specs.Tokens.{RcFirst, NameFirst}
use Rattle.fdl_parser.proofs.Stops.{at_err}
use Rattle.fdl_parser.proofs.StopsTokens.{stops_first_step}
use Rattle.fdl_parser.proofs.cursor.Cursor.first_step.Goals as goal

pub returns-then-is_next-clause-read : goal.returns-then-is_next-clause-read
returns-then-is_next-clause-read c = RcFirst c.in_ok-place.ensures.read

pub returns-clause-read : goal.returns-clause-read
returns-clause-read c = NameFirst c.in_ok-member.ensures.read

pub returns-in_err-member-clause-stops : goal.returns-in_err-member-clause-stops
returns-in_err-member-clause-stops c = at_err c.from_residual-in_err-member.result c.in_err-member.field-0.0 c.from_residual-in_err-member.ensures.1 (stops_first_step (c.is_next.ensures.no c.if-is_next.false) c.in_err-member.ensures.stops)
