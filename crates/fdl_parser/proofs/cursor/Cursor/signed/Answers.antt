use Rattle.fdl_parser.specs.Tokens.{Unsigned, Negative}
use Rattle.fdl_parser.proofs.Stops.{at_err}
use Rattle.fdl_parser.proofs.StopsTokens.{stops_unsigned, stops_negative}
use Rattle.fdl_parser.proofs.cursor.Cursor.signed.Goals as goal

pub returns-then-not-is_mark-clause-read : goal.returns-then-not-is_mark-clause-read
returns-then-not-is_mark-clause-read c = Unsigned c.in_ok-unsigned.ensures.read

pub returns-clause-read : goal.returns-clause-read
returns-clause-read c = Negative c.in_ok-minus.ensures.read c.in_ok-number.ensures.read

pub returns-in_err-unsigned-clause-stops : goal.returns-in_err-unsigned-clause-stops
returns-in_err-unsigned-clause-stops c = at_err c.from_residual.result c.in_err-unsigned.field-0.0 c.from_residual.ensures.1 (stops_unsigned (c.is_mark.ensures.no c.if-not-is_mark.true) c.in_err-unsigned.ensures.stops)

pub returns-in_err-number-clause-stops : goal.returns-in_err-number-clause-stops
returns-in_err-number-clause-stops c = at_err c.from_residual-in_err-number.result c.in_err-number.field-0.0 c.from_residual-in_err-number.ensures.1 (stops_negative c.in_ok-minus.ensures.read c.in_err-number.ensures.stops)
