use Rattle.fdl_parser.specs.Items.{NoCount, OneCount}
use Rattle.fdl_parser.proofs.Stops.{at_err}
use Rattle.fdl_parser.proofs.StopsTokens.{stops_mark}
use Rattle.fdl_lexer.specs.declared.kinds.Mark.TheVariants as mark
use Rattle.fdl_parser.proofs.StopsItems.{count_none, count_some, stops_count, stops_count_close}
use Rattle.fdl_parser.proofs.cursor.Cursor.count.Goals as goal

pub returns-then-not-is_mark-clause-read : goal.returns-then-not-is_mark-clause-read
returns-then-not-is_mark-clause-read c = NoCount

pub returns-clause-read : goal.returns-clause-read
returns-clause-read c = OneCount c.in_ok-mark.ensures.read c.in_ok-count.ensures.read c.in_ok-mark-2.ensures.read

pub returns-then-not-is_mark-clause-taken : goal.returns-then-not-is_mark-clause-taken
returns-then-not-is_mark-clause-taken c = count_none (c.is_mark.ensures.no c.if-not-is_mark.true)

pub returns-clause-taken : goal.returns-clause-taken
returns-clause-taken c = count_some c.in_ok-mark.ensures.read c.in_ok-count.ensures.read c.in_ok-mark-2.ensures.read

pub returns-in_err-count-clause-stops : goal.returns-in_err-count-clause-stops
returns-in_err-count-clause-stops c = at_err c.from_residual-in_err-count.result c.in_err-count.field-0.0 c.from_residual-in_err-count.ensures.1 (stops_count c.in_ok-mark.ensures.read c.in_err-count.ensures.stops)

pub returns-in_err-mark-2-clause-stops : goal.returns-in_err-mark-2-clause-stops
returns-in_err-mark-2-clause-stops c = at_err c.from_residual-in_err-mark-2.result c.in_err-mark-2.field-0.0 c.from_residual-in_err-mark-2.ensures.1 (stops_count_close c.in_ok-mark.ensures.read c.in_ok-count.ensures.read (stops_mark mark.Close c.number.new.self c.mark-2.new.self _ c.in_err-mark-2.ensures.refused))
