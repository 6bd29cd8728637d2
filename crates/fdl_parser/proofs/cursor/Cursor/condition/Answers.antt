use Rattle.fdl_parser.specs.Conditions.{Whole}
use Rattle.fdl_parser.proofs.Stops.{at_err}
use Rattle.fdl_parser.proofs.StopsTokens.{stops_mark}
use Rattle.fdl_parser.proofs.StopsConditions.{stops_condition_open, stops_condition, stops_condition_close}
use Rattle.fdl_lexer.specs.declared.kinds.Mark.TheVariants as mark
use Rattle.fdl_parser.proofs.cursor.Cursor.condition.Goals as goal

pub returns-clause-read : goal.returns-clause-read
returns-clause-read c = Whole c.in_ok-place.ensures.read c.in_ok-cond.ensures.read c.in_ok-mark.ensures.read

pub returns-in_err-place-clause-stops : goal.returns-in_err-place-clause-stops
returns-in_err-place-clause-stops c = at_err c.from_residual.result c.in_err-place.field-0.0 c.from_residual.ensures.1 (stops_condition_open (stops_mark mark.Open c.args.self.now c.mark.new.self _ c.in_err-place.ensures.refused))

pub returns-in_err-cond-clause-stops : goal.returns-in_err-cond-clause-stops
returns-in_err-cond-clause-stops c = at_err c.from_residual-in_err-cond.result c.in_err-cond.field-0.0 c.from_residual-in_err-cond.ensures.1 (stops_condition c.in_ok-place.ensures.read c.in_err-cond.ensures.stops)

pub returns-in_err-mark-clause-stops : goal.returns-in_err-mark-clause-stops
returns-in_err-mark-clause-stops c = at_err c.from_residual-in_err-mark.result c.in_err-mark.field-0.0 c.from_residual-in_err-mark.ensures.1 (stops_condition_close c.in_ok-place.ensures.read c.in_ok-cond.ensures.taken (stops_mark mark.Close c.disjunction.new.self c.mark-2.new.self _ c.in_err-mark.ensures.refused))
