use Rattle.fdl_parser.specs.Conditions.{PlusTerm, MinusTerm}
use Rattle.fdl_parser.proofs.Stops.{at_err}
use Rattle.fdl_parser.proofs.StopsTokens.{stops_mark}
use Rattle.fdl_parser.proofs.StopsConditions.{term_minus, term_plus, stops_minus_operand, stops_plus, stops_plus_operand}
use Rattle.fdl_lexer.specs.declared.kinds.Mark.TheVariants as mark
use Rattle.fdl_parser.proofs.cursor.Cursor.next_term.Goals as goal

pub returns-then-is_mark-clause-read : goal.returns-then-is_mark-clause-read
returns-then-is_mark-clause-read c = MinusTerm c.in_ok-mark.ensures.read c.in_ok-operand.ensures.read

pub returns-clause-read : goal.returns-clause-read
returns-clause-read c = PlusTerm c.in_ok-mark-2.ensures.read c.in_ok-operand-2.ensures.read

pub returns-then-is_mark-clause-taken : goal.returns-then-is_mark-clause-taken
returns-then-is_mark-clause-taken c = term_minus c.in_ok-mark.ensures.read c.in_ok-operand.ensures.taken

pub returns-clause-taken : goal.returns-clause-taken
returns-clause-taken c = term_plus c.in_ok-mark-2.ensures.read c.in_ok-operand-2.ensures.taken

pub returns-in_err-operand-clause-stops : goal.returns-in_err-operand-clause-stops
returns-in_err-operand-clause-stops c = at_err c.from_residual-in_err-operand.result c.in_err-operand.field-0.0 c.from_residual-in_err-operand.ensures.1 (stops_minus_operand c.in_ok-mark.ensures.read c.in_err-operand.ensures.stops)

pub returns-in_err-mark-2-clause-stops : goal.returns-in_err-mark-2-clause-stops
returns-in_err-mark-2-clause-stops c = at_err c.from_residual-in_err-mark-2.result c.in_err-mark-2.field-0.0 c.from_residual-in_err-mark-2.ensures.1 (stops_plus (c.is_mark.ensures.no c.if-is_mark.false) (stops_mark mark.Plus c.args.self.now c.mark-2.new.self _ c.in_err-mark-2.ensures.refused))

pub returns-in_err-operand-2-clause-stops : goal.returns-in_err-operand-2-clause-stops
returns-in_err-operand-2-clause-stops c = at_err c.from_residual-in_err-operand-2.result c.in_err-operand-2.field-0.0 c.from_residual-in_err-operand-2.ensures.1 (stops_plus_operand (c.is_mark.ensures.no c.if-is_mark.false) c.in_ok-mark-2.ensures.read c.in_err-operand-2.ensures.stops)
