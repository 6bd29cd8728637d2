use Rattle.fdl_parser.specs.Tokens.{MemberNext, PlaceNext}
use Rattle.fdl_parser.proofs.Stops.{at_err}
use Rattle.fdl_parser.proofs.StopsTokens.{stops_mark, stops_member, stops_open, stops_number, stops_close}
use Rattle.fdl_lexer.specs.declared.kinds.Mark.TheVariants as mark
use Rattle.fdl_parser.proofs.cursor.Cursor.next_step.Goals as goal

pub returns-then-is_mark-clause-read : goal.returns-then-is_mark-clause-read
returns-then-is_mark-clause-read c = MemberNext c.in_ok-mark.ensures.read c.in_ok-member.ensures.read

pub returns-clause-read : goal.returns-clause-read
returns-clause-read c = PlaceNext c.in_ok-mark-2.ensures.read c.in_ok-number.ensures.read c.in_ok-mark-3.ensures.read

pub returns-in_err-member-clause-stops : goal.returns-in_err-member-clause-stops
returns-in_err-member-clause-stops c = at_err c.from_residual-in_err-member.result c.in_err-member.field-0.0 c.from_residual-in_err-member.ensures.1 (stops_member c.in_ok-mark.ensures.read c.in_err-member.ensures.stops)

pub returns-in_err-mark-2-clause-stops : goal.returns-in_err-mark-2-clause-stops
returns-in_err-mark-2-clause-stops c = at_err c.from_residual-in_err-mark-2.result c.in_err-mark-2.field-0.0 c.from_residual-in_err-mark-2.ensures.1 (stops_open (c.is_mark.ensures.no c.if-is_mark.false) (stops_mark mark.OpenBracket c.args.self.now c.mark-2.new.self _ c.in_err-mark-2.ensures.refused))

pub returns-in_err-number-clause-stops : goal.returns-in_err-number-clause-stops
returns-in_err-number-clause-stops c = at_err c.from_residual-in_err-number.result c.in_err-number.field-0.0 c.from_residual-in_err-number.ensures.1 (stops_number (c.is_mark.ensures.no c.if-is_mark.false) c.in_ok-mark-2.ensures.read c.in_err-number.ensures.stops)

pub returns-in_err-mark-3-clause-stops : goal.returns-in_err-mark-3-clause-stops
returns-in_err-mark-3-clause-stops c = at_err c.from_residual-in_err-mark-3.result c.in_err-mark-3.field-0.0 c.from_residual-in_err-mark-3.ensures.1 (stops_close (c.is_mark.ensures.no c.if-is_mark.false) c.in_ok-mark-2.ensures.read c.in_ok-number.ensures.read (stops_mark mark.CloseBracket c.number.new.self c.mark-3.new.self _ c.in_err-mark-3.ensures.refused))
