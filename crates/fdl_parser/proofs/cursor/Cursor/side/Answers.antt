use Rattle.std.proofs.Common.{arith}
use Rattle.fdl_parser.specs.Conditions.{FirstTerm, MoreTerms, TextSide, SumSide}
use Rattle.fdl_parser.proofs.Stops.{at_err}
use Rattle.fdl_parser.proofs.StopsConditions.{sum_first, sum_more, side_text, side_sum, stops_text_side, stops_first_operand, stops_next_term}
use Rattle.fdl_parser.proofs.cursor.Cursor.side.Goals as goal

pub returns-then-is_next-clause-read : goal.returns-then-is_next-clause-read
returns-then-is_next-clause-read c = TextSide c.in_ok-text.ensures.read

pub loop-terms-init : goal.loop-terms-init
loop-terms-init c = record {
  shorter = omega (arith, c.in_ok-operand.ensures.shorter);
  within = λ all h. c.in_ok-operand.ensures.within all h;
  so_far = sum_first c.in_ok-operand.ensures.taken;
  read = rw (c.in_ok-push.ensures.ok, c.new-terms.ensures) (FirstTerm c.in_ok-operand.ensures.read);
}

pub loop-terms-preserved : goal.loop-terms-preserved
loop-terms-preserved c = record {
  shorter = omega (arith, c.loop-terms.invariant.shorter, c.in_ok-next_term.ensures.shorter);
  within = λ all h. c.in_ok-next_term.ensures.within all (c.loop-terms.invariant.within all h);
  so_far = sum_more c.loop-terms.invariant.so_far c.in_ok-next_term.ensures.taken;
  read = rw (c.in_ok-push-2.ensures.ok) (MoreTerms c.loop-terms.invariant.read c.in_ok-next_term.ensures.read);
}

pub returns-clause-read : goal.returns-clause-read
returns-clause-read c = SumSide c.loop-terms.invariant.read

pub returns-then-is_next-clause-taken : goal.returns-then-is_next-clause-taken
returns-then-is_next-clause-taken c = side_text (_, _, c.in_ok-text.ensures.read)

pub returns-clause-taken : goal.returns-clause-taken
returns-clause-taken c = side_sum c.loop-terms.invariant.so_far (c.is_term_next.ensures.no c.loop-terms-test.false)

pub returns-in_err-text-clause-stops : goal.returns-in_err-text-clause-stops
returns-in_err-text-clause-stops c = at_err c.from_residual.result c.in_err-text.field-0.0 c.from_residual.ensures.1 (stops_text_side (c.is_next.ensures.yes c.if-is_next.true) c.in_err-text.ensures.stops)

pub returns-in_err-operand-clause-stops : goal.returns-in_err-operand-clause-stops
returns-in_err-operand-clause-stops c = at_err c.from_residual-in_err-operand.result c.in_err-operand.field-0.0 c.from_residual-in_err-operand.ensures.1 (stops_first_operand (c.is_next.ensures.no c.if-is_next.false) c.in_err-operand.ensures.stops)

pub returns-in_err-next_term-clause-stops : goal.returns-in_err-next_term-clause-stops
returns-in_err-next_term-clause-stops c = at_err c.from_residual-in_err-next_term.result c.in_err-next_term.field-0.0 c.from_residual-in_err-next_term.ensures.1 (stops_next_term (c.is_next.ensures.no c.if-is_next.false) c.loop-terms.invariant.so_far (c.is_term_next.ensures.yes c.loop-terms-test.true) c.in_err-next_term.ensures.stops)
