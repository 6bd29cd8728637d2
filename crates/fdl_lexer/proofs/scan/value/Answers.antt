use Rattle.fdl_lexer.proofs.Digits.{digit_bounds, digit_at, value_more}
use Rattle.fdl_lexer.proofs.scan.value.Goals as goal

pub overflow_sub-digit : goal.overflow_sub-digit
overflow_sub-digit c = (digit_bounds _ (digit_at c.args.digits.now c.loop-digit.digit-index c.requires c.loop-digit-test.true)).0

pub loop-digit-preserved : goal.loop-digit-preserved
loop-digit-preserved c =
    rw (c.saturating_add-value.ensures, c.saturating_mul.ensures, c.from.ensures) (value_more c.args.digits.now c.loop-digit.digit-index _ c.requires c.loop-digit-test.true c.loop-digit.invariant)
