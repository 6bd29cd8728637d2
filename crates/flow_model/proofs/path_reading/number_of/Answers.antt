use Rattle.std.proofs.Common.{◌+◌, Some, ap, sym, refl, subst, ◌∙◌, arith}
use Rattle.std.proofs.lemmas.List.{take_all}
use Rattle.std.specs.Str.Parse.{AllDigits, digits_value}
use Rattle.flow_model.proofs.Digits.{Wrote, one_more, within, no_other}
use Rattle.flow_model.proofs.path_reading.number_of.Goals as goal

pub loop-digit-init : goal.loop-digit-init
loop-digit-init c = (record { digits = _; value = refl }, omega arith)

pub returns-then-not-is_ascii_digit-clause-found : goal.returns-then-not-is_ascii_digit-clause-found
returns-then-not-is_ascii_digit-clause-found c = λ all small.
    absurd (no_other c.args.digits.now c.loop-digit.digit-index c.loop-digit-test.true (sym c.is_ascii_digit.ensures.value ∙ c.if-not-is_ascii_digit.true) all)

pub returns-in_err-checked_mul-clause-found : goal.returns-in_err-checked_mul-clause-found
returns-in_err-checked_mul-clause-found c = λ all small.
    let here = sym c.is_ascii_digit.ensures.value ∙ c.if-not-is_ascii_digit.false in
    let most = within c.args.digits.now c.loop-digit.digit-index c.loop-digit.number c.loop-digit-test.true here c.loop-digit.invariant.0 in
    absurd (c.in_err-checked_mul.ensures (omega (arith, most, small)))

pub returns-in_err-number-clause-found : goal.returns-in_err-number-clause-found
returns-in_err-number-clause-found c = λ all small.
    let here = sym c.is_ascii_digit.ensures.value ∙ c.if-not-is_ascii_digit.false in
    let most = within c.args.digits.now c.loop-digit.digit-index c.loop-digit.number c.loop-digit-test.true here c.loop-digit.invariant.0 in
    absurd (c.in_err-number.ensures (omega (arith, most, small, c.in_ok-checked_mul.ensures.1, c.from.ensures)))

pub loop-digit-preserved : goal.loop-digit-preserved
loop-digit-preserved c =
    let here = sym c.is_ascii_digit.ensures.value ∙ c.if-not-is_ascii_digit.false in
    let more = one_more c.args.digits.now c.loop-digit.digit-index c.loop-digit.number c.loop-digit-test.true here c.loop-digit.invariant.0 in (
      subst (Wrote c.args.digits.now (c.loop-digit.digit-index + 1)) (omega (arith, c.in_ok-checked_mul.ensures.1, c.from.ensures, c.in_ok-number.ensures.1)) more,
      omega (arith, c.in_ok-number.ensures.0, c.in_ok-number.ensures.1),
    )

pub returns-clause-sure : goal.returns-clause-sure
returns-clause-sure c =
    let whole = take_all c.loop-digit.digit-index c.args.digits.now c.loop-digit-test.false in
    (subst (AllDigits 10) whole c.loop-digit.invariant.0.digits, sym (c.loop-digit.invariant.0.value ∙ ap (digits_value 10) whole))

pub returns-clause-found : goal.returns-clause-found
returns-clause-found c = λ all small.
    let whole = take_all c.loop-digit.digit-index c.args.digits.now c.loop-digit-test.false in
    ap Some (c.loop-digit.invariant.0.value ∙ ap (digits_value 10) whole)

pub returns-clause-small : goal.returns-clause-small
returns-clause-small c = c.loop-digit.invariant.1
