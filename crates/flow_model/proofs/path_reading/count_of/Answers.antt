use Rattle.std.proofs.Common.{◌≡◌, ◌<◌, length, decimal, sym, ap, arith, ◌∙◌, eqb-true}
use Rattle.std.proofs.lemmas.Bool.{eqb-false}
use Rattle.std.proofs.lemmas.Fmt.{decimal_nonempty}
use Rattle.flow_model.proofs.Digits.{read_written, read_positive, read_back, first_digit}
use Rattle.flow_model.proofs.path_reading.count_of.Goals as goal
use Rattle.flow_model.proofs.path_reading.count_of.Goals.{then-is_empty-via-then-is_empty, then-is_empty-via-else-is_empty+then-digits-eq48}

pub returns-clause-sure : goal.returns-clause-sure
returns-clause-sure c =
    let some : 0 < length c.args.digits.now = omega (arith, eqb-false (length c.args.digits.now) 0 (sym c.is_empty.ensures ∙ c.if-is_empty.false)) in
    read_written c.args.digits.now c.number_of.result some c.if-digits-eq48.false c.number_of.ensures.small c.number_of.ensures.sure

pub returns-clause-counted : goal.returns-clause-counted
returns-clause-counted c = read_positive c.args.digits.now c.number_of.result c.if-digits-eq48.false (returns-clause-sure c)

pub returns-clause-found : goal.returns-clause-found
returns-clause-found c = λ n counted small is. read_back c.args.digits.now n c.number_of.result small is c.number_of.ensures.found

pub returns-then-is_empty-clause-found : goal.returns-then-is_empty-clause-found
returns-then-is_empty-clause-found c = λ n counted small is.
    let first = first_digit c.args.digits.now n counted small is in
    let some = decimal_nonempty n small in
    let long : length c.args.digits.now ≡ length (decimal n) = ap length is in
    absurd (elim c.then-is_empty.branch [
      | then-is_empty-via-then-is_empty w ↦ omega (arith, some, long, eqb-true (length c.args.digits.now) 0 (sym c.is_empty.ensures ∙ w.if-is_empty.true))
      | then-is_empty-via-else-is_empty+then-digits-eq48 w ↦ omega (arith, first, w.if-digits-eq48.true)
    ])
