use Rattle.std.proofs.Common.{◌≡◌, ◌<◌, ◌^◌, ℕ, length, get_or, decimal, IfSome, IfNone, subst, sym, ap, arith, ◌∙◌, ⊎_elim, eqb-true}
use Rattle.flow_words.proofs.Decimals.{has_digit, no_sign, no_zero, at_most_one, read_number, read_none}
use Rattle.flow_words.proofs.numbers.number.Goals as goal
use Rattle.flow_words.proofs.numbers.number.Goals.{then-is_empty-via-then-is_empty, then-is_empty-via-else-is_empty+then-digits-eq43}

pub returns-then-is_empty-clause-none : goal.returns-then-is_empty-clause-none
returns-then-is_empty-clause-none c n small is =
    let spelled = c.as_bytes-digits.ensures.value ∙ is in
    elim c.then-is_empty.branch [
      | then-is_empty-via-then-is_empty w ↦
          let some_ = has_digit c.as_bytes-digits.result.now n small spelled in
          let none = eqb-true (length c.as_bytes-digits.result.now) 0 (sym c.is_empty.ensures ∙ w.if-is_empty.true) in
          omega arith
      | then-is_empty-via-else-is_empty+then-digits-eq43 w ↦ no_sign c.as_bytes-digits.result.now n small spelled w.if-digits-eq43.true
    ]

pub returns-then-digits-gt1-clause-none : goal.returns-then-digits-gt1-clause-none
returns-then-digits-gt1-clause-none c n small is =
    let one = no_zero c.as_bytes-digits.result.now n small (c.as_bytes-digits.ensures.value ∙ is) c.if-digits-eq48.true in
    omega arith

pub returns-clause-some : goal.returns-clause-some
returns-clause-some c =
    let same = c.as_bytes-digits.ensures.value in
    subst (λ o. IfSome o (λ n. c.args.word.now ≡ decimal n)) (sym c.ok.ensures.value)
    (read_number c.args.word.now c.parse.result c.parse.ensures.value.0
    (λ sign. c.if-digits-eq43.false (ap (λ l. get_or l 0 0) same ∙ sign))
    (λ zero_. ap length (sym same) ∙ ⊎_elim (λ few. at_most_one c.as_bytes-digits.result.now few.1 (sym c.is_empty.ensures ∙ c.if-is_empty.false)) (λ other. absurd (other (ap (λ l. get_or l 0 0) same ∙ zero_))) c.else-digits-eq48.either))

pub returns-clause-none : goal.returns-clause-none
returns-clause-none c = subst (λ o. IfNone o ((n : ℕ) → n < 2 ^ 64 → c.args.word.now ≡ decimal n → ⊥)) (sym c.ok.ensures.value) (read_none c.args.word.now c.parse.result c.parse.ensures.value.0)
