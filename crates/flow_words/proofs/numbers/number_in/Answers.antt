use Rattle.std.proofs.Common.{◌≡◌, ◌<◌, ◌^◌, arith, rules, sym, ◌∙◌, ⊎_elim}
use Rattle.std.proofs.lemmas.Fmt.{decimal_injective}
use Rattle.flow_words.proofs.numbers.number_in.Goals as goal

pub returns-else-least-value-clause-none : goal.returns-else-least-value-clause-none
returns-else-least-value-clause-none c n names =
    let small : c.in_ok-value.value < 2 ^ 64 = search rules in
    let same : n ≡ c.in_ok-value.value = decimal_injective n c.in_ok-value.value (omega arith) small (sym names.spelled ∙ c.in_ok-value.ensures.some) in
    ⊎_elim (λ above. omega arith) (λ below. omega arith) c.else-least-value.either
