use Rattle.std.proofs.Common.{refl, arith}
use Rattle.std.proofs.lemmas.Bool.{both_ways}
use Rattle.process_rules.proofs.doers.wrong_name.Goals as goal

pub returns-then-performs : goal.returns-then-performs
returns-then-performs c = λ p wrong. wrong.0 (c.performs.ensures.0 c.if-performs.true)

pub returns-else-performs : goal.returns-else-performs
returns-else-performs c =
    ((λ fits. both_ways c.performs.result c.if-performs.false (c.performs.ensures.1 fits), refl), λ q wrong. let e = wrong.1 in omega arith)
