use Rattle.std.proofs.Common.{ap, ◌∙◌}
use Rattle.std.proofs.Common.{Some}
use Rattle.dead_paths.proofs.Counting.{waits, known}
use Rattle.dead_paths.proofs.joins.Tally.join.Goals as goal

pub returns-then-self-gt0 : goal.returns-then-self-gt0
returns-then-self-gt0 c = λ vs h. waits c.args.self.now vs h c.args.rule c.if-self-gt0.true

pub returns-else-self-gt0 : goal.returns-else-self-gt0
returns-else-self-gt0 c = λ vs h. ap Some (c.asked.ensures vs h) ∙ known c.args.self.now vs h c.args.rule c.if-self-gt0.false
