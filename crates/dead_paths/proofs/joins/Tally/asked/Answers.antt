use Rattle.dead_paths.proofs.Counting.{asks_each, asks_some}
use Rattle.dead_paths.proofs.joins.Tally.asked.Goals as goal

pub returns-in-All : goal.returns-in-All
returns-in-All c = λ vs h. rw c.in-All.is (asks_each c.args.self.now vs h)

pub returns-else-self-eq0 : goal.returns-else-self-eq0
returns-else-self-eq0 c = λ vs h. rw c.in-AtLeastOne.is (asks_some c.args.self.now vs h c.if-self-eq0.false)
