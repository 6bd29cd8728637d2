use Rattle.std.proofs.Common.{rules}
use Rattle.flow_session.proofs.Turns.{next_at, all_quiet}
use Rattle.flow_session.proofs.serving.Session.next_queue.Goals as goal

pub returns-in-Some-clause-some : goal.returns-in-Some-clause-some
returns-in-Some-clause-some c = next_at c.args.self.now.core c.args.from c.in-Some.queue c.in-Some.ensures.some.0 c.in-Some.ensures.some.2 c.in-Some.ensures.first

pub returns-in-None-clause-none : goal.returns-in-None-clause-none
returns-in-None-clause-none c = λ none. all_quiet c.args.self.now.core c.args.from (search rules) (search rules)
