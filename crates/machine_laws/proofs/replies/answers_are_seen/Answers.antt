use Rattle.machine_laws.proofs.EachQuery.{answer_seen}
use Rattle.machine_laws.proofs.replies.answers_are_seen.Goals as goal

pub returns : goal.returns
returns c = answer_seen
