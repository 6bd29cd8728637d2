use Rattle.machine_laws.proofs.Answers.{audit_seen}
use Rattle.machine_laws.proofs.replies.audits_are_seen.Goals as goal

pub returns : goal.returns
returns c = λ a root text is. audit_seen a root text is
