use Rattle.machine_laws.proofs.Answers.{output_seen}
use Rattle.machine_laws.proofs.replies.outputs_are_seen.Goals as goal

pub returns : goal.returns
returns c = λ a runs root text right is. output_seen a runs root text right is
