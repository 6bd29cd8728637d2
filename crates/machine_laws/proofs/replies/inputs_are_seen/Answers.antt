use Rattle.machine_laws.proofs.Answers.{input_seen}
use Rattle.machine_laws.proofs.replies.inputs_are_seen.Goals as goal

pub returns : goal.returns
returns c = λ a runs token text right is. input_seen a runs right token text is
