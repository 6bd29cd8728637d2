use Rattle.compaction_laws.proofs.Images.{reopened_one}
use Rattle.compaction_laws.proofs.laws.reopened_states_are_one.Goals as goal

pub returns : goal.returns
returns c = reopened_one
