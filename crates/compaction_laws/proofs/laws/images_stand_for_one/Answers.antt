use Rattle.compaction_laws.proofs.Images.{images_one}
use Rattle.compaction_laws.proofs.laws.images_stand_for_one.Goals as goal

pub returns : goal.returns
returns c = images_one
