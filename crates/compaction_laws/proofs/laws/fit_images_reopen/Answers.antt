use Rattle.compaction_laws.proofs.OwnStores.{fit_reopens}
use Rattle.compaction_laws.proofs.laws.fit_images_reopen.Goals as goal

pub returns : goal.returns
returns c = fit_reopens
