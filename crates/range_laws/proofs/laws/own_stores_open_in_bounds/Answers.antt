use Rattle.compaction_laws.proofs.OwnStores.{own_reopens}
use Rattle.range_laws.proofs.Stores.{own_in_bounds}
use Rattle.range_laws.proofs.laws.own_stores_open_in_bounds.Goals as goal

pub returns : goal.returns
returns c = own_in_bounds own_reopens
