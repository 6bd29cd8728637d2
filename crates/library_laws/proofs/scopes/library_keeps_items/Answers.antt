use Rattle.std.proofs.Common.{suc}
use Rattle.navigator.specs.Items.{stand}
use Rattle.library_laws.proofs.SameItems.{item_same}
use Rattle.library_laws.proofs.scopes.library_keeps_items.Goals as goal

pub returns : goal.returns
returns c = λ ts ts' levels g s item agrees served. item_same ts ts' agrees item (suc levels) (stand g s) served
