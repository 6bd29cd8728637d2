use Rattle.item_laws.proofs.NoItem.{fresh_none}
use Rattle.item_laws.proofs.none_open.fresh_scopes_have_no_item.Goals as goal

pub returns : goal.returns
returns c = λ ts g input s fresh. fresh_none ts g input s fresh
