use Rattle.item_laws.proofs.DoneScopes.{done_none}
use Rattle.item_laws.proofs.none_open.done_roots_have_no_item.Goals as goal

pub returns : goal.returns
returns c = λ ts depth k g input s terminated suspended well shows done. done_none ts depth k g input s terminated suspended well shows done
