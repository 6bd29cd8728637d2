use Rattle.navigator.specs.Items.{stand}
use Rattle.worklist_laws.proofs.Ranks.{rank_one, entry_leads}
use Rattle.worklist_laws.proofs.shelved.ranks_differ.Goals as goal

pub returns : goal.returns
returns c = λ ts g s s' item item' e e' is is' same. rank_one ts item item' g (entry_leads ts item (stand g s) e is) (entry_leads ts item' (stand g s') e' is') same
