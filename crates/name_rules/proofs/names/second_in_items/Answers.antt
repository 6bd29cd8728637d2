use Rattle.text_graphs.proofs.Finding.{least_either}
use Rattle.name_rules.proofs.names.second_in_items.Goals as goal

pub returns : goal.returns
returns c = rw c.lesser.ensures.least (least_either _ _ c.in_ok-item.item c.in_ok-part.part c.in_ok-item.ensures c.in_ok-part.ensures)
