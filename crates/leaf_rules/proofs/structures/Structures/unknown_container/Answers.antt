use Rattle.text_graphs.proofs.Finding.{least_either}
use Rattle.leaf_rules.proofs.structures.Structures.unknown_container.Goals as goal

pub returns : goal.returns
returns c = rw c.lesser.ensures.least (least_either _ _ c.unknown_of_two-own.result c.unknown_of_activities.result c.unknown_of_two-own.ensures c.unknown_of_activities.ensures)
