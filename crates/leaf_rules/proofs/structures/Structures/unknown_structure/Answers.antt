use Rattle.text_graphs.proofs.Finding.{least_either}
use Rattle.leaf_rules.proofs.structures.Structures.unknown_structure.Goals as goal

pub returns : goal.returns
returns c = rw c.lesser.ensures.least (least_either _ _ c.unknown_members.result c.unknown_containers.result c.unknown_members.ensures c.unknown_containers.ensures)
