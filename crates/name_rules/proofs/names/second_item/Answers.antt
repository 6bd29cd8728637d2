use Rattle.text_graphs.proofs.Finding.{least_either}
use Rattle.name_rules.proofs.names.second_item.Goals as goal

pub returns : goal.returns
returns c =
    rw (c.lesser-2.ensures.least, c.lesser.ensures.least)
    (least_either _ _ c.in_ok-structure.structure _ c.in_ok-structure.ensures (least_either _ _ c.in_ok-person.person c.in_ok-process.process c.in_ok-person.ensures c.in_ok-process.ensures))
