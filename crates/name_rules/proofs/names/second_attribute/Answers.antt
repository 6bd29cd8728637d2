use Rattle.name_rules.proofs.SameKinds.{least_of_five}
use Rattle.name_rules.proofs.names.second_attribute.Goals as goal

pub returns : goal.returns
returns c =
    rw (c.lesser-4.ensures.least, c.lesser-3.ensures.least, c.lesser-2.ensures.least, c.lesser.ensures.least)
    (least_of_five c.args.attributes.now c.second_of_kind-when.result c.second_of_kind-exit.result c.second_of_kind-start.result c.second_of_kind-expires.result c.second_of_kind-done_by.result
    c.second_of_kind-when.ensures c.second_of_kind-exit.ensures c.second_of_kind-start.ensures c.second_of_kind-expires.ensures c.second_of_kind-done_by.ensures)
