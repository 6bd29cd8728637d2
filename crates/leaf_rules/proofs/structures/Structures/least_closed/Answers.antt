use Rattle.leaf_rules.proofs.Cycles.{cycle_next, cycle_all}
use Rattle.leaf_rules.proofs.structures.Structures.least_closed.Goals as goal

pub loop-i-preserved : goal.loop-i-preserved
loop-i-preserved c =
    let items = c.args.self.now.definitions.items in
    let less = rw c.deref-structure-items.ensures.value at c.loop-i-test.true in
    let is = rw c.deref-structure-items.ensures.value at c.structure-item.is in
    cycle_next items c.args.closed.now c.requires c.loop-i.i c.structure-item.result less is c.loop-i.least c.place_where.result c.lesser-least.result c.lesser-least.ensures.least c.loop-i.invariant c.place_where.ensures

pub returns : goal.returns
returns c =
    let past = rw c.deref-structure-items.ensures.value at c.loop-i-test.false in
    cycle_all c.args.self.now.definitions.items c.loop-i.i c.loop-i.least past c.loop-i.invariant
