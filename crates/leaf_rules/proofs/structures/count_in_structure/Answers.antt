use Rattle.flow_model.specs.declared.trees.Member.{Member}
use Rattle.text_graphs.proofs.Finding.{least_more, least_all}
use Rattle.leaf_rules.specs.ArrayCounts.{IsOutside}
use Rattle.leaf_rules.proofs.structures.count_in_structure.Goals as goal

pub loop-member-preserved : goal.loop-member-preserved
loop-member-preserved c =
    let items = c.args.structure.now.members in
    let less = rw c.as_slice-member-items.ensures at c.loop-member-test.true in
    let is = rw c.as_slice-member-items.ensures at c.member-item.is in
    least_more (λ (m : Member). IsOutside m.count) items c.loop-member.member-index c.member-item.result c.loop-member.least c.count_outside.result c.lesser-least.result less is c.lesser-least.ensures.least c.loop-member.invariant
    c.count_outside.ensures

pub returns : goal.returns
returns c =
    let past = rw c.as_slice-member-items.ensures at c.loop-member-test.false in
    least_all (λ (m : Member). IsOutside m.count) c.args.structure.now.members c.loop-member.member-index c.loop-member.least past c.loop-member.invariant
