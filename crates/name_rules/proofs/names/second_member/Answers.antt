use Rattle.flow_model.specs.declared.trees.Member.{Member}
use Rattle.text_graphs.proofs.Meetings.{name_next, names_all}
use Rattle.name_rules.proofs.names.second_member.Goals as goal

pub loop-member-preserved : goal.loop-member-preserved
loop-member-preserved c =
    let items = c.args.structure.now.members in
    let less = rw c.as_slice-member-items.ensures at c.loop-member-test.true in
    let is = rw c.as_slice-member-items.ensures at c.member-item.is in
    name_next (λ (m : Member). m.name) items c.loop-member.member-index c.member-item.result less is c.meet.new.self (c.in_ok-meet.ensures _ c.loop-member.invariant)

pub returns : goal.returns
returns c =
    let past = rw c.as_slice-member-items.ensures at c.loop-member-test.false in
    names_all (λ (m : Member). m.name) c.args.structure.now.members c.loop-member.member-index c.loop-member.members c.first.result past c.first.ensures c.loop-member.invariant
