use Rattle.std.proofs.Common.{sym, ap, ◌∙◌}
use Rattle.std.proofs.lemmas.List.{take_all}
use Rattle.leaf_rules.specs.StructureLeaves.{members_leaves}
use Rattle.leaf_rules.proofs.Classing.{leafy_more, bare_more}
use Rattle.leaf_rules.proofs.structures.Structures.leafy.Goals as goal
use Rattle.leaf_rules.proofs.structures.Structures.leafy.Goals.{then-not-is_bare+in_ok-push, else-not-is_bare}

pub loop-member-preserved : goal.loop-member-preserved
loop-member-preserved c = λ table inner made.
    let members = c.args.structure.now.members in
    let i = c.loop-member.member-index in
    let m = c.member-item.result in
    let found = c.loop-member.found.items in
    let so_far = c.loop-member.invariant table inner made in
    let less = rw c.as_slice-member-items.ensures at c.loop-member-test.true in
    let is = rw c.as_slice-member-items.ensures at c.member-item.is in
    elim c.if-not-is_bare.branch [
      | then-not-is_bare+in_ok-push w ↦ rw w.found-is (leafy_more inner members i _ less is found w.push.new.self.items w.in_ok-push.ensures.items so_far)
      | else-not-is_bare w ↦ rw w.found-is (bare_more inner members i m less is found (c.is_bare.ensures w.if-not-is_bare.false table inner (made m (i, less, sym is))) so_far)
    ]

pub returns : goal.returns
returns c = λ table inner made.
    c.loop-member.invariant table inner made ∙ ap (members_leaves inner) (take_all c.loop-member.member-index c.args.structure.now.members (rw c.as_slice-member-items.ensures at c.loop-member-test.false))
