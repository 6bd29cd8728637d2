use Rattle.std.proofs.Common.{subst, sym, List, ◌++◌}
use Rattle.flow_model.specs.declared.graphs.Expr.{Expr}
use Rattle.conditions.specs.Resolving.{AreResolved}
use Rattle.conditions.proofs.Clear.{clear_more, resolved_more, resolved_all, either_resolved, both_resolved, not_resolved}
use Rattle.conditions.proofs.resolving.+expression.Goals as goal

pub members_of-loop-member-preserved : goal.members_of-loop-member-preserved
members_of-loop-member-preserved t c = λ few clear.
    let h = c.loop-member.invariant few clear in
    let leaves = c.args.leaves.now.leaves in
    let members = c.args.members.now in
    let split = clear_more leaves members c.loop-member.member-index c.member-item.result c.loop-member-test.true c.member-item.is h.0 in
    let more = resolved_more leaves members c.loop-member.member-index c.member-item.result c.loop-member.resolved c.in_ok-expr_of.field-0 c.loop-member-test.true c.member-item.is h.1 (c.in_ok-expr_of.ensures few split.0) in
    (split.1, λ later rest. subst (λ (es : List Expr). AreResolved leaves members (es ++ later)) (sym c.in_ok-push.ensures.ok) (more later rest))

pub members_of-returns : goal.members_of-returns
members_of-returns t c = λ few clear.
    let h = c.loop-member.invariant few clear in
    resolved_all c.args.leaves.now.leaves c.args.members.now c.loop-member.member-index c.loop-member.resolved c.loop-member-test.false h.1

pub expr_of-returns-in_ok-members_of-in-Or : goal.expr_of-returns-in_ok-members_of-in-Or
expr_of-returns-in_ok-members_of-in-Or t c = λ few clear.
    either_resolved c.args.leaves.now.leaves c.args.cond.now c.in-Or.members c.as_slice.result.now c.in_ok-members_of-in-Or.field-0 c.in-Or.is c.as_slice.ensures (c.in_ok-members_of-in-Or.ensures few) clear

pub expr_of-returns-in_ok-members_of-in-And : goal.expr_of-returns-in_ok-members_of-in-And
expr_of-returns-in_ok-members_of-in-And t c = λ few clear.
    both_resolved c.args.leaves.now.leaves c.args.cond.now c.in-And.members c.as_slice-in-And.result.now c.in_ok-members_of-in-And.field-0 c.in-And.is c.as_slice-in-And.ensures (c.in_ok-members_of-in-And.ensures few) clear

pub expr_of-returns-in_ok-new-in-Not : goal.expr_of-returns-in_ok-new-in-Not
expr_of-returns-in_ok-new-in-Not t c = λ few clear.
    not_resolved c.args.leaves.now.leaves c.args.cond.now c.in-Not.member c.get.result.now c.in_ok-resolved-in-Not.resolved c.in_ok-new-in-Not.field-0 c.in-Not.is c.get.ensures c.in_ok-new-in-Not.ensures (c.in_ok-resolved-in-Not.ensures few) clear
