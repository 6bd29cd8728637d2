use Rattle.std.proofs.Common.{ℕ, List, sym, subst, ◌∙◌}
use Rattle.graph_check.specs.Orders.{IsCycleFound}
use Rattle.graph_check.specs.Walks.{AreNodes, IsClosedWalk}
use Rattle.text_graphs.proofs.Judging.{never_cyclic}
use Rattle.template_check.specs.Wires.{pairs_of}
use Rattle.template_check.proofs.Rows.{pairs_below}
use Rattle.template_check.proofs.wires.order.Goals as goal

pub level_order-requires : goal.level_order-requires
level_order-requires c =
    subst (AreNodes c.in_ok-nodes.nodes) (sym (c.deref.ensures.value ∙ c.in_ok-pairs.ensures))
    (subst (λ (n : ℕ). AreNodes n (pairs_of c.args.controls.now)) (sym c.in_ok-nodes.ensures) (pairs_below c.args.count c.args.controls.now c.requires.sources c.requires.targets))

-- no walk is closed, so none was found
pub unreachable-requires : goal.unreachable-requires
unreachable-requires c =
    let found = subst (λ (edges : List (ℕ × ℕ)). IsCycleFound edges c.in-Err-Cycle.field-0) (c.deref.ensures.value ∙ c.in_ok-pairs.ensures) c.in-Err-Cycle.ensures in
    let closed : IsClosedWalk (pairs_of c.args.controls.now) c.in-Err-Cycle.field-0-0 = subst (IsCycleFound (pairs_of c.args.controls.now)) c.in-Err-Cycle.field-0-is found in
    never_cyclic (pairs_of c.args.controls.now) c.requires.acyclic (c.in-Err-Cycle.field-0-0, closed)
