use Rattle.std.proofs.Common.{List, ap}
use Rattle.flow_model.specs.declared.graphs.Container.{Container}
use Rattle.flow_model.specs.declared.graphs.Value.{Value}
use Rattle.containers.proofs.Steps.{values_all, values_more}
use Rattle.containers.proofs.fill.fresh.Goals as goal

pub loop-kind-preserved : goal.loop-kind-preserved
loop-kind-preserved c =
    rw (c.in_ok-push.ensures.ok, c.first_value.ensures) (values_more c.args.leaves.now.leaves c.loop-kind.values c.in-Some.kind (rw (c.in-Some.is, c.len-in-loop-kind.ensures) at c.kind.ensures) c.loop-kind.invariant)

pub returns : goal.returns
returns c =
    let holding : List Value → Container = λ (vs : List Value). record { values = vs } in
    ap holding (values_all c.args.leaves.now.leaves c.loop-kind.values (rw (c.in_default.is, c.len-in-loop-kind.ensures) at c.kind.ensures) c.loop-kind.invariant)
