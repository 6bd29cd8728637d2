use Rattle.std.proofs.Common.{arith}
use Rattle.graph_check.proofs.Groups.{are_components}
use Rattle.graph_check.proofs.strong.components.Goals as goal

pub returns : goal.returns
returns c = rw (c.in_ok-numbers.ensures) (are_components c.args.nodes c.args.edges.now c.loop-node.grouping c.loop-node.invariant.grouped c.loop-node.invariant.idle
    (λ a lt. c.loop-node.invariant.met a (omega (arith, lt, c.loop-node-test.false))) c.requires)
