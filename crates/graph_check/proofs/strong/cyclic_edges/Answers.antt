use Rattle.std.proofs.Common.{◌∙◌, ap, map}
use Rattle.std.proofs.lemmas.List.{take_all}
use Rattle.graph_check.proofs.Cyclic.{are_cyclic}
use Rattle.graph_check.specs.Components.{same_number}
use Rattle.graph_check.proofs.strong.cyclic_edges.Goals as goal

pub returns : goal.returns
returns c = are_cyclic c.args.nodes c.args.edges.now c.requires c.in_ok-numbers.numbers.items c.in_ok-numbers.ensures c.loop-edge.cyclic.items
    (c.loop-edge.invariant ∙ ap (λ l. map (same_number c.in_ok-numbers.numbers.items) l) (take_all c.loop-edge.edge-index c.args.edges.now c.loop-edge-test.false))
