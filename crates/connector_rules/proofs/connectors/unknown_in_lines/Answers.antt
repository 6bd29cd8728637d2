use Rattle.std.proofs.Common.{Bor}
use Rattle.flow_model.specs.declared.trees.DataTree.{DataTree}
use Rattle.text_graphs.specs.Texts.{lines_in}
use Rattle.text_graphs.proofs.Finding.{least_more, least_behind}
use Rattle.connector_rules.specs.Connectors.{AreEndsNobody}
use Rattle.connector_rules.proofs.connectors.unknown_in_lines.Goals as goal

pub loop-line-preserved : goal.loop-line-preserved
loop-line-preserved c =
    let items = c.args.scope.now.lines.items in
    let less = rw c.deref-line-items.ensures.value at c.loop-line-test.true in
    let is = rw c.deref-line-items.ensures.value at c.line-item.is in
    least_more (λ (x : Bor DataTree). (λ (x : DataTree). AreEndsNobody c.args.scope.now.elements.now x.ends) x.now) items c.loop-line.line-index c.line-item.result c.loop-line.least c.unknown_ends.result c.lesser-least.result less is c.lesser-least.ensures.least c.loop-line.invariant c.unknown_ends.ensures

pub returns : goal.returns
returns c =
    let past = rw c.deref-line-items.ensures.value at c.loop-line-test.false in
    least_behind (λ (x : DataTree). AreEndsNobody c.args.scope.now.elements.now x.ends) c.args.scope.now.lines.items c.loop-line.line-index (lines_in c.args.scope.now.elements.now) c.loop-line.least past c.args.scope.now.with_lines c.loop-line.invariant
