use Rattle.std.proofs.Common.{Bor}
use Rattle.std.proofs.lemmas.List.Elements.{AllWithin-more, at_read}
use Rattle.flow_model.specs.declared.trees.DataTree.{DataTree}
use Rattle.connector_rules.specs.Connectors.{IsUnreachable}
use Rattle.text_graphs.specs.Texts.{lines_in, IsLineAlong}
use Rattle.text_graphs.proofs.Finding.{least_more, least_behind}
use Rattle.text_graphs.proofs.Judging.{all_behind}
use Rattle.connector_rules.proofs.connectors.unreachable_in_graph.Goals as goal

pub loop-line-preserved : goal.loop-line-preserved
loop-line-preserved c =
    let elements = c.args.scope.now.elements.now in
    let items = c.args.scope.now.lines.items in
    let less = rw c.deref-line-items.ensures.value at c.loop-line-test.true in
    let is = rw c.deref-line-items.ensures.value at c.line-item.is in
    let P = λ (x : Bor DataTree). IsLineAlong elements x.now in
    let R = λ (x : Bor DataTree). IsUnreachable elements x.now in (
      least_more R items c.loop-line.line-index c.line-item.result c.loop-line.least c.apart.result c.lesser-least.result less is c.lesser-least.ensures.least c.loop-line.invariant.0 c.apart.ensures.least,
      λ none.
          let nones = c.lesser-least.ensures.none none in
          AllWithin-more P items 0 c.loop-line.line-index (c.loop-line.invariant.1 nones.0) (at_read items P c.loop-line.line-index c.line-item.result less is (c.apart.ensures.along nones.1)),
    )

pub returns-clause-least : goal.returns-clause-least
returns-clause-least c =
    let elements = c.args.scope.now.elements.now in
    let past = rw c.deref-line-items.ensures.value at c.loop-line-test.false in
    least_behind (IsUnreachable elements) c.args.scope.now.lines.items c.loop-line.line-index (lines_in elements) c.loop-line.least past c.args.scope.now.with_lines c.loop-line.invariant.0

pub returns-clause-along : goal.returns-clause-along
returns-clause-along c = λ none.
    let elements = c.args.scope.now.elements.now in
    let past = rw c.deref-line-items.ensures.value at c.loop-line-test.false in
    all_behind (IsLineAlong elements) c.args.scope.now.lines.items c.loop-line.line-index (lines_in elements) past (c.loop-line.invariant.1 none) c.args.scope.now.with_lines
