use Rattle.std.proofs.Common.{Bor}
use Rattle.flow_model.specs.declared.trees.DataTree.{DataTree}
use Rattle.text_graphs.specs.GraphTexts.{text_of}
use Rattle.text_graphs.specs.Texts.{lines_in}
use Rattle.text_graphs.proofs.Finding.{least_more, least_behind}
use Rattle.leaf_rules.specs.Leaves.{table_leaves}
use Rattle.leaf_rules.specs.LeafUses.{IsInLine}
use Rattle.leaf_rules.specs.Searches.{breaks_of}
use Rattle.leaf_rules.proofs.uses.lines_fault.Goals as goal

pub loop-line-preserved : goal.loop-line-preserved
loop-line-preserved c =
    let items = c.args.scope.now.lines.items in
    let less = rw c.deref-line-items.ensures.value at c.loop-line-test.true in
    let is = rw c.deref-line-items.ensures.value at c.line-item.is in
    least_more (λ (x : Bor DataTree). IsInLine (breaks_of c.args.search) (table_leaves c.args.table.now) (text_of c.args.scope.now) x.now) items c.loop-line.line-index c.line-item.result c.loop-line.least c.line_fault.result c.lesser-least.result
    less is c.lesser-least.ensures.least c.loop-line.invariant c.line_fault.ensures

pub returns : goal.returns
returns c =
    let scope = c.args.scope.now in
    let past = rw c.deref-line-items.ensures.value at c.loop-line-test.false in
    least_behind (IsInLine (breaks_of c.args.search) (table_leaves c.args.table.now) (text_of scope)) scope.lines.items c.loop-line.line-index (lines_in scope.elements.now) c.loop-line.least past scope.with_lines c.loop-line.invariant
