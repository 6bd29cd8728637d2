use Rattle.std.proofs.Common.{map, take}
use Rattle.std.specs.List.{All}
use Rattle.template_check.specs.Built.{IsDrawn}
use Rattle.text_graphs.specs.GraphTexts.{text_of}
use Rattle.leaf_rules.specs.Leaves.{table_leaves}
use Rattle.template_check.specs.Meant.{AreParts, IsDataLine}
use Rattle.template_check.proofs.building.Builder.lines.Given as goal

abbrev pub invariant-loop-line : goal.invariant-loop-line
invariant-loop-line l = record {
  drawn : All (IsDrawn l.scope.elements.now) l.lines;
  meant : AreParts (IsDataLine (table_leaves l.self.table) (text_of l.scope)) (take l.line-index (map (λ y. y.now) l.scope.lines.items)) l.lines;
}
