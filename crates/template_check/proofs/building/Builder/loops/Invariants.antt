use Rattle.std.proofs.Common.{◌<◌, length, map, take}
use Rattle.std.specs.List.{All}
use Rattle.text_graphs.specs.GraphTexts.{text_of}
use Rattle.leaf_rules.specs.Leaves.{table_leaves}
use Rattle.template_check.specs.Meant.{AreParts, IsLoopLine}
use Rattle.text_graphs.specs.Texts.{activities_in}
use Rattle.template_check.proofs.building.Builder.loops.Given as goal

abbrev pub invariant-loop-line : goal.invariant-loop-line
invariant-loop-line l = record {
  within : All (λ x. x.activity < length (activities_in l.scope.elements.now)) l.loops;
  meant : AreParts (IsLoopLine (table_leaves l.self.table) (text_of l.scope)) (take l.line-index (map (λ y. y.now) l.scope.lines.items)) l.loops;
}
