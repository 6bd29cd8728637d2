use Rattle.std.proofs.Common.{◌≡◌, map, take}
use Rattle.std.specs.List.{filter_map}
use Rattle.leaf_rules.specs.Leaves.{table_leaves}
use Rattle.template_check.specs.Meant.{AreParts, IsOne, IsControl}
use Rattle.text_graphs.specs.Texts.{edge_of}
use Rattle.template_check.specs.Wires.{pairs_of}
use Rattle.template_check.proofs.building.Builder.controls.Given as goal

abbrev pub invariant-loop-control : goal.invariant-loop-control
invariant-loop-control l = record {
  ends : pairs_of l.controls ≡ filter_map (edge_of l.scope.elements.now) (take l.control-index (map (λ c. c.now) l.scope.controls.items));
  meant : AreParts (IsOne (IsControl (table_leaves l.self.table) l.scope.elements.now)) (take l.control-index (map (λ c. c.now) l.scope.controls.items)) l.controls;
}
