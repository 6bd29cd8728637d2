use Rattle.std.proofs.Common.{◌≡◌, map, take}
use Rattle.std.specs.List.{filter_map}
use Rattle.text_graphs.specs.Texts.{edge_of}
use Rattle.connector_rules.proofs.walks.pairs.Given as goal

abbrev pub invariant-loop-control : goal.invariant-loop-control
invariant-loop-control l = l.pairs.items ≡ filter_map (edge_of l.scope.elements.now) (take l.control-index (map (λ c. c.now) l.scope.controls.items))
