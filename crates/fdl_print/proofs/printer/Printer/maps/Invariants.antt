use Rattle.std.proofs.Common.{◌≡◌, drop}
use Rattle.std.specs.List.{flat_map}
use Rattle.fdl_print.specs.Pieces.{with_pieces}
use Rattle.fdl_print.specs.Elements.{later_map}
use Rattle.fdl_print.proofs.printer.Printer.maps.Given as goal

abbrev pub invariant-loop-map : goal.invariant-loop-map
invariant-loop-map l = with_pieces (flat_map later_map (drop l.map-index l.rest)) l.self ≡ with_pieces (flat_map later_map l.rest) l.initial.self
