use Rattle.std.proofs.Common.{◌≡◌, drop}
use Rattle.std.specs.List.{flat_map}
use Rattle.fdl_print.specs.Pieces.{with_pieces}
use Rattle.fdl_print.specs.Canonical.{element_pieces}
use Rattle.fdl_print.proofs.printer.Printer.+elements.Given as goal

abbrev pub invariant-elements-loop-element : goal.invariant-elements-loop-element
invariant-elements-loop-element l = with_pieces (flat_map element_pieces (drop l.element-index l.elements)) l.self ≡ with_pieces (flat_map element_pieces l.elements) l.initial.self
