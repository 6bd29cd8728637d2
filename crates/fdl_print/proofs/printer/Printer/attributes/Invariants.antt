use Rattle.std.proofs.Common.{◌≡◌, drop}
use Rattle.std.specs.List.{flat_map}
use Rattle.fdl_print.specs.Pieces.{with_pieces}
use Rattle.fdl_print.specs.Elements.{attr_line}
use Rattle.fdl_print.proofs.printer.Printer.attributes.Given as goal

abbrev pub invariant-loop-attribute : goal.invariant-loop-attribute
invariant-loop-attribute l = with_pieces (flat_map attr_line (drop l.attribute-index l.attributes)) l.self ≡ with_pieces (flat_map attr_line l.attributes) l.initial.self
