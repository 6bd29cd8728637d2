use Rattle.std.proofs.Common.{◌≡◌, drop}
use Rattle.std.specs.List.{flat_map}
use Rattle.fdl_print.specs.Pieces.{with_pieces}
use Rattle.fdl_print.specs.Canonical.{item_pieces}
use Rattle.fdl_print.proofs.printer.Printer.items.Given as goal

abbrev pub invariant-loop-item : goal.invariant-loop-item
invariant-loop-item l = with_pieces (flat_map item_pieces (drop l.item-index l.items)) l.self ≡ with_pieces (flat_map item_pieces l.items) l.initial.self
