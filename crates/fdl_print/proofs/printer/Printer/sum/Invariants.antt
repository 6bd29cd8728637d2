use Rattle.std.proofs.Common.{◌≡◌, drop}
use Rattle.std.specs.List.{flat_map}
use Rattle.fdl_print.specs.Pieces.{with_pieces}
use Rattle.fdl_print.specs.Parts.{later_term}
use Rattle.fdl_print.proofs.printer.Printer.sum.Given as goal

abbrev pub invariant-loop-term : goal.invariant-loop-term
invariant-loop-term l = with_pieces (flat_map later_term (drop l.term-index l.rest)) l.self ≡ with_pieces (flat_map later_term l.rest) l.initial.self
