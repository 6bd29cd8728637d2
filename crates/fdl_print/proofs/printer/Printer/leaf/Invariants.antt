use Rattle.std.proofs.Common.{◌≡◌, drop}
use Rattle.std.specs.List.{flat_map}
use Rattle.fdl_print.specs.Pieces.{with_pieces}
use Rattle.fdl_print.specs.Parts.{later_step}
use Rattle.fdl_print.proofs.printer.Printer.leaf.Given as goal

abbrev pub invariant-loop-step : goal.invariant-loop-step
invariant-loop-step l = with_pieces (flat_map later_step (drop l.step-index l.rest)) l.self ≡ with_pieces (flat_map later_step l.rest) l.initial.self
