use Rattle.std.proofs.Common.{◌≡◌, drop}
use Rattle.std.specs.List.{flat_map}
use Rattle.fdl_print.specs.Pieces.{with_pieces}
use Rattle.fdl_print.specs.Elements.{later_role}
use Rattle.fdl_print.proofs.printer.Printer.roles.Given as goal

abbrev pub invariant-loop-role : goal.invariant-loop-role
invariant-loop-role l = with_pieces (flat_map later_role (drop l.role-index l.rest)) l.self ≡ with_pieces (flat_map later_role l.rest) l.initial.self
