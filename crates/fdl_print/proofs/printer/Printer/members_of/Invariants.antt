use Rattle.std.proofs.Common.{◌≡◌, drop}
use Rattle.std.specs.List.{flat_map}
use Rattle.fdl_print.specs.Pieces.{with_pieces}
use Rattle.fdl_print.specs.Elements.{member_line}
use Rattle.fdl_print.proofs.printer.Printer.members_of.Given as goal

abbrev pub invariant-loop-member : goal.invariant-loop-member
invariant-loop-member l = with_pieces (flat_map member_line (drop l.member-index l.members)) l.self ≡ with_pieces (flat_map member_line l.members) l.initial.self
