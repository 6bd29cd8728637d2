use Rattle.std.proofs.Common.{◌≡◌, drop}
use Rattle.std.specs.List.{flat_map}
use Rattle.fdl_print.specs.Pieces.{with_pieces}
use Rattle.fdl_print.specs.Conditions.{shown, later_or, later_and}
use Rattle.fdl_print.proofs.printer.Printer.+condition.Given as goal

abbrev pub invariant-members_of_and-loop-member : goal.invariant-members_of_and-loop-member
invariant-members_of_and-loop-member l = with_pieces (flat_map (λ m. later_and (shown m)) (drop l.member-index l.rest)) l.self ≡ with_pieces (flat_map (λ m. later_and (shown m)) l.rest) l.initial.self

abbrev pub invariant-members_of_or-loop-member : goal.invariant-members_of_or-loop-member
invariant-members_of_or-loop-member l = with_pieces (flat_map (λ m. later_or (shown m)) (drop l.member-index l.rest)) l.self ≡ with_pieces (flat_map (λ m. later_or (shown m)) l.rest) l.initial.self
