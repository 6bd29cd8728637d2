use Rattle.fdl_parser.specs.Items.{OneMember}
use Rattle.std.proofs.Common.{refl}
use Rattle.fdl_parser.proofs.Shapes.{mark_shape, name_shape, stops_as, stop_now, stop_then, at_first, before, any_stops, free_stops}
use Rattle.fdl_parser.proofs.Stops.{at_err, stops_second}
use Rattle.fdl_parser.proofs.StopsTokens.{stops_mark}
use Rattle.fdl_lexer.specs.declared.kinds.Mark.TheVariants as mark
use Rattle.fdl_parser.proofs.StopsItems.{member_same, member_colon, member_kind, member_count, kind_shape}
use Rattle.fdl_parser.proofs.cursor.Cursor.member.Goals as goal

pub returns-clause-read : goal.returns-clause-read
returns-clause-read c = OneMember c.in_ok-name.ensures.read c.in_ok-mark.ensures.read c.in_ok-kind.ensures.read c.in_ok-count.ensures.read c.in_ok-mark-2.ensures.read

pub returns-in_err-name-clause-stops : goal.returns-in_err-name-clause-stops
returns-in_err-name-clause-stops c = at_err c.from_residual.result c.in_err-name.field-0.0 c.from_residual.ensures.1 (free_stops (stops_as member_same (stop_now member_colon.can c.in_err-name.ensures.stops)))

pub returns-in_err-mark-clause-stops : goal.returns-in_err-mark-clause-stops
returns-in_err-mark-clause-stops c = at_err c.from_residual-in_err-mark.result c.in_err-mark.field-0.0 c.from_residual-in_err-mark.ensures.1 (free_stops (stops_as member_same (stop_then name_shape (_, c.in_ok-name.ensures.read) (stop_now member_kind.can (stops_mark mark.Colon c.name.new.self c.mark.new.self _ c.in_err-mark.ensures.refused)))))

pub returns-in_err-kind-clause-stops : goal.returns-in_err-kind-clause-stops
returns-in_err-kind-clause-stops c = at_err c.from_residual-in_err-kind.result c.in_err-kind.field-0.0 c.from_residual-in_err-kind.ensures.1 (free_stops (stops_as member_same (stop_then name_shape (_, c.in_ok-name.ensures.read) (stop_then (mark_shape mark.Colon) (_, c.in_ok-mark.ensures.read) (stop_now member_count.can c.in_err-kind.ensures.stops)))))

pub returns-in_err-count-clause-stops : goal.returns-in_err-count-clause-stops
returns-in_err-count-clause-stops c = at_err c.from_residual-in_err-count.result c.in_err-count.field-0.0 c.from_residual-in_err-count.ensures.1 (free_stops (stops_as member_same (stop_then name_shape (_, c.in_ok-name.ensures.read) (stop_then (mark_shape mark.Colon) (_, c.in_ok-mark.ensures.read) (stop_then kind_shape (_, c.in_ok-kind.ensures.read) (at_first (mark_shape mark.Semicolon).can (before {n = 1} (mark_shape mark.Semicolon) refl) c.in_err-count.ensures.stops))))))

pub returns-in_err-mark-2-clause-stops : goal.returns-in_err-mark-2-clause-stops
returns-in_err-mark-2-clause-stops c = at_err c.from_residual-in_err-mark-2.result c.in_err-mark-2.field-0.0 c.from_residual-in_err-mark-2.ensures.1 (free_stops (stops_as member_same (stop_then name_shape (_, c.in_ok-name.ensures.read) (stop_then (mark_shape mark.Colon) (_, c.in_ok-mark.ensures.read) (stop_then kind_shape (_, c.in_ok-kind.ensures.read) (stops_second (before {n = 1} (mark_shape mark.Semicolon) refl) c.in_ok-count.ensures.taken (any_stops (stops_mark mark.Semicolon c.count.new.self c.mark-2.new.self _ c.in_err-mark-2.ensures.refused))))))))
