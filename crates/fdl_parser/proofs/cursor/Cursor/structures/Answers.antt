use Rattle.fdl_parser.specs.Activities.{InputOutput}
use Rattle.fdl_parser.proofs.Shapes.{mark_shape, name_shape, stops_as, stop_now, stop_then, any_stops, free_stops}
use Rattle.fdl_parser.proofs.Stops.{at_err}
use Rattle.fdl_parser.proofs.StopsTokens.{stops_mark}
use Rattle.fdl_lexer.specs.declared.kinds.Mark.TheVariants as mark
use Rattle.fdl_parser.proofs.StopsActivities.{structures_same, structures_input, structures_output, structures_close}
use Rattle.fdl_parser.proofs.cursor.Cursor.structures.Goals as goal

pub returns-clause-read : goal.returns-clause-read
returns-clause-read c = InputOutput c.in_ok-mark.ensures.read c.in_ok-input.ensures.read c.in_ok-mark-2.ensures.read c.in_ok-output.ensures.read c.in_ok-mark-3.ensures.read

pub returns-in_err-mark-clause-stops : goal.returns-in_err-mark-clause-stops
returns-in_err-mark-clause-stops c = at_err c.from_residual.result c.in_err-mark.field-0.0 c.from_residual.ensures.1 (free_stops (stops_as structures_same (stop_now structures_input.can (stops_mark mark.Open c.args.self.now c.mark.new.self _ c.in_err-mark.ensures.refused))))

pub returns-in_err-input-clause-stops : goal.returns-in_err-input-clause-stops
returns-in_err-input-clause-stops c = at_err c.from_residual-in_err-input.result c.in_err-input.field-0.0 c.from_residual-in_err-input.ensures.1 (free_stops (stops_as structures_same (stop_then (mark_shape mark.Open) (_, c.in_ok-mark.ensures.read) (stop_now structures_output.can c.in_err-input.ensures.stops))))

pub returns-in_err-mark-2-clause-stops : goal.returns-in_err-mark-2-clause-stops
returns-in_err-mark-2-clause-stops c = at_err c.from_residual-in_err-mark-2.result c.in_err-mark-2.field-0.0 c.from_residual-in_err-mark-2.ensures.1 (free_stops (stops_as structures_same (stop_then (mark_shape mark.Open) (_, c.in_ok-mark.ensures.read) (stop_then name_shape (_, c.in_ok-input.ensures.read) (stop_now structures_close.can (stops_mark mark.Comma c.name.new.self c.mark-2.new.self _ c.in_err-mark-2.ensures.refused))))))

pub returns-in_err-output-clause-stops : goal.returns-in_err-output-clause-stops
returns-in_err-output-clause-stops c = at_err c.from_residual-in_err-output.result c.in_err-output.field-0.0 c.from_residual-in_err-output.ensures.1 (free_stops (stops_as structures_same (stop_then (mark_shape mark.Open) (_, c.in_ok-mark.ensures.read) (stop_then name_shape (_, c.in_ok-input.ensures.read) (stop_then (mark_shape mark.Comma) (_, c.in_ok-mark-2.ensures.read) (stop_now (mark_shape mark.Close).can c.in_err-output.ensures.stops))))))

pub returns-in_err-mark-3-clause-stops : goal.returns-in_err-mark-3-clause-stops
returns-in_err-mark-3-clause-stops c = at_err c.from_residual-in_err-mark-3.result c.in_err-mark-3.field-0.0 c.from_residual-in_err-mark-3.ensures.1 (free_stops (stops_as structures_same (stop_then (mark_shape mark.Open) (_, c.in_ok-mark.ensures.read) (stop_then name_shape (_, c.in_ok-input.ensures.read) (stop_then (mark_shape mark.Comma) (_, c.in_ok-mark-2.ensures.read) (stop_then name_shape (_, c.in_ok-output.ensures.read) (any_stops (stops_mark mark.Close c.name-2.new.self c.mark-3.new.self _ c.in_err-mark-3.ensures.refused))))))))
