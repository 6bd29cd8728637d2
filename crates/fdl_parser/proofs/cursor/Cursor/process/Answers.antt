use Rattle.fdl_parser.specs.Items.{OneProcess}
use Rattle.std.proofs.Common.{refl}
use Rattle.fdl_parser.proofs.Shapes.{word_shape, name_shape, stops_as, stop_now, stop_then, at_first, before, any_stops, free_stops}
use Rattle.fdl_parser.proofs.Stops.{at_err, stops_second}
use Rattle.fdl_parser.proofs.StopsTokens.{stops_word}
use Rattle.flow_table.specs.declared.keyword.Keyword.TheVariants as word
use Rattle.fdl_parser.proofs.StopsItems.{process_same, process_name, process_structures, process_elements}
use Rattle.fdl_parser.proofs.StopsActivities.{closing_shape, structures_shape}
use Rattle.fdl_parser.proofs.cursor.Cursor.process.Goals as goal

pub returns-clause-read : goal.returns-clause-read
returns-clause-read c = OneProcess c.in_ok-place.ensures.read c.in_ok-name.ensures.read c.in_ok-input.ensures.read c.in_ok-elements.ensures.read c.in_ok-end.ensures.read

pub returns-in_err-place-clause-stops : goal.returns-in_err-place-clause-stops
returns-in_err-place-clause-stops c = at_err c.from_residual.result c.in_err-place.field-0.0 c.from_residual.ensures.1 (free_stops (stops_as process_same (stop_now process_name.can (stops_word word.Process c.args.self.now c.word.new.self _ c.in_err-place.ensures.refused))))

pub returns-in_err-name-clause-stops : goal.returns-in_err-name-clause-stops
returns-in_err-name-clause-stops c = at_err c.from_residual-in_err-name.result c.in_err-name.field-0.0 c.from_residual-in_err-name.ensures.1 (free_stops (stops_as process_same (stop_then (word_shape word.Process) (_, c.in_ok-place.ensures.read) (stop_now process_structures.can c.in_err-name.ensures.stops))))

pub returns-in_err-input-clause-stops : goal.returns-in_err-input-clause-stops
returns-in_err-input-clause-stops c = at_err c.from_residual-in_err-input.result c.in_err-input.field-0.0 c.from_residual-in_err-input.ensures.1 (free_stops (stops_as process_same (stop_then (word_shape word.Process) (_, c.in_ok-place.ensures.read) (stop_then name_shape (_, c.in_ok-name.ensures.read) (stop_now process_elements.can c.in_err-input.ensures.stops)))))

pub returns-in_err-elements-clause-stops : goal.returns-in_err-elements-clause-stops
returns-in_err-elements-clause-stops c = at_err c.from_residual-in_err-elements.result c.in_err-elements.field-0.0 c.from_residual-in_err-elements.ensures.1 (free_stops (stops_as process_same (stop_then (word_shape word.Process) (_, c.in_ok-place.ensures.read) (stop_then name_shape (_, c.in_ok-name.ensures.read) (stop_then structures_shape (_, _, c.in_ok-input.ensures.read) (at_first closing_shape.can (before {n = 3} closing_shape refl) c.in_err-elements.ensures.stops))))))

pub returns-in_err-end-clause-stops : goal.returns-in_err-end-clause-stops
returns-in_err-end-clause-stops c = at_err c.from_residual-in_err-end.result c.in_err-end.field-0.0 c.from_residual-in_err-end.ensures.1 (free_stops (stops_as process_same (stop_then (word_shape word.Process) (_, c.in_ok-place.ensures.read) (stop_then name_shape (_, c.in_ok-name.ensures.read) (stop_then structures_shape (_, _, c.in_ok-input.ensures.read) (stops_second (before {n = 3} closing_shape refl) c.in_ok-elements.ensures.taken (any_stops c.in_err-end.ensures.stops)))))))
