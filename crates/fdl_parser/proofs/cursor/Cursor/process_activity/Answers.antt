use Rattle.fdl_parser.specs.Activities.{ProcessActivity}
use Rattle.std.proofs.Common.{refl}
use Rattle.fdl_parser.proofs.Shapes.{word_shape, name_shape, stops_as, stop_now, stop_then, at_first, before, any_stops, free_stops}
use Rattle.fdl_parser.proofs.Stops.{at_err, stops_second}
use Rattle.fdl_parser.proofs.StopsTokens.{stops_word}
use Rattle.flow_table.specs.declared.keyword.Keyword.TheVariants as word
use Rattle.fdl_parser.proofs.StopsActivities.{process_same, process_name, process_structures, process_word, process_called, process_attributes, structures_shape, closing_shape}
use Rattle.fdl_parser.proofs.cursor.Cursor.process_activity.Goals as goal

pub returns-clause-read : goal.returns-clause-read
returns-clause-read c = ProcessActivity c.in_ok-place.ensures.read c.in_ok-name.ensures.read c.in_ok-input.ensures.read c.in_ok-word.ensures.read c.in_ok-process.ensures.read c.in_ok-attrs.ensures.read c.in_ok-end.ensures.read

pub returns-in_err-place-clause-stops : goal.returns-in_err-place-clause-stops
returns-in_err-place-clause-stops c = at_err c.from_residual.result c.in_err-place.field-0.0 c.from_residual.ensures.1 (free_stops (stops_as process_same (stop_now process_name.can (stops_word word.ProcessActivity c.args.self.now c.word.new.self _ c.in_err-place.ensures.refused))))

pub returns-in_err-name-clause-stops : goal.returns-in_err-name-clause-stops
returns-in_err-name-clause-stops c = at_err c.from_residual-in_err-name.result c.in_err-name.field-0.0 c.from_residual-in_err-name.ensures.1 (free_stops (stops_as process_same (stop_then (word_shape word.ProcessActivity) (_, c.in_ok-place.ensures.read) (stop_now process_structures.can c.in_err-name.ensures.stops))))

pub returns-in_err-input-clause-stops : goal.returns-in_err-input-clause-stops
returns-in_err-input-clause-stops c = at_err c.from_residual-in_err-input.result c.in_err-input.field-0.0 c.from_residual-in_err-input.ensures.1 (free_stops (stops_as process_same (stop_then (word_shape word.ProcessActivity) (_, c.in_ok-place.ensures.read) (stop_then name_shape (_, c.in_ok-name.ensures.read) (stop_now process_word.can c.in_err-input.ensures.stops)))))

pub returns-in_err-word-clause-stops : goal.returns-in_err-word-clause-stops
returns-in_err-word-clause-stops c = at_err c.from_residual-in_err-word.result c.in_err-word.field-0.0 c.from_residual-in_err-word.ensures.1 (free_stops (stops_as process_same (stop_then (word_shape word.ProcessActivity) (_, c.in_ok-place.ensures.read) (stop_then name_shape (_, c.in_ok-name.ensures.read) (stop_then structures_shape (_, _, c.in_ok-input.ensures.read) (stop_now process_called.can (stops_word word.Process c.structures.new.self c.word-2.new.self _ c.in_err-word.ensures.refused)))))))

pub returns-in_err-process-clause-stops : goal.returns-in_err-process-clause-stops
returns-in_err-process-clause-stops c = at_err c.from_residual-in_err-process.result c.in_err-process.field-0.0 c.from_residual-in_err-process.ensures.1 (free_stops (stops_as process_same (stop_then (word_shape word.ProcessActivity) (_, c.in_ok-place.ensures.read) (stop_then name_shape (_, c.in_ok-name.ensures.read) (stop_then structures_shape (_, _, c.in_ok-input.ensures.read) (stop_then (word_shape word.Process) (_, c.in_ok-word.ensures.read) (stop_now process_attributes.can c.in_err-process.ensures.stops)))))))

pub returns-in_err-attrs-clause-stops : goal.returns-in_err-attrs-clause-stops
returns-in_err-attrs-clause-stops c = at_err c.from_residual-in_err-attrs.result c.in_err-attrs.field-0.0 c.from_residual-in_err-attrs.ensures.1 (free_stops (stops_as process_same (stop_then (word_shape word.ProcessActivity) (_, c.in_ok-place.ensures.read) (stop_then name_shape (_, c.in_ok-name.ensures.read) (stop_then structures_shape (_, _, c.in_ok-input.ensures.read) (stop_then (word_shape word.Process) (_, c.in_ok-word.ensures.read) (stop_then name_shape (_, c.in_ok-process.ensures.read) (at_first closing_shape.can (before {n = 4} closing_shape refl) c.in_err-attrs.ensures.stops))))))))

pub returns-in_err-end-clause-stops : goal.returns-in_err-end-clause-stops
returns-in_err-end-clause-stops c = at_err c.from_residual-in_err-end.result c.in_err-end.field-0.0 c.from_residual-in_err-end.ensures.1 (free_stops (stops_as process_same (stop_then (word_shape word.ProcessActivity) (_, c.in_ok-place.ensures.read) (stop_then name_shape (_, c.in_ok-name.ensures.read) (stop_then structures_shape (_, _, c.in_ok-input.ensures.read) (stop_then (word_shape word.Process) (_, c.in_ok-word.ensures.read) (stop_then name_shape (_, c.in_ok-process.ensures.read) (stops_second (before {n = 4} closing_shape refl) c.in_ok-attrs.ensures.taken (any_stops c.in_err-end.ensures.stops)))))))))
