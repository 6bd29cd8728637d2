use Rattle.fdl_parser.specs.Lines.{ControlLine}
use Rattle.fdl_parser.proofs.Shapes.{word_shape, name_shape, stops_as, takes_as, stop_now, stop_then, take_then}
use Rattle.fdl_parser.proofs.Stops.{at_err}
use Rattle.fdl_parser.proofs.StopsTokens.{stops_word}
use Rattle.flow_table.specs.declared.keyword.Keyword.TheVariants as word
use Rattle.fdl_parser.proofs.StopsLines.{control_same, control_source, control_from, control_target, control_to, transition_loose}
use Rattle.fdl_parser.proofs.cursor.Cursor.control.Goals as goal

pub returns-clause-read : goal.returns-clause-read
returns-clause-read c = ControlLine c.in_ok-place.ensures.read c.in_ok-word.ensures.read c.in_ok-from.ensures.read c.in_ok-word-2.ensures.read c.in_ok-to.ensures.read c.in_ok-when.ensures.read

pub returns-in_err-place-clause-stops : goal.returns-in_err-place-clause-stops
returns-in_err-place-clause-stops c = at_err c.from_residual.result c.in_err-place.field-0.0 c.from_residual.ensures.1 (stops_as control_same (stop_now control_source.can (stops_word word.Control c.args.self.now c.word.new.self _ c.in_err-place.ensures.refused)))

pub returns-in_err-word-clause-stops : goal.returns-in_err-word-clause-stops
returns-in_err-word-clause-stops c = at_err c.from_residual-in_err-word.result c.in_err-word.field-0.0 c.from_residual-in_err-word.ensures.1 (stops_as control_same (stop_then (word_shape word.Control) (_, c.in_ok-place.ensures.read) (stop_now control_from.can (stops_word word.From c.word.new.self c.word-2.new.self _ c.in_err-word.ensures.refused))))

pub returns-in_err-from-clause-stops : goal.returns-in_err-from-clause-stops
returns-in_err-from-clause-stops c = at_err c.from_residual-in_err-from.result c.in_err-from.field-0.0 c.from_residual-in_err-from.ensures.1 (stops_as control_same (stop_then (word_shape word.Control) (_, c.in_ok-place.ensures.read) (stop_then (word_shape word.From) (_, c.in_ok-word.ensures.read) (stop_now control_target.can c.in_err-from.ensures.stops))))

pub returns-in_err-word-2-clause-stops : goal.returns-in_err-word-2-clause-stops
returns-in_err-word-2-clause-stops c = at_err c.from_residual-in_err-word-2.result c.in_err-word-2.field-0.0 c.from_residual-in_err-word-2.ensures.1 (stops_as control_same (stop_then (word_shape word.Control) (_, c.in_ok-place.ensures.read) (stop_then (word_shape word.From) (_, c.in_ok-word.ensures.read) (stop_then name_shape (_, c.in_ok-from.ensures.read) (stop_now control_to.can (stops_word word.To c.name.new.self c.word-3.new.self _ c.in_err-word-2.ensures.refused))))))

pub returns-in_err-to-clause-stops : goal.returns-in_err-to-clause-stops
returns-in_err-to-clause-stops c = at_err c.from_residual-in_err-to.result c.in_err-to.field-0.0 c.from_residual-in_err-to.ensures.1 (stops_as control_same (stop_then (word_shape word.Control) (_, c.in_ok-place.ensures.read) (stop_then (word_shape word.From) (_, c.in_ok-word.ensures.read) (stop_then name_shape (_, c.in_ok-from.ensures.read) (stop_then (word_shape word.To) (_, c.in_ok-word-2.ensures.read) (stop_now transition_loose.can c.in_err-to.ensures.stops))))))

pub returns-in_err-when-clause-stops : goal.returns-in_err-when-clause-stops
returns-in_err-when-clause-stops c = at_err c.from_residual-in_err-when.result c.in_err-when.field-0.0 c.from_residual-in_err-when.ensures.1 (stops_as control_same (stop_then (word_shape word.Control) (_, c.in_ok-place.ensures.read) (stop_then (word_shape word.From) (_, c.in_ok-word.ensures.read) (stop_then name_shape (_, c.in_ok-from.ensures.read) (stop_then (word_shape word.To) (_, c.in_ok-word-2.ensures.read) (stop_then name_shape (_, c.in_ok-to.ensures.read) c.in_err-when.ensures.stops))))))

pub returns-clause-taken : goal.returns-clause-taken
returns-clause-taken c = takes_as control_same (take_then (word_shape word.Control) (_, c.in_ok-place.ensures.read) (take_then (word_shape word.From) (_, c.in_ok-word.ensures.read) (take_then name_shape (_, c.in_ok-from.ensures.read) (take_then (word_shape word.To) (_, c.in_ok-word-2.ensures.read) (take_then name_shape (_, c.in_ok-to.ensures.read) c.in_ok-when.ensures.taken)))))
