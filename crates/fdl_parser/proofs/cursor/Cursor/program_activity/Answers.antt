use Rattle.fdl_parser.specs.Activities.{ProgramActivity}
use Rattle.std.proofs.Common.{refl}
use Rattle.fdl_parser.proofs.Shapes.{word_shape, name_shape, stops_as, stop_now, stop_then, at_first, before, any_stops, free_stops}
use Rattle.fdl_parser.proofs.Stops.{at_err, stops_second}
use Rattle.fdl_parser.proofs.StopsTokens.{stops_word}
use Rattle.flow_table.specs.declared.keyword.Keyword.TheVariants as word
use Rattle.fdl_parser.proofs.StopsActivities.{program_same, program_name, program_structures, program_attributes, structures_shape, closing_shape}
use Rattle.fdl_parser.proofs.cursor.Cursor.program_activity.Goals as goal

pub returns-clause-read : goal.returns-clause-read
returns-clause-read c = ProgramActivity c.in_ok-place.ensures.read c.in_ok-name.ensures.read c.in_ok-input.ensures.read c.in_ok-attrs.ensures.read c.in_ok-end.ensures.read

pub returns-in_err-place-clause-stops : goal.returns-in_err-place-clause-stops
returns-in_err-place-clause-stops c = at_err c.from_residual.result c.in_err-place.field-0.0 c.from_residual.ensures.1 (free_stops (stops_as program_same (stop_now program_name.can (stops_word word.ProgramActivity c.args.self.now c.word.new.self _ c.in_err-place.ensures.refused))))

pub returns-in_err-name-clause-stops : goal.returns-in_err-name-clause-stops
returns-in_err-name-clause-stops c = at_err c.from_residual-in_err-name.result c.in_err-name.field-0.0 c.from_residual-in_err-name.ensures.1 (free_stops (stops_as program_same (stop_then (word_shape word.ProgramActivity) (_, c.in_ok-place.ensures.read) (stop_now program_structures.can c.in_err-name.ensures.stops))))

pub returns-in_err-input-clause-stops : goal.returns-in_err-input-clause-stops
returns-in_err-input-clause-stops c = at_err c.from_residual-in_err-input.result c.in_err-input.field-0.0 c.from_residual-in_err-input.ensures.1 (free_stops (stops_as program_same (stop_then (word_shape word.ProgramActivity) (_, c.in_ok-place.ensures.read) (stop_then name_shape (_, c.in_ok-name.ensures.read) (stop_now program_attributes.can c.in_err-input.ensures.stops)))))

pub returns-in_err-attrs-clause-stops : goal.returns-in_err-attrs-clause-stops
returns-in_err-attrs-clause-stops c = at_err c.from_residual-in_err-attrs.result c.in_err-attrs.field-0.0 c.from_residual-in_err-attrs.ensures.1 (free_stops (stops_as program_same (stop_then (word_shape word.ProgramActivity) (_, c.in_ok-place.ensures.read) (stop_then name_shape (_, c.in_ok-name.ensures.read) (stop_then structures_shape (_, _, c.in_ok-input.ensures.read) (at_first closing_shape.can (before {n = 4} closing_shape refl) c.in_err-attrs.ensures.stops))))))

pub returns-in_err-end-clause-stops : goal.returns-in_err-end-clause-stops
returns-in_err-end-clause-stops c = at_err c.from_residual-in_err-end.result c.in_err-end.field-0.0 c.from_residual-in_err-end.ensures.1 (free_stops (stops_as program_same (stop_then (word_shape word.ProgramActivity) (_, c.in_ok-place.ensures.read) (stop_then name_shape (_, c.in_ok-name.ensures.read) (stop_then structures_shape (_, _, c.in_ok-input.ensures.read) (stops_second (before {n = 4} closing_shape refl) c.in_ok-attrs.ensures.taken (any_stops c.in_err-end.ensures.stops)))))))
