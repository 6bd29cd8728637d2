use Rattle.fdl_parser.specs.Activities.{EndName}
use Rattle.fdl_parser.proofs.Shapes.{word_shape, name_shape, stops_as, stop_now, stop_then, any_stops, free_stops}
use Rattle.fdl_parser.proofs.Stops.{at_err}
use Rattle.fdl_parser.proofs.StopsTokens.{stops_word}
use Rattle.flow_table.specs.declared.keyword.Keyword.TheVariants as word
use Rattle.fdl_parser.proofs.StopsActivities.{closing_same}
use Rattle.fdl_parser.proofs.cursor.Cursor.closing.Goals as goal

pub returns-clause-read : goal.returns-clause-read
returns-clause-read c = EndName c.in_ok-word.ensures.read c.in_ok-name.ensures.read

pub returns-in_err-word-clause-stops : goal.returns-in_err-word-clause-stops
returns-in_err-word-clause-stops c = at_err c.from_residual.result c.in_err-word.field-0.0 c.from_residual.ensures.1 (free_stops (stops_as closing_same (stop_now name_shape.can (stops_word word.End c.args.self.now c.word.new.self _ c.in_err-word.ensures.refused))))

pub returns-in_err-name-clause-stops : goal.returns-in_err-name-clause-stops
returns-in_err-name-clause-stops c = at_err c.from_residual-in_err-name.result c.in_err-name.field-0.0 c.from_residual-in_err-name.ensures.1 (free_stops (stops_as closing_same (stop_then (word_shape word.End) (_, c.in_ok-word.ensures.read) (any_stops c.in_err-name.ensures.stops))))
