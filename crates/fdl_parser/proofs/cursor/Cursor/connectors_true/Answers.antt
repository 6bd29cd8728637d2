use Rattle.fdl_parser.specs.Activities.{BothWords}
use Rattle.fdl_parser.proofs.Shapes.{word_shape, stops_as, stop_now, stop_then, any_stops, free_stops}
use Rattle.fdl_parser.proofs.Stops.{at_err}
use Rattle.fdl_parser.proofs.StopsTokens.{stops_word}
use Rattle.flow_table.specs.declared.keyword.Keyword.TheVariants as word
use Rattle.fdl_parser.proofs.StopsActivities.{connectors_same}
use Rattle.fdl_parser.proofs.cursor.Cursor.connectors_true.Goals as goal

pub returns-clause-read : goal.returns-clause-read
returns-clause-read c = BothWords c.in_ok-word.ensures.read c.in_ok-word-2.ensures.read

pub returns-in_err-word-clause-stops : goal.returns-in_err-word-clause-stops
returns-in_err-word-clause-stops c = at_err c.from_residual.result c.in_err-word.field-0.0 c.from_residual.ensures.1 (free_stops (stops_as connectors_same (stop_now (word_shape word.True).can (stops_word word.Connectors c.args.self.now c.word.new.self _ c.in_err-word.ensures.refused))))

pub returns-in_err-word-2-clause-stops : goal.returns-in_err-word-2-clause-stops
returns-in_err-word-2-clause-stops c = at_err c.from_residual-in_err-word-2.result c.in_err-word-2.field-0.0 c.from_residual-in_err-word-2.ensures.1 (free_stops (stops_as connectors_same (stop_then (word_shape word.Connectors) (_, c.in_ok-word.ensures.read) (any_stops (stops_word word.True c.word.new.self c.word-2.new.self _ c.in_err-word-2.ensures.refused)))))
