use Rattle.fdl_parser.specs.Activities.{Manually, Automatically}
use Rattle.fdl_parser.proofs.Shapes.{word_shape, stops_as, any_stops, free_stops, stop_right}
use Rattle.fdl_parser.proofs.Stops.{at_err}
use Rattle.fdl_parser.proofs.StopsTokens.{stops_word}
use Rattle.flow_table.specs.declared.keyword.Keyword.TheVariants as word
use Rattle.fdl_parser.proofs.StopsActivities.{start_same}
use Rattle.fdl_parser.proofs.cursor.Cursor.start.Goals as goal

pub returns-then-is_word-clause-read : goal.returns-then-is_word-clause-read
returns-then-is_word-clause-read c = Manually c.in_ok-word.ensures.read

pub returns-clause-read : goal.returns-clause-read
returns-clause-read c = Automatically c.in_ok-word-2.ensures.read

pub returns-in_err-word-2-clause-stops : goal.returns-in_err-word-2-clause-stops
returns-in_err-word-2-clause-stops c = at_err c.from_residual-in_err-word-2.result c.in_err-word-2.field-0.0 c.from_residual-in_err-word-2.ensures.1 (free_stops (stops_as start_same (stop_right (word_shape word.Manual) ((c.is_word.ensures.no c.if-is_word.false), tt) (any_stops (stops_word word.Automatic c.args.self.now c.word-2.new.self _ c.in_err-word-2.ensures.refused)))))
