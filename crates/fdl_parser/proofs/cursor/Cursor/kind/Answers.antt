use Rattle.fdl_parser.specs.Items.{LongKind, StringKind, StructKind}
use Rattle.fdl_parser.proofs.Shapes.{word_shape, stops_as, any_stops, free_stops, stop_right}
use Rattle.fdl_parser.proofs.Stops.{at_err}
use Rattle.flow_table.specs.declared.keyword.Keyword.TheVariants as word
use Rattle.fdl_parser.proofs.StopsItems.{kind_same}
use Rattle.fdl_parser.proofs.cursor.Cursor.kind.Goals as goal

pub returns-then-is_word-clause-read : goal.returns-then-is_word-clause-read
returns-then-is_word-clause-read c = LongKind c.in_ok-word.ensures.read

pub returns-then-is_word-2-clause-read : goal.returns-then-is_word-2-clause-read
returns-then-is_word-2-clause-read c = StringKind c.in_ok-word-2.ensures.read

pub returns-clause-read : goal.returns-clause-read
returns-clause-read c = StructKind c.in_ok-name.ensures.read

pub returns-in_err-name-clause-stops : goal.returns-in_err-name-clause-stops
returns-in_err-name-clause-stops c = at_err c.from_residual-in_err-name.result c.in_err-name.field-0.0 c.from_residual-in_err-name.ensures.1 (free_stops (stops_as kind_same (stop_right (word_shape word.Long) ((c.is_word.ensures.no c.if-is_word.false), tt) (stop_right (word_shape word.String) ((c.is_word-2.ensures.no c.if-is_word-2.false), tt) (any_stops c.in_err-name.ensures.stops)))))
