use Rattle.fdl_parser.specs.Activities.{WhenJoin, ExitWhen}
use Rattle.std.proofs.Common.{refl}
use Rattle.fdl_parser.proofs.Shapes.{word_shape, stops_as, stop_now, stop_then, any_stops, free_stops, stop_left, stop_right}
use Rattle.fdl_parser.proofs.Stops.{at_err}
use Rattle.fdl_parser.proofs.StopsTokens.{stops_word}
use Rattle.flow_table.specs.declared.keyword.Keyword.TheVariants as word
use Rattle.std.proofs.Common.{inl, ap}
use Rattle.fdl_parser.specs.Tokens.{first_kind}
use Rattle.fdl_parser.proofs.StopsActivities.{common_same, when_shape, exit_shape, exit_when}
use Rattle.fdl_parser.proofs.StopsConditions.{condition_shape}
use Rattle.fdl_parser.proofs.cursor.Cursor.common_attribute.Goals as goal

pub returns-then-is_word-clause-read : goal.returns-then-is_word-clause-read
returns-then-is_word-clause-read c = WhenJoin c.in_ok-place.ensures.read c.in_ok-join.ensures.read

pub returns-clause-read : goal.returns-clause-read
returns-clause-read c = ExitWhen c.in_ok-place-2.ensures.read c.in_ok-word.ensures.read c.in_ok-condition.ensures.read

pub returns-in_err-join-clause-stops : goal.returns-in_err-join-clause-stops
returns-in_err-join-clause-stops c = at_err c.from_residual-in_err-join.result c.in_err-join.field-0.0 c.from_residual-in_err-join.ensures.1 (free_stops (stops_as common_same (stop_left when_shape exit_shape refl (inl (ap first_kind c.in_ok-place.ensures.read.first)) (stop_then (word_shape word.When) (_, c.in_ok-place.ensures.read) (any_stops c.in_err-join.ensures.stops)))))

pub returns-in_err-place-2-clause-stops : goal.returns-in_err-place-2-clause-stops
returns-in_err-place-2-clause-stops c = at_err c.from_residual-in_err-place-2.result c.in_err-place-2.field-0.0 c.from_residual-in_err-place-2.ensures.1 (free_stops (stops_as common_same (stop_right when_shape ((c.is_word.ensures.no c.if-is_word.false), tt) (stop_now exit_when.can (stops_word word.Exit c.args.self.now c.word-2.new.self _ c.in_err-place-2.ensures.refused)))))

pub returns-in_err-word-clause-stops : goal.returns-in_err-word-clause-stops
returns-in_err-word-clause-stops c = at_err c.from_residual-in_err-word.result c.in_err-word.field-0.0 c.from_residual-in_err-word.ensures.1 (free_stops (stops_as common_same (stop_right when_shape ((c.is_word.ensures.no c.if-is_word.false), tt) (stop_then (word_shape word.Exit) (_, c.in_ok-place-2.ensures.read) (stop_now condition_shape.can (stops_word word.When c.word-2.new.self c.word-3.new.self _ c.in_err-word.ensures.refused))))))

pub returns-in_err-condition-clause-stops : goal.returns-in_err-condition-clause-stops
returns-in_err-condition-clause-stops c = at_err c.from_residual-in_err-condition.result c.in_err-condition.field-0.0 c.from_residual-in_err-condition.ensures.1 (free_stops (stops_as common_same (stop_right when_shape ((c.is_word.ensures.no c.if-is_word.false), tt) (stop_then (word_shape word.Exit) (_, c.in_ok-place-2.ensures.read) (stop_then (word_shape word.When) (_, c.in_ok-word.ensures.read) (any_stops c.in_err-condition.ensures.stops))))))
