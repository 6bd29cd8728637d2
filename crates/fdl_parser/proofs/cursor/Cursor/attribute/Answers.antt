use Rattle.fdl_parser.specs.Activities.{CommonAttribute, StartAttribute, ExpiresAttribute, DoneByAttribute}
use Rattle.std.proofs.Common.{refl}
use Rattle.fdl_parser.proofs.Shapes.{word_shape, stops_as, stop_now, stop_then, any_stops, free_stops, stop_left, stop_right}
use Rattle.fdl_parser.proofs.Stops.{at_err}
use Rattle.fdl_parser.proofs.StopsTokens.{stops_word}
use Rattle.flow_table.specs.declared.keyword.Keyword.TheVariants as word
use Rattle.std.proofs.Common.{inl, ap}
use Rattle.fdl_parser.specs.Tokens.{first_kind}
use Rattle.fdl_parser.proofs.StopsActivities.{attribute_same, common_shape, begin_shape, begin_or, expires_shape, expires_or, by_shape, done_by_shape}
use Rattle.fdl_parser.proofs.cursor.Cursor.attribute.Goals as goal

pub returns-then-is_common_attribute-clause-read : goal.returns-then-is_common_attribute-clause-read
returns-then-is_common_attribute-clause-read c = CommonAttribute c.in_ok-attribute.ensures.read

pub returns-then-is_word-clause-read : goal.returns-then-is_word-clause-read
returns-then-is_word-clause-read c = StartAttribute c.in_ok-place.ensures.read c.in_ok-what.ensures.read

pub returns-then-is_word-2-clause-read : goal.returns-then-is_word-2-clause-read
returns-then-is_word-2-clause-read c = ExpiresAttribute c.in_ok-place-2.ensures.read c.in_ok-number.ensures.read

pub returns-clause-read : goal.returns-clause-read
returns-clause-read c = DoneByAttribute c.in_ok-place-3.ensures.read c.in_ok-what-2.ensures.read

pub returns-in_err-attribute-clause-stops : goal.returns-in_err-attribute-clause-stops
returns-in_err-attribute-clause-stops c = at_err c.from_residual.result c.in_err-attribute.field-0.0 c.from_residual.ensures.1 (free_stops (stops_as attribute_same (stop_left common_shape begin_or refl (c.is_common_attribute.ensures.yes c.if-is_common_attribute.true) (any_stops c.in_err-attribute.ensures.stops))))

pub returns-in_err-what-clause-stops : goal.returns-in_err-what-clause-stops
returns-in_err-what-clause-stops c = at_err c.from_residual-in_err-what.result c.in_err-what.field-0.0 c.from_residual-in_err-what.ensures.1 (free_stops (stops_as attribute_same (stop_right common_shape (c.is_common_attribute.ensures.no c.if-is_common_attribute.false) (stop_left begin_shape expires_or refl (inl (ap first_kind c.in_ok-place.ensures.read.first)) (stop_then (word_shape word.Start) (_, c.in_ok-place.ensures.read) (any_stops c.in_err-what.ensures.stops))))))

pub returns-in_err-number-clause-stops : goal.returns-in_err-number-clause-stops
returns-in_err-number-clause-stops c = at_err c.from_residual-in_err-number.result c.in_err-number.field-0.0 c.from_residual-in_err-number.ensures.1 (free_stops (stops_as attribute_same (stop_right common_shape (c.is_common_attribute.ensures.no c.if-is_common_attribute.false) (stop_right begin_shape ((c.is_word.ensures.no c.if-is_word.false), tt) (stop_left expires_shape by_shape refl (inl (ap first_kind c.in_ok-place-2.ensures.read.first)) (stop_then (word_shape word.Expires) (_, c.in_ok-place-2.ensures.read) (any_stops c.in_err-number.ensures.stops)))))))

pub returns-in_err-place-3-clause-stops : goal.returns-in_err-place-3-clause-stops
returns-in_err-place-3-clause-stops c = at_err c.from_residual-in_err-place-3.result c.in_err-place-3.field-0.0 c.from_residual-in_err-place-3.ensures.1 (free_stops (stops_as attribute_same (stop_right common_shape (c.is_common_attribute.ensures.no c.if-is_common_attribute.false) (stop_right begin_shape ((c.is_word.ensures.no c.if-is_word.false), tt) (stop_right expires_shape ((c.is_word-2.ensures.no c.if-is_word-2.false), tt) (stop_now done_by_shape.can (stops_word word.DoneBy c.args.self.now c.word-2.new.self _ c.in_err-place-3.ensures.refused)))))))

pub returns-in_err-what-2-clause-stops : goal.returns-in_err-what-2-clause-stops
returns-in_err-what-2-clause-stops c = at_err c.from_residual-in_err-what-2.result c.in_err-what-2.field-0.0 c.from_residual-in_err-what-2.ensures.1 (free_stops (stops_as attribute_same (stop_right common_shape (c.is_common_attribute.ensures.no c.if-is_common_attribute.false) (stop_right begin_shape ((c.is_word.ensures.no c.if-is_word.false), tt) (stop_right expires_shape ((c.is_word-2.ensures.no c.if-is_word-2.false), tt) (stop_then (word_shape word.DoneBy) (_, c.in_ok-place-3.ensures.read) (any_stops c.in_err-what-2.ensures.stops)))))))
