use Rattle.fdl_parser.specs.Activities.{AllTrue, OneTrue, SomeTrue}
use Rattle.std.proofs.Common.{refl}
use Rattle.fdl_parser.proofs.Shapes.{word_shape, number_shape, stops_as, stop_now, stop_then, any_stops, free_stops, stop_left, stop_right}
use Rattle.fdl_parser.proofs.Stops.{at_err}
use Rattle.fdl_parser.proofs.StopsTokens.{stops_word}
use Rattle.flow_table.specs.declared.keyword.Keyword.TheVariants as word
use Rattle.std.proofs.Common.{inl, ap}
use Rattle.fdl_parser.specs.Tokens.{first_kind}
use Rattle.fdl_parser.proofs.StopsActivities.{join_same, one_shape, some_shape, all_shape, some_all, connectors_shape}
use Rattle.fdl_parser.proofs.cursor.Cursor.join.Goals as goal

pub returns-then-is_word-clause-read : goal.returns-then-is_word-clause-read
returns-then-is_word-clause-read c = OneTrue c.in_ok-word.ensures.read c.in_ok-word-2.ensures.read c.in_ok-word-3.ensures.read

pub returns-then-is_word-2-clause-read : goal.returns-then-is_word-2-clause-read
returns-then-is_word-2-clause-read c = SomeTrue c.in_ok-word-4.ensures.read c.in_ok-number.ensures.read c.in_ok-connectors_true.ensures.read

pub returns-clause-read : goal.returns-clause-read
returns-clause-read c = AllTrue c.in_ok-word-5.ensures.read c.in_ok-connectors_true-2.ensures.read

pub returns-in_err-word-2-clause-stops : goal.returns-in_err-word-2-clause-stops
returns-in_err-word-2-clause-stops c = at_err c.from_residual-in_err-word-2.result c.in_err-word-2.field-0.0 c.from_residual-in_err-word-2.ensures.1 (free_stops (stops_as join_same (stop_left one_shape some_all refl (inl (ap first_kind c.in_ok-word.ensures.read.first)) (stop_then (word_shape word.AtLeastOne) (_, c.in_ok-word.ensures.read) (stop_now (word_shape word.True).can (stops_word word.Connector c.word.new.self c.word-then-is_word.new.self _ c.in_err-word-2.ensures.refused))))))

pub returns-in_err-word-3-clause-stops : goal.returns-in_err-word-3-clause-stops
returns-in_err-word-3-clause-stops c = at_err c.from_residual-in_err-word-3.result c.in_err-word-3.field-0.0 c.from_residual-in_err-word-3.ensures.1 (free_stops (stops_as join_same (stop_left one_shape some_all refl (inl (ap first_kind c.in_ok-word.ensures.read.first)) (stop_then (word_shape word.AtLeastOne) (_, c.in_ok-word.ensures.read) (stop_then (word_shape word.Connector) (_, c.in_ok-word-2.ensures.read) (any_stops (stops_word word.True c.word-then-is_word.new.self c.word-then-is_word-2.new.self _ c.in_err-word-3.ensures.refused)))))))

pub returns-in_err-number-clause-stops : goal.returns-in_err-number-clause-stops
returns-in_err-number-clause-stops c = at_err c.from_residual-in_err-number.result c.in_err-number.field-0.0 c.from_residual-in_err-number.ensures.1 (free_stops (stops_as join_same (stop_right one_shape ((c.is_word.ensures.no c.if-is_word.false), tt) (stop_left some_shape all_shape refl (inl (ap first_kind c.in_ok-word-4.ensures.read.first)) (stop_then (word_shape word.AtLeast) (_, c.in_ok-word-4.ensures.read) (stop_now connectors_shape.can c.in_err-number.ensures.stops))))))

pub returns-in_err-connectors_true-clause-stops : goal.returns-in_err-connectors_true-clause-stops
returns-in_err-connectors_true-clause-stops c = at_err c.from_residual-in_err-connectors_true.result c.in_err-connectors_true.field-0.0 c.from_residual-in_err-connectors_true.ensures.1 (free_stops (stops_as join_same (stop_right one_shape ((c.is_word.ensures.no c.if-is_word.false), tt) (stop_left some_shape all_shape refl (inl (ap first_kind c.in_ok-word-4.ensures.read.first)) (stop_then (word_shape word.AtLeast) (_, c.in_ok-word-4.ensures.read) (stop_then number_shape (_, c.in_ok-number.ensures.read) (any_stops c.in_err-connectors_true.ensures.stops)))))))

pub returns-in_err-word-5-clause-stops : goal.returns-in_err-word-5-clause-stops
returns-in_err-word-5-clause-stops c = at_err c.from_residual-in_err-word-5.result c.in_err-word-5.field-0.0 c.from_residual-in_err-word-5.ensures.1 (free_stops (stops_as join_same (stop_right one_shape ((c.is_word.ensures.no c.if-is_word.false), tt) (stop_right some_shape ((c.is_word-2.ensures.no c.if-is_word-2.false), tt) (stop_now connectors_shape.can (stops_word word.All c.args.self.now c.word-2.new.self _ c.in_err-word-5.ensures.refused))))))

pub returns-in_err-connectors_true-2-clause-stops : goal.returns-in_err-connectors_true-2-clause-stops
returns-in_err-connectors_true-2-clause-stops c = at_err c.from_residual-in_err-connectors_true-2.result c.in_err-connectors_true-2.field-0.0 c.from_residual-in_err-connectors_true-2.ensures.1 (free_stops (stops_as join_same (stop_right one_shape ((c.is_word.ensures.no c.if-is_word.false), tt) (stop_right some_shape ((c.is_word-2.ensures.no c.if-is_word-2.false), tt) (stop_then (word_shape word.All) (_, c.in_ok-word-5.ensures.read) (any_stops c.in_err-connectors_true-2.ensures.stops))))))
