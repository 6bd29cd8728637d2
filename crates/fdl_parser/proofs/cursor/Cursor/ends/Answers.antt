use Rattle.fdl_parser.specs.Lines.{LoopEnds, LineEnds}
use Rattle.std.proofs.Common.{refl}
use Rattle.fdl_parser.proofs.Shapes.{word_shape, stops_as, stop_now, stop_then, any_stops, free_stops, stop_left, stop_right}
use Rattle.fdl_parser.proofs.Stops.{at_err}
use Rattle.fdl_parser.proofs.StopsTokens.{stops_word}
use Rattle.flow_table.specs.declared.keyword.Keyword.TheVariants as word
use Rattle.std.proofs.Common.{inl, ap}
use Rattle.fdl_parser.specs.Tokens.{first_kind}
use Rattle.fdl_parser.proofs.StopsLines.{ends_same, loop_shape, line_shape, line_ends, line_to, source_shape, sink_shape}
use Rattle.fdl_parser.proofs.cursor.Cursor.ends.Goals as goal

pub returns-then-is_word-clause-read : goal.returns-then-is_word-clause-read
returns-then-is_word-clause-read c = LoopEnds c.in_ok-word.ensures.read c.in_ok-name.ensures.read

pub returns-clause-read : goal.returns-clause-read
returns-clause-read c = LineEnds c.in_ok-word-2.ensures.read c.in_ok-from.ensures.read c.in_ok-word-3.ensures.read c.in_ok-to.ensures.read

pub returns-in_err-name-clause-stops : goal.returns-in_err-name-clause-stops
returns-in_err-name-clause-stops c = at_err c.from_residual-in_err-name.result c.in_err-name.field-0.0 c.from_residual-in_err-name.ensures.1 (free_stops (stops_as ends_same (stop_left loop_shape line_shape refl (inl (ap first_kind c.in_ok-word.ensures.read.first)) (stop_then (word_shape word.Loop) (_, c.in_ok-word.ensures.read) (any_stops c.in_err-name.ensures.stops)))))

pub returns-in_err-word-2-clause-stops : goal.returns-in_err-word-2-clause-stops
returns-in_err-word-2-clause-stops c = at_err c.from_residual-in_err-word-2.result c.in_err-word-2.field-0.0 c.from_residual-in_err-word-2.ensures.1 (free_stops (stops_as ends_same (stop_right loop_shape ((c.is_word.ensures.no c.if-is_word.false), tt) (stop_now line_ends.can (stops_word word.From c.args.self.now c.word-2.new.self _ c.in_err-word-2.ensures.refused)))))

pub returns-in_err-from-clause-stops : goal.returns-in_err-from-clause-stops
returns-in_err-from-clause-stops c = at_err c.from_residual-in_err-from.result c.in_err-from.field-0.0 c.from_residual-in_err-from.ensures.1 (free_stops (stops_as ends_same (stop_right loop_shape ((c.is_word.ensures.no c.if-is_word.false), tt) (stop_then (word_shape word.From) (_, c.in_ok-word-2.ensures.read) (stop_now line_to.can c.in_err-from.ensures.stops)))))

pub returns-in_err-word-3-clause-stops : goal.returns-in_err-word-3-clause-stops
returns-in_err-word-3-clause-stops c = at_err c.from_residual-in_err-word-3.result c.in_err-word-3.field-0.0 c.from_residual-in_err-word-3.ensures.1 (free_stops (stops_as ends_same (stop_right loop_shape ((c.is_word.ensures.no c.if-is_word.false), tt) (stop_then (word_shape word.From) (_, c.in_ok-word-2.ensures.read) (stop_then source_shape (_, c.in_ok-from.ensures.read) (stop_now sink_shape.can (stops_word word.To c.end.new.self c.word-3.new.self _ c.in_err-word-3.ensures.refused)))))))

pub returns-in_err-to-clause-stops : goal.returns-in_err-to-clause-stops
returns-in_err-to-clause-stops c = at_err c.from_residual-in_err-to.result c.in_err-to.field-0.0 c.from_residual-in_err-to.ensures.1 (free_stops (stops_as ends_same (stop_right loop_shape ((c.is_word.ensures.no c.if-is_word.false), tt) (stop_then (word_shape word.From) (_, c.in_ok-word-2.ensures.read) (stop_then source_shape (_, c.in_ok-from.ensures.read) (stop_then (word_shape word.To) (_, c.in_ok-word-3.ensures.read) (any_stops c.in_err-to.ensures.stops)))))))
