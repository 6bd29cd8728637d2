use Rattle.fdl_parser.specs.Lines.{DataLine}
use Rattle.fdl_parser.proofs.Shapes.{word_shape, stops_as, takes_as, stop_now, stop_then, take_then}
use Rattle.fdl_parser.proofs.Stops.{at_err}
use Rattle.fdl_parser.proofs.StopsTokens.{stops_word}
use Rattle.flow_table.specs.declared.keyword.Keyword.TheVariants as word
use Rattle.fdl_parser.proofs.StopsLines.{data_same, data_rest, ends_shape, maps_shape}
use Rattle.fdl_parser.proofs.cursor.Cursor.data_line.Goals as goal

pub returns-clause-read : goal.returns-clause-read
returns-clause-read c = DataLine c.in_ok-place.ensures.read c.in_ok-ends.ensures.read c.in_ok-maps.ensures.read

pub returns-in_err-place-clause-stops : goal.returns-in_err-place-clause-stops
returns-in_err-place-clause-stops c = at_err c.from_residual.result c.in_err-place.field-0.0 c.from_residual.ensures.1 (stops_as data_same (stop_now data_rest.can (stops_word word.Data c.args.self.now c.word.new.self _ c.in_err-place.ensures.refused)))

pub returns-in_err-ends-clause-stops : goal.returns-in_err-ends-clause-stops
returns-in_err-ends-clause-stops c = at_err c.from_residual-in_err-ends.result c.in_err-ends.field-0.0 c.from_residual-in_err-ends.ensures.1 (stops_as data_same (stop_then (word_shape word.Data) (_, c.in_ok-place.ensures.read) (stop_now maps_shape.can c.in_err-ends.ensures.stops)))

pub returns-in_err-maps-clause-stops : goal.returns-in_err-maps-clause-stops
returns-in_err-maps-clause-stops c = at_err c.from_residual-in_err-maps.result c.in_err-maps.field-0.0 c.from_residual-in_err-maps.ensures.1 (stops_as data_same (stop_then (word_shape word.Data) (_, c.in_ok-place.ensures.read) (stop_then ends_shape (_, c.in_ok-ends.ensures.read) c.in_err-maps.ensures.stops)))

pub returns-clause-taken : goal.returns-clause-taken
returns-clause-taken c = takes_as data_same (take_then (word_shape word.Data) (_, c.in_ok-place.ensures.read) (take_then ends_shape (_, c.in_ok-ends.ensures.read) c.in_ok-maps.ensures.taken))
