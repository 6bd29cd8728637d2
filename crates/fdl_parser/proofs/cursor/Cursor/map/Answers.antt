use Rattle.fdl_parser.specs.Lines.{LeafToLeaf}
use Rattle.std.proofs.Common.{refl}
use Rattle.fdl_parser.proofs.Shapes.{word_shape, stops_as, takes_as, stop_now, stop_then, take_then, at_first, before}
use Rattle.fdl_parser.proofs.Stops.{at_err, stops_second, taken_both}
use Rattle.fdl_parser.proofs.StopsTokens.{stops_word}
use Rattle.flow_table.specs.declared.keyword.Keyword.TheVariants as word
use Rattle.fdl_parser.proofs.StopsLines.{map_same, map_to}
use Rattle.fdl_parser.proofs.StopsConditions.{leaf_shape, leaf_stops, leaf_takes}
use Rattle.fdl_parser.proofs.cursor.Cursor.map.Goals as goal

pub returns-clause-read : goal.returns-clause-read
returns-clause-read c = LeafToLeaf c.in_ok-from.ensures.read c.in_ok-word.ensures.read c.in_ok-to.ensures.read

pub returns-in_err-from-clause-stops : goal.returns-in_err-from-clause-stops
returns-in_err-from-clause-stops c = at_err c.from_residual.result c.in_err-from.field-0.0 c.from_residual.ensures.1 (stops_as map_same (at_first map_to.can (before {n = 9} map_to refl) (leaf_stops c.in_err-from.ensures.stops)))

pub returns-in_err-word-clause-stops : goal.returns-in_err-word-clause-stops
returns-in_err-word-clause-stops c = at_err c.from_residual-in_err-word.result c.in_err-word.field-0.0 c.from_residual-in_err-word.ensures.1 (stops_as map_same (stops_second (before {n = 9} map_to refl) (leaf_takes c.in_ok-from.ensures.taken) (stop_now leaf_shape.can (stops_word word.To c.leaf.new.self c.word.new.self _ c.in_err-word.ensures.refused))))

pub returns-in_err-to-clause-stops : goal.returns-in_err-to-clause-stops
returns-in_err-to-clause-stops c = at_err c.from_residual-in_err-to.result c.in_err-to.field-0.0 c.from_residual-in_err-to.ensures.1 (stops_as map_same (stops_second (before {n = 9} map_to refl) (leaf_takes c.in_ok-from.ensures.taken) (stop_then (word_shape word.To) (_, c.in_ok-word.ensures.read) (leaf_stops c.in_err-to.ensures.stops))))

pub returns-clause-taken : goal.returns-clause-taken
returns-clause-taken c = takes_as map_same (taken_both (before {n = 9} map_to refl) (leaf_takes c.in_ok-from.ensures.taken) (take_then (word_shape word.To) (_, c.in_ok-word.ensures.read) (leaf_takes c.in_ok-to.ensures.taken)))
