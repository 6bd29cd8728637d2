use Rattle.command_lang.specs.Grammar.{LeafAndValue}
use Rattle.fdl_parser.proofs.Stops.{at_err}
use Rattle.command_lang.proofs.Forms.{stops_leaf, stops_equal, stops_value}
use Rattle.fdl_parser.proofs.StopsTokens.{stops_mark}
use Rattle.fdl_lexer.specs.declared.kinds.Mark.TheVariants as mark
use Rattle.command_lang.proofs.grammar.setting.Goals as goal

pub returns-clause-read : goal.returns-clause-read
returns-clause-read c = LeafAndValue c.in_ok-leaf.ensures.read c.in_ok-mark.ensures.read c.in_ok-value.ensures.read

pub returns-in_err-leaf-clause-stops : goal.returns-in_err-leaf-clause-stops
returns-in_err-leaf-clause-stops c = at_err c.from_residual.result c.in_err-leaf.field-0.0 c.from_residual.ensures.1 (stops_leaf c.in_err-leaf.ensures.stops)

pub returns-in_err-mark-clause-stops : goal.returns-in_err-mark-clause-stops
returns-in_err-mark-clause-stops c = at_err c.from_residual-in_err-mark.result c.in_err-mark.field-0.0 c.from_residual-in_err-mark.ensures.1 (stops_equal c.in_ok-leaf.ensures.taken (stops_mark mark.Equal c.leaf.new.self c.mark.new.self _ c.in_err-mark.ensures.refused))

pub returns-in_err-value-clause-stops : goal.returns-in_err-value-clause-stops
returns-in_err-value-clause-stops c = at_err c.from_residual-in_err-value.result c.in_err-value.field-0.0 c.from_residual-in_err-value.ensures.1 (stops_value c.in_ok-leaf.ensures.taken c.in_ok-mark.ensures.read c.in_err-value.ensures.stops)
