use Rattle.command_lang.specs.Grammar.{NumberValue, TextValue}
use Rattle.fdl_parser.proofs.Stops.{at_err}
use Rattle.command_lang.proofs.Forms.{stops_text, stops_number}
use Rattle.command_lang.proofs.grammar.value.Goals as goal

pub returns-then-is_next-clause-read : goal.returns-then-is_next-clause-read
returns-then-is_next-clause-read c = TextValue c.in_ok-text.ensures.read

pub returns-clause-read : goal.returns-clause-read
returns-clause-read c = NumberValue c.in_ok-number.ensures.read

pub returns-in_err-text-clause-stops : goal.returns-in_err-text-clause-stops
returns-in_err-text-clause-stops c = at_err c.from_residual.result c.in_err-text.field-0.0 c.from_residual.ensures.1 (stops_text (c.is_next.ensures.yes c.if-is_next.true) c.in_err-text.ensures.stops)

pub returns-in_err-number-clause-stops : goal.returns-in_err-number-clause-stops
returns-in_err-number-clause-stops c = at_err c.from_residual-in_err-number.result c.in_err-number.field-0.0 c.from_residual-in_err-number.ensures.1 (stops_number (c.is_next.ensures.no c.if-is_next.false) c.in_err-number.ensures.stops)
