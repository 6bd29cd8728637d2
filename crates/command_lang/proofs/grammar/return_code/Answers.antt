use Rattle.command_lang.specs.Grammar.{NoCode, Code}
use Rattle.fdl_parser.proofs.Stops.{at_err}
use Rattle.command_lang.proofs.Forms.{code_none, code_some, stops_code}
use Rattle.command_lang.proofs.grammar.return_code.Goals as goal

pub returns-then-not-is_word-clause-read : goal.returns-then-not-is_word-clause-read
returns-then-not-is_word-clause-read c = NoCode

pub returns-clause-read : goal.returns-clause-read
returns-clause-read c = Code c.in_ok-word.ensures.read c.in_ok-code.ensures.read

pub returns-then-not-is_word-clause-taken : goal.returns-then-not-is_word-clause-taken
returns-then-not-is_word-clause-taken c = code_none (c.is_word.ensures.no c.if-not-is_word.true)

pub returns-clause-taken : goal.returns-clause-taken
returns-clause-taken c = code_some c.in_ok-word.ensures.read c.in_ok-code.ensures.read

pub returns-in_err-code-clause-stops : goal.returns-in_err-code-clause-stops
returns-in_err-code-clause-stops c = at_err c.from_residual-in_err-code.result c.in_err-code.field-0.0 c.from_residual-in_err-code.ensures.1 (stops_code c.in_ok-word.ensures.read c.in_err-code.ensures.stops)
