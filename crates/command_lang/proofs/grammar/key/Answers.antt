use Rattle.command_lang.specs.Grammar.{NoKey, Key}
use Rattle.fdl_parser.proofs.Stops.{at_err}
use Rattle.command_lang.proofs.Forms.{key_none, key_some, stops_key}
use Rattle.command_lang.proofs.grammar.key.Goals as goal

pub returns-then-not-is_word-clause-read : goal.returns-then-not-is_word-clause-read
returns-then-not-is_word-clause-read c = NoKey

pub returns-clause-read : goal.returns-clause-read
returns-clause-read c = Key c.in_ok-key.ensures.read

pub returns-then-not-is_word-clause-taken : goal.returns-then-not-is_word-clause-taken
returns-then-not-is_word-clause-taken c = key_none (c.is_word.ensures.no c.if-not-is_word.true)

pub returns-clause-taken : goal.returns-clause-taken
returns-clause-taken c = key_some c.in_ok-key.ensures.read

pub returns-in_err-key-clause-stops : goal.returns-in_err-key-clause-stops
returns-in_err-key-clause-stops c = at_err c.from_residual.result c.in_err-key.field-0.0 c.from_residual.ensures.1 (stops_key (c.is_word.ensures.yes c.if-not-is_word.false) c.in_err-key.ensures.stops)
