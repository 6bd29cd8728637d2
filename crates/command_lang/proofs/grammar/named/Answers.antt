use Rattle.command_lang.specs.Grammar.{WordAndName}
use Rattle.fdl_parser.proofs.Stops.{at_err}
use Rattle.command_lang.proofs.Forms.{stops_named_word, stops_named_name}
use Rattle.fdl_parser.proofs.StopsTokens.{stops_word}
use Rattle.command_lang.proofs.grammar.named.Goals as goal

pub returns-clause-read : goal.returns-clause-read
returns-clause-read c = WordAndName c.in_ok-word.ensures.read c.in_ok-named.ensures.read

pub returns-in_err-word-clause-stops : goal.returns-in_err-word-clause-stops
returns-in_err-word-clause-stops c = at_err c.from_residual.result c.in_err-word.field-0.0 c.from_residual.ensures.1 (stops_named_word c.args.word (stops_word c.args.word c.args.cursor.now c.word.new.self _ c.in_err-word.ensures.refused))

pub returns-in_err-named-clause-stops : goal.returns-in_err-named-clause-stops
returns-in_err-named-clause-stops c = at_err c.from_residual-in_err-named.result c.in_err-named.field-0.0 c.from_residual-in_err-named.ensures.1 (stops_named_name c.in_ok-word.ensures.read c.in_err-named.ensures.stops)
