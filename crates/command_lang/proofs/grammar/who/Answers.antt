use Rattle.command_lang.specs.Grammar.{ByPerson, ByTake}
use Rattle.fdl_parser.proofs.Stops.{at_err}
use Rattle.command_lang.proofs.Forms.{stops_person, stops_take, stops_take_number}
use Rattle.fdl_parser.proofs.StopsTokens.{stops_word}
use Rattle.flow_table.specs.declared.keyword.Keyword.TheVariants as word
use Rattle.command_lang.proofs.grammar.who.Goals as goal

pub returns-then-is_word-clause-read : goal.returns-then-is_word-clause-read
returns-then-is_word-clause-read c = ByPerson c.in_ok-person.ensures.read

pub returns-clause-read : goal.returns-clause-read
returns-clause-read c = ByTake c.in_ok-word.ensures.read c.in_ok-number.ensures.read

pub returns-in_err-person-clause-stops : goal.returns-in_err-person-clause-stops
returns-in_err-person-clause-stops c = at_err c.from_residual.result c.in_err-person.field-0.0 c.from_residual.ensures.1 (stops_person (c.is_word.ensures.yes c.if-is_word.true) c.in_err-person.ensures.stops)

pub returns-in_err-word-clause-stops : goal.returns-in_err-word-clause-stops
returns-in_err-word-clause-stops c = at_err c.from_residual-in_err-word.result c.in_err-word.field-0.0 c.from_residual-in_err-word.ensures.1 (stops_take (c.is_word.ensures.no c.if-is_word.false) (stops_word word.Take c.args.cursor.now c.word.new.self _ c.in_err-word.ensures.refused))

pub returns-in_err-number-clause-stops : goal.returns-in_err-number-clause-stops
returns-in_err-number-clause-stops c = at_err c.from_residual-in_err-number.result c.in_err-number.field-0.0 c.from_residual-in_err-number.ensures.1 (stops_take_number (c.is_word.ensures.no c.if-is_word.false) c.in_ok-word.ensures.read c.in_err-number.ensures.stops)
