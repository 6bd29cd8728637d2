use Rattle.command_lang.specs.Grammar.{Release}
use Rattle.fdl_parser.proofs.Stops.{at_err}
use Rattle.command_lang.proofs.Commands.{release_form, alone_taken, alone_stops, item_by_taken, item_by_item, item_by_person}
use Rattle.command_lang.proofs.grammar.release.Goals as goal

pub returns-clause-read : goal.returns-clause-read
returns-clause-read c = Release c.in_ok-item.ensures.read c.in_ok-person.ensures.read

pub returns-clause-taken : goal.returns-clause-taken
returns-clause-taken c = alone_taken release_form (item_by_taken c.in_ok-item.ensures.read c.in_ok-person.ensures.read)

pub returns-in_err-item-clause-stops : goal.returns-in_err-item-clause-stops
returns-in_err-item-clause-stops c = at_err c.from_residual.result c.in_err-item.field-0.0 c.from_residual.ensures.1 (alone_stops release_form (item_by_item c.in_err-item.ensures.stops))

pub returns-in_err-person-clause-stops : goal.returns-in_err-person-clause-stops
returns-in_err-person-clause-stops c = at_err c.from_residual-in_err-person.result c.in_err-person.field-0.0 c.from_residual-in_err-person.ensures.1 (alone_stops release_form (item_by_person c.in_ok-item.ensures.read c.in_err-person.ensures.stops))
