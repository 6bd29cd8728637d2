use Rattle.command_lang.specs.Grammar.{Transfer}
use Rattle.fdl_parser.proofs.Stops.{at_err}
use Rattle.command_lang.proofs.Commands.{transfer_form, alone_taken, alone_stops, transfer_taken, transfer_item, transfer_from, transfer_to}
use Rattle.command_lang.proofs.grammar.transfer.Goals as goal

pub returns-clause-read : goal.returns-clause-read
returns-clause-read c = Transfer c.in_ok-item.ensures.read c.in_ok-from.ensures.read c.in_ok-to.ensures.read

pub returns-clause-taken : goal.returns-clause-taken
returns-clause-taken c = alone_taken transfer_form (transfer_taken c.in_ok-item.ensures.read c.in_ok-from.ensures.read c.in_ok-to.ensures.read)

pub returns-in_err-item-clause-stops : goal.returns-in_err-item-clause-stops
returns-in_err-item-clause-stops c = at_err c.from_residual.result c.in_err-item.field-0.0 c.from_residual.ensures.1 (alone_stops transfer_form (transfer_item c.in_err-item.ensures.stops))

pub returns-in_err-from-clause-stops : goal.returns-in_err-from-clause-stops
returns-in_err-from-clause-stops c = at_err c.from_residual-in_err-from.result c.in_err-from.field-0.0 c.from_residual-in_err-from.ensures.1 (alone_stops transfer_form (transfer_from c.in_ok-item.ensures.read c.in_err-from.ensures.stops))

pub returns-in_err-to-clause-stops : goal.returns-in_err-to-clause-stops
returns-in_err-to-clause-stops c = at_err c.from_residual-in_err-to.result c.in_err-to.field-0.0 c.from_residual-in_err-to.ensures.1 (alone_stops transfer_form (transfer_to c.in_ok-item.ensures.read c.in_ok-from.ensures.read c.in_err-to.ensures.stops))
