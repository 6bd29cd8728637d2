use Rattle.command_lang.specs.Grammar.{Force}
use Rattle.fdl_parser.proofs.Stops.{at_err}
use Rattle.command_lang.proofs.Commands.{force_form, form_taken, form_stops, force_taken, force_item, force_outcome}
use Rattle.command_lang.proofs.grammar.force.Goals as goal

pub returns-clause-read : goal.returns-clause-read
returns-clause-read c = Force c.in_ok-item.ensures.read c.in_ok-outcome.ensures.read

pub returns-clause-taken : goal.returns-clause-taken
returns-clause-taken c = form_taken force_form (force_taken c.in_ok-item.ensures.read c.in_ok-outcome.ensures.taken)

pub returns-in_err-item-clause-stops : goal.returns-in_err-item-clause-stops
returns-in_err-item-clause-stops c = at_err c.from_residual.result c.in_err-item.field-0.0 c.from_residual.ensures.1 (form_stops force_form (force_item c.in_err-item.ensures.stops))

pub returns-in_err-outcome-clause-stops : goal.returns-in_err-outcome-clause-stops
returns-in_err-outcome-clause-stops c = at_err c.from_residual-in_err-outcome.result c.in_err-outcome.field-0.0 c.from_residual-in_err-outcome.ensures.1 (form_stops force_form (force_outcome c.in_ok-item.ensures.read c.in_err-outcome.ensures.stops))
