use Rattle.command_lang.specs.Grammar.{Done}
use Rattle.fdl_parser.proofs.Stops.{at_err}
use Rattle.command_lang.proofs.Commands.{done_form, form_taken, form_stops, done_taken, done_item, done_who, done_outcome}
use Rattle.command_lang.proofs.grammar.done.Goals as goal

pub returns-clause-read : goal.returns-clause-read
returns-clause-read c = Done c.in_ok-item.ensures.read c.in_ok-who.ensures.read c.in_ok-outcome.ensures.read

pub returns-clause-taken : goal.returns-clause-taken
returns-clause-taken c = form_taken done_form (done_taken c.in_ok-item.ensures.read c.in_ok-who.ensures.read c.in_ok-outcome.ensures.taken)

pub returns-in_err-item-clause-stops : goal.returns-in_err-item-clause-stops
returns-in_err-item-clause-stops c = at_err c.from_residual.result c.in_err-item.field-0.0 c.from_residual.ensures.1 (form_stops done_form (done_item c.in_err-item.ensures.stops))

pub returns-in_err-who-clause-stops : goal.returns-in_err-who-clause-stops
returns-in_err-who-clause-stops c = at_err c.from_residual-in_err-who.result c.in_err-who.field-0.0 c.from_residual-in_err-who.ensures.1 (form_stops done_form (done_who c.in_ok-item.ensures.read c.in_err-who.ensures.stops))

pub returns-in_err-outcome-clause-stops : goal.returns-in_err-outcome-clause-stops
returns-in_err-outcome-clause-stops c = at_err c.from_residual-in_err-outcome.result c.in_err-outcome.field-0.0 c.from_residual-in_err-outcome.ensures.1 (form_stops done_form (done_outcome c.in_ok-item.ensures.read c.in_ok-who.ensures.read c.in_err-outcome.ensures.stops))
