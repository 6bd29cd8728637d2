use Rattle.command_lang.specs.Grammar.{Start}
use Rattle.fdl_parser.proofs.Stops.{at_err}
use Rattle.command_lang.proofs.Commands.{start_form, form_taken, form_stops, start_taken, start_process, start_starter, start_key, start_settings}
use Rattle.command_lang.proofs.grammar.start.Goals as goal

pub returns-clause-read : goal.returns-clause-read
returns-clause-read c = Start c.in_ok-process.ensures.read c.in_ok-starter.ensures.read c.in_ok-key.ensures.read c.in_ok-settings.ensures.read

pub returns-clause-taken : goal.returns-clause-taken
returns-clause-taken c = form_taken start_form (start_taken c.in_ok-process.ensures.read c.in_ok-starter.ensures.read c.in_ok-key.ensures.taken c.in_ok-settings.ensures.taken)

pub returns-in_err-process-clause-stops : goal.returns-in_err-process-clause-stops
returns-in_err-process-clause-stops c = at_err c.from_residual.result c.in_err-process.field-0.0 c.from_residual.ensures.1 (form_stops start_form (start_process c.in_err-process.ensures.stops))

pub returns-in_err-starter-clause-stops : goal.returns-in_err-starter-clause-stops
returns-in_err-starter-clause-stops c = at_err c.from_residual-in_err-starter.result c.in_err-starter.field-0.0 c.from_residual-in_err-starter.ensures.1 (form_stops start_form (start_starter c.in_ok-process.ensures.read c.in_err-starter.ensures.stops))

pub returns-in_err-key-clause-stops : goal.returns-in_err-key-clause-stops
returns-in_err-key-clause-stops c = at_err c.from_residual-in_err-key.result c.in_err-key.field-0.0 c.from_residual-in_err-key.ensures.1 (form_stops start_form (start_key c.in_ok-process.ensures.read c.in_ok-starter.ensures.read c.in_err-key.ensures.stops))

pub returns-in_err-settings-clause-stops : goal.returns-in_err-settings-clause-stops
returns-in_err-settings-clause-stops c = at_err c.from_residual-in_err-settings.result c.in_err-settings.field-0.0 c.from_residual-in_err-settings.ensures.1 (form_stops start_form (start_settings c.in_ok-process.ensures.read c.in_ok-starter.ensures.read c.in_ok-key.ensures.taken c.in_err-settings.ensures.stops))
