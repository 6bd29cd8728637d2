use Rattle.command_lang.specs.Grammar.{CodeAndSettings}
use Rattle.fdl_parser.proofs.Stops.{at_err}
use Rattle.command_lang.proofs.Forms.{outcome_taken, stops_outcome_code, stops_outcome_settings}
use Rattle.command_lang.proofs.grammar.outcome.Goals as goal

pub returns-clause-read : goal.returns-clause-read
returns-clause-read c = CodeAndSettings c.in_ok-rc.ensures.read c.in_ok-settings.ensures.read

pub returns-clause-taken : goal.returns-clause-taken
returns-clause-taken c = outcome_taken c.in_ok-rc.ensures.taken c.in_ok-settings.ensures.taken

pub returns-in_err-rc-clause-stops : goal.returns-in_err-rc-clause-stops
returns-in_err-rc-clause-stops c = at_err c.from_residual.result c.in_err-rc.field-0.0 c.from_residual.ensures.1 (stops_outcome_code c.in_err-rc.ensures.stops)

pub returns-in_err-settings-clause-stops : goal.returns-in_err-settings-clause-stops
returns-in_err-settings-clause-stops c = at_err c.from_residual-in_err-settings.result c.in_err-settings.field-0.0 c.from_residual-in_err-settings.ensures.1 (stops_outcome_settings c.in_ok-rc.ensures.taken c.in_err-settings.ensures.stops)
