use Rattle.command_lang.specs.Grammar.{ItemTarget, ActivityTarget}
use Rattle.fdl_parser.proofs.Stops.{at_err}
use Rattle.command_lang.proofs.Forms.{stops_target_item, stops_target_name}
use Rattle.command_lang.proofs.grammar.target.Goals as goal

pub returns-then-is_next-clause-read : goal.returns-then-is_next-clause-read
returns-then-is_next-clause-read c = ItemTarget c.in_ok-item.ensures.read

pub returns-clause-read : goal.returns-clause-read
returns-clause-read c = ActivityTarget c.in_ok-activity.ensures.read

pub returns-in_err-item-clause-stops : goal.returns-in_err-item-clause-stops
returns-in_err-item-clause-stops c = at_err c.from_residual.result c.in_err-item.field-0.0 c.from_residual.ensures.1 (stops_target_item (c.is_next.ensures.yes c.if-is_next.true) c.in_err-item.ensures.stops)

pub returns-in_err-activity-clause-stops : goal.returns-in_err-activity-clause-stops
returns-in_err-activity-clause-stops c = at_err c.from_residual-in_err-activity.result c.in_err-activity.field-0.0 c.from_residual-in_err-activity.ensures.1 (stops_target_name (c.is_next.ensures.no c.if-is_next.false) c.in_err-activity.ensures.stops)
