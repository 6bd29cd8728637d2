use Rattle.command_lang.specs.Grammar.{Take, Restart}
use Rattle.fdl_parser.proofs.Stops.{at_err}
use Rattle.command_lang.proofs.Commands.{take_form, restart_form, alone_taken, alone_stops}
use Rattle.fdl_parser.proofs.StopsTokens.{taken_item}
use Rattle.command_lang.proofs.grammar.item_behind.Goals as goal

pub returns-in_ok-item-in-Take-clause-read : goal.returns-in_ok-item-in-Take-clause-read
returns-in_ok-item-in-Take-clause-read c = rw c.in-Take.is (Take c.in_ok-item-in-Take.ensures.read)

pub returns-in_ok-item-in-Restart-clause-read : goal.returns-in_ok-item-in-Restart-clause-read
returns-in_ok-item-in-Restart-clause-read c = rw c.in-Restart.is (Restart c.in_ok-item-in-Restart.ensures.read)

pub returns-in_ok-item-in-Take-clause-taken : goal.returns-in_ok-item-in-Take-clause-taken
returns-in_ok-item-in-Take-clause-taken c = rw c.in-Take.is (alone_taken take_form (taken_item c.in_ok-item-in-Take.ensures.read))

pub returns-in_err-item-in-Take-clause-stops : goal.returns-in_err-item-in-Take-clause-stops
returns-in_err-item-in-Take-clause-stops c = rw c.in-Take.is (at_err c.from_residual.result c.in_err-item-in-Take.field-0.0 c.from_residual.ensures.1 (alone_stops take_form c.in_err-item-in-Take.ensures.stops))

pub returns-in_ok-item-in-Restart-clause-taken : goal.returns-in_ok-item-in-Restart-clause-taken
returns-in_ok-item-in-Restart-clause-taken c = rw c.in-Restart.is (alone_taken restart_form (taken_item c.in_ok-item-in-Restart.ensures.read))

pub returns-in_err-item-in-Restart-clause-stops : goal.returns-in_err-item-in-Restart-clause-stops
returns-in_err-item-in-Restart-clause-stops c = rw c.in-Restart.is (at_err c.from_residual-in_err-item-in-Restart.result c.in_err-item-in-Restart.field-0.0 c.from_residual-in_err-item-in-Restart.ensures.1 (alone_stops restart_form c.in_err-item-in-Restart.ensures.stops))
