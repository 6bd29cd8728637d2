use Rattle.command_lang.specs.Grammar.{Show, Output, Input, Worklist, Queue, Audit, Templates}
use Rattle.fdl_parser.proofs.Stops.{at_err}
use Rattle.command_lang.proofs.Commands.{show_form, output_form, input_form, worklist_form, queue_form, audit_form, templates_taken, alone_taken, alone_stops}
use Rattle.fdl_parser.proofs.StopsTokens.{taken_number, taken_item, taken_name}
use Rattle.command_lang.proofs.grammar.query_behind.Goals as goal

pub returns-in_ok-number-in-Show-clause-read : goal.returns-in_ok-number-in-Show-clause-read
returns-in_ok-number-in-Show-clause-read c = rw c.in-Show.is (Show c.in_ok-number-in-Show.ensures.read)

pub returns-in_ok-number-in-Output-clause-read : goal.returns-in_ok-number-in-Output-clause-read
returns-in_ok-number-in-Output-clause-read c = rw c.in-Output.is (Output c.in_ok-number-in-Output.ensures.read)

pub returns-in_ok-item-in-Input-clause-read : goal.returns-in_ok-item-in-Input-clause-read
returns-in_ok-item-in-Input-clause-read c = rw c.in-Input.is (Input c.in_ok-item-in-Input.ensures.read)

pub returns-in_ok-person-in-Worklist-clause-read : goal.returns-in_ok-person-in-Worklist-clause-read
returns-in_ok-person-in-Worklist-clause-read c = rw c.in-Worklist.is (Worklist c.in_ok-person-in-Worklist.ensures.read)

pub returns-in_ok-number-in-Queue-clause-read : goal.returns-in_ok-number-in-Queue-clause-read
returns-in_ok-number-in-Queue-clause-read c = rw c.in-Queue.is (Queue c.in_ok-number-in-Queue.ensures.read)

pub returns-in_ok-number-in-Audit-clause-read : goal.returns-in_ok-number-in-Audit-clause-read
returns-in_ok-number-in-Audit-clause-read c = rw c.in-Audit.is (Audit c.in_ok-number-in-Audit.ensures.read)

pub returns-in-Templates-clause-read : goal.returns-in-Templates-clause-read
returns-in-Templates-clause-read c = rw c.in-Templates.is Templates

pub returns-in_ok-number-in-Show-clause-taken : goal.returns-in_ok-number-in-Show-clause-taken
returns-in_ok-number-in-Show-clause-taken c = rw c.in-Show.is (alone_taken show_form (taken_number c.in_ok-number-in-Show.ensures.read))

pub returns-in_err-number-in-Show-clause-stops : goal.returns-in_err-number-in-Show-clause-stops
returns-in_err-number-in-Show-clause-stops c = rw c.in-Show.is (at_err c.from_residual.result c.in_err-number-in-Show.field-0.0 c.from_residual.ensures.1 (alone_stops show_form c.in_err-number-in-Show.ensures.stops))

pub returns-in_ok-number-in-Output-clause-taken : goal.returns-in_ok-number-in-Output-clause-taken
returns-in_ok-number-in-Output-clause-taken c = rw c.in-Output.is (alone_taken output_form (taken_number c.in_ok-number-in-Output.ensures.read))

pub returns-in_err-number-in-Output-clause-stops : goal.returns-in_err-number-in-Output-clause-stops
returns-in_err-number-in-Output-clause-stops c = rw c.in-Output.is (at_err c.from_residual-in_err-number-in-Output.result c.in_err-number-in-Output.field-0.0 c.from_residual-in_err-number-in-Output.ensures.1 (alone_stops output_form c.in_err-number-in-Output.ensures.stops))

pub returns-in_ok-item-in-Input-clause-taken : goal.returns-in_ok-item-in-Input-clause-taken
returns-in_ok-item-in-Input-clause-taken c = rw c.in-Input.is (alone_taken input_form (taken_item c.in_ok-item-in-Input.ensures.read))

pub returns-in_err-item-in-Input-clause-stops : goal.returns-in_err-item-in-Input-clause-stops
returns-in_err-item-in-Input-clause-stops c = rw c.in-Input.is (at_err c.from_residual-in_err-item-in-Input.result c.in_err-item-in-Input.field-0.0 c.from_residual-in_err-item-in-Input.ensures.1 (alone_stops input_form c.in_err-item-in-Input.ensures.stops))

pub returns-in_ok-person-in-Worklist-clause-taken : goal.returns-in_ok-person-in-Worklist-clause-taken
returns-in_ok-person-in-Worklist-clause-taken c = rw c.in-Worklist.is (alone_taken worklist_form (taken_name c.in_ok-person-in-Worklist.ensures.read))

pub returns-in_err-person-in-Worklist-clause-stops : goal.returns-in_err-person-in-Worklist-clause-stops
returns-in_err-person-in-Worklist-clause-stops c = rw c.in-Worklist.is (at_err c.from_residual-in_err-person-in-Worklist.result c.in_err-person-in-Worklist.field-0.0 c.from_residual-in_err-person-in-Worklist.ensures.1 (alone_stops worklist_form c.in_err-person-in-Worklist.ensures.stops))

pub returns-in_ok-number-in-Queue-clause-taken : goal.returns-in_ok-number-in-Queue-clause-taken
returns-in_ok-number-in-Queue-clause-taken c = rw c.in-Queue.is (alone_taken queue_form (taken_number c.in_ok-number-in-Queue.ensures.read))

pub returns-in_err-number-in-Queue-clause-stops : goal.returns-in_err-number-in-Queue-clause-stops
returns-in_err-number-in-Queue-clause-stops c = rw c.in-Queue.is (at_err c.from_residual-in_err-number-in-Queue.result c.in_err-number-in-Queue.field-0.0 c.from_residual-in_err-number-in-Queue.ensures.1 (alone_stops queue_form c.in_err-number-in-Queue.ensures.stops))

pub returns-in_ok-number-in-Audit-clause-taken : goal.returns-in_ok-number-in-Audit-clause-taken
returns-in_ok-number-in-Audit-clause-taken c = rw c.in-Audit.is (alone_taken audit_form (taken_number c.in_ok-number-in-Audit.ensures.read))

pub returns-in_err-number-in-Audit-clause-stops : goal.returns-in_err-number-in-Audit-clause-stops
returns-in_err-number-in-Audit-clause-stops c = rw c.in-Audit.is (at_err c.from_residual-in_err-number-in-Audit.result c.in_err-number-in-Audit.field-0.0 c.from_residual-in_err-number-in-Audit.ensures.1 (alone_stops audit_form c.in_err-number-in-Audit.ensures.stops))

pub returns-in-Templates-clause-taken : goal.returns-in-Templates-clause-taken
returns-in-Templates-clause-taken c = rw c.in-Templates.is templates_taken
