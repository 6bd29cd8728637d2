use Rattle.command_lang.specs.Grammar.{Turn, Suspend, Resume, Terminate, Delete, Clock}
use Rattle.fdl_parser.proofs.Stops.{at_err}
use Rattle.command_lang.proofs.Commands.{turn_form, suspend_form, resume_form, terminate_form, delete_form, clock_form, alone_taken, alone_stops}
use Rattle.fdl_parser.proofs.StopsTokens.{taken_number}
use Rattle.command_lang.proofs.grammar.number_behind.Goals as goal

pub returns-in_ok-number-in-Turn-clause-read : goal.returns-in_ok-number-in-Turn-clause-read
returns-in_ok-number-in-Turn-clause-read c = rw c.in-Turn.is (Turn c.in_ok-number-in-Turn.ensures.read)

pub returns-in_ok-number-in-Suspend-clause-read : goal.returns-in_ok-number-in-Suspend-clause-read
returns-in_ok-number-in-Suspend-clause-read c = rw c.in-Suspend.is (Suspend c.in_ok-number-in-Suspend.ensures.read)

pub returns-in_ok-number-in-Resume-clause-read : goal.returns-in_ok-number-in-Resume-clause-read
returns-in_ok-number-in-Resume-clause-read c = rw c.in-Resume.is (Resume c.in_ok-number-in-Resume.ensures.read)

pub returns-in_ok-number-in-Terminate-clause-read : goal.returns-in_ok-number-in-Terminate-clause-read
returns-in_ok-number-in-Terminate-clause-read c = rw c.in-Terminate.is (Terminate c.in_ok-number-in-Terminate.ensures.read)

pub returns-in_ok-number-in-Delete-clause-read : goal.returns-in_ok-number-in-Delete-clause-read
returns-in_ok-number-in-Delete-clause-read c = rw c.in-Delete.is (Delete c.in_ok-number-in-Delete.ensures.read)

pub returns-in_ok-number-in-Clock-clause-read : goal.returns-in_ok-number-in-Clock-clause-read
returns-in_ok-number-in-Clock-clause-read c = rw c.in-Clock.is (Clock c.in_ok-number-in-Clock.ensures.read)

pub returns-in_ok-number-in-Turn-clause-taken : goal.returns-in_ok-number-in-Turn-clause-taken
returns-in_ok-number-in-Turn-clause-taken c = rw c.in-Turn.is (alone_taken turn_form (taken_number c.in_ok-number-in-Turn.ensures.read))

pub returns-in_err-number-in-Turn-clause-stops : goal.returns-in_err-number-in-Turn-clause-stops
returns-in_err-number-in-Turn-clause-stops c = rw c.in-Turn.is (at_err c.from_residual.result c.in_err-number-in-Turn.field-0.0 c.from_residual.ensures.1 (alone_stops turn_form c.in_err-number-in-Turn.ensures.stops))

pub returns-in_ok-number-in-Suspend-clause-taken : goal.returns-in_ok-number-in-Suspend-clause-taken
returns-in_ok-number-in-Suspend-clause-taken c = rw c.in-Suspend.is (alone_taken suspend_form (taken_number c.in_ok-number-in-Suspend.ensures.read))

pub returns-in_err-number-in-Suspend-clause-stops : goal.returns-in_err-number-in-Suspend-clause-stops
returns-in_err-number-in-Suspend-clause-stops c = rw c.in-Suspend.is (at_err c.from_residual-in_err-number-in-Suspend.result c.in_err-number-in-Suspend.field-0.0 c.from_residual-in_err-number-in-Suspend.ensures.1 (alone_stops suspend_form c.in_err-number-in-Suspend.ensures.stops))

pub returns-in_ok-number-in-Resume-clause-taken : goal.returns-in_ok-number-in-Resume-clause-taken
returns-in_ok-number-in-Resume-clause-taken c = rw c.in-Resume.is (alone_taken resume_form (taken_number c.in_ok-number-in-Resume.ensures.read))

pub returns-in_err-number-in-Resume-clause-stops : goal.returns-in_err-number-in-Resume-clause-stops
returns-in_err-number-in-Resume-clause-stops c = rw c.in-Resume.is (at_err c.from_residual-in_err-number-in-Resume.result c.in_err-number-in-Resume.field-0.0 c.from_residual-in_err-number-in-Resume.ensures.1 (alone_stops resume_form c.in_err-number-in-Resume.ensures.stops))

pub returns-in_ok-number-in-Terminate-clause-taken : goal.returns-in_ok-number-in-Terminate-clause-taken
returns-in_ok-number-in-Terminate-clause-taken c = rw c.in-Terminate.is (alone_taken terminate_form (taken_number c.in_ok-number-in-Terminate.ensures.read))

pub returns-in_err-number-in-Terminate-clause-stops : goal.returns-in_err-number-in-Terminate-clause-stops
returns-in_err-number-in-Terminate-clause-stops c = rw c.in-Terminate.is (at_err c.from_residual-in_err-number-in-Terminate.result c.in_err-number-in-Terminate.field-0.0 c.from_residual-in_err-number-in-Terminate.ensures.1 (alone_stops terminate_form c.in_err-number-in-Terminate.ensures.stops))

pub returns-in_ok-number-in-Delete-clause-taken : goal.returns-in_ok-number-in-Delete-clause-taken
returns-in_ok-number-in-Delete-clause-taken c = rw c.in-Delete.is (alone_taken delete_form (taken_number c.in_ok-number-in-Delete.ensures.read))

pub returns-in_err-number-in-Delete-clause-stops : goal.returns-in_err-number-in-Delete-clause-stops
returns-in_err-number-in-Delete-clause-stops c = rw c.in-Delete.is (at_err c.from_residual-in_err-number-in-Delete.result c.in_err-number-in-Delete.field-0.0 c.from_residual-in_err-number-in-Delete.ensures.1 (alone_stops delete_form c.in_err-number-in-Delete.ensures.stops))

pub returns-in_ok-number-in-Clock-clause-taken : goal.returns-in_ok-number-in-Clock-clause-taken
returns-in_ok-number-in-Clock-clause-taken c = rw c.in-Clock.is (alone_taken clock_form (taken_number c.in_ok-number-in-Clock.ensures.read))

pub returns-in_err-number-in-Clock-clause-stops : goal.returns-in_err-number-in-Clock-clause-stops
returns-in_err-number-in-Clock-clause-stops c = rw c.in-Clock.is (at_err c.from_residual-in_err-number-in-Clock.result c.in_err-number-in-Clock.field-0.0 c.from_residual-in_err-number-in-Clock.ensures.1 (alone_stops clock_form c.in_err-number-in-Clock.ensures.stops))
