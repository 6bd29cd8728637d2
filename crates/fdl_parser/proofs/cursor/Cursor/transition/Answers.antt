use Rattle.fdl_parser.specs.Lines.{Unconditional, Otherwise, Conditional}
use Rattle.fdl_parser.proofs.Stops.{at_err}
use Rattle.fdl_parser.proofs.StopsLines.{transition_none, transition_otherwise, transition_when, stops_transition}
use Rattle.fdl_parser.proofs.cursor.Cursor.transition.Goals as goal

pub returns-then-is_word-clause-read : goal.returns-then-is_word-clause-read
returns-then-is_word-clause-read c = Otherwise c.in_ok-word.ensures.read

pub returns-then-is_word-2-clause-read : goal.returns-then-is_word-2-clause-read
returns-then-is_word-2-clause-read c = Conditional c.in_ok-word-2.ensures.read c.in_ok-cond.ensures.read

pub returns-clause-read : goal.returns-clause-read
returns-clause-read c = Unconditional

pub returns-then-is_word-clause-taken : goal.returns-then-is_word-clause-taken
returns-then-is_word-clause-taken c = transition_otherwise c.in_ok-word.ensures.read

pub returns-then-is_word-2-clause-taken : goal.returns-then-is_word-2-clause-taken
returns-then-is_word-2-clause-taken c = transition_when c.in_ok-word-2.ensures.read (_, c.in_ok-cond.ensures.read)

pub returns-clause-taken : goal.returns-clause-taken
returns-clause-taken c = transition_none (c.is_word.ensures.no c.if-is_word.false) (c.is_word-2.ensures.no c.if-is_word-2.false)

pub returns-in_err-cond-clause-stops : goal.returns-in_err-cond-clause-stops
returns-in_err-cond-clause-stops c = at_err c.from_residual-in_err-cond.result c.in_err-cond.field-0.0 c.from_residual-in_err-cond.ensures.1 (stops_transition (c.is_word.ensures.no c.if-is_word.false) c.in_ok-word-2.ensures.read c.in_err-cond.ensures.stops)
