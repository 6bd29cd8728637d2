-- The verdict of a command over the engine's state is its verdict over the state of the machine.
use Rattle.flow_core.specs.Allowing.{IsAllowed}
use Rattle.flow_core.specs.Judgements as engine
use Rattle.flow_core.specs.Verdicts as engine_notes
use Rattle.flow_core.specs.declared.applying.Note.{Note}
use Rattle.flow_core.specs.declared.judging.Verdict.{Verdict}
use Rattle.flow_core.specs.declared.state.Core.{Core}
use Rattle.flow_model.specs.declared.commands.Command.{Command}
use Rattle.flow_model.specs.declared.transactions.Transaction.{Transaction}
use Rattle.machine.specs.Verdicts as machine
use Rattle.machine_laws.specs.Viewed.{view}
use Rattle.machine_laws.specs.Keyed.{AreKeyed}

-- in a state in order whose keys are the machine's, as each right state is that transactions lead to from a blank one,
-- the verdict of a command is its verdict over the machine's state
abbrev pub VerdictsAreSeen : Type 0
VerdictsAreSeen =
    (c : Core) (command : Command) (v : Verdict) → AreKeyed c → engine.IsVerdict c command v
    → machine.IsVerdict (view c) command v

-- what a reply names of a transaction that may be, by the engine's states before and after it, it names by those of
-- the machine
abbrev pub NotesAreSeen : Type 0
NotesAreSeen =
    (c c' : Core) (t : Transaction) (n : Note) → IsAllowed c t → engine_notes.IsNoteOf c t c' n
    → machine.IsNoteOf (view c) t (view c') n
