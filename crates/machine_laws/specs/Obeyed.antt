-- What a command makes of the engine's state, and what is replied, is what the machine makes and replies; and so is
-- what the record of a store makes of it.
use Rattle.std.specs.Prelude.{◌+◌, ℕ, List}
use Rattle.core_laws.specs.RightStates.{IsRightState}
use Rattle.flow_core.specs.Admitting.{IsAdmitted}
use Rattle.flow_core.specs.Allowing.{IsAllowed}
use Rattle.flow_core.specs.Judgements.{IsVerdict}
use Rattle.flow_core.specs.Replies.{applied_text, refusal_text}
use Rattle.flow_core.specs.Verdicts.{IsNoteOf}
use Rattle.flow_core.specs.declared.applying.Note.{Note}
use Rattle.flow_core.specs.declared.judging.Verdict.TheVariants.{Do, Same, Refused}
use Rattle.flow_core.specs.declared.refusals.Refusal.{Refusal}
use Rattle.flow_core.specs.declared.state.Core.{Core}
use Rattle.flow_model.specs.declared.commands.Command.{Command}
use Rattle.flow_model.specs.declared.transactions.Transaction.{Transaction}
use Rattle.machine.specs.Scripts.{IsObeyed, same_text, StepsAs}
use Rattle.view_laws.specs.Runs.{Event}
use Rattle.machine_laws.specs.Applied.{Applied, Adopted}
use Rattle.machine_laws.specs.Viewed.{view}
use Rattle.machine_laws.specs.Keyed.{AreKeyed}

-- in a right state whose keys are the machine's, the transaction of a command is made and replied to as the machine
-- makes it and replies to it, and the keys stay the machine's
abbrev pub CommandsAreObeyed : Type 0
CommandsAreObeyed =
    (c c' : Core) (command : Command) (t : Transaction) (n : Note) (runs : ℕ → List Event) → IsRightState c runs
    → AreKeyed c → IsVerdict c command (Do t) → Applied c t c' → IsNoteOf c t c' n
    → IsObeyed (view c) (view c') command (applied_text (record { number = c.number + 1; note = n })) × AreKeyed c'

-- a command that is refused changes nothing, and is replied to as the machine replies
abbrev pub RefusalsAreObeyed : Type 0
RefusalsAreObeyed =
    (c : Core) (command : Command) (refusal : Refusal) → AreKeyed c
    → IsVerdict c command (Refused refusal) → IsObeyed (view c) (view c) command (refusal_text refusal)

-- nor does a START with the key of a live root
abbrev pub SamesAreObeyed : Type 0
SamesAreObeyed =
    (c : Core) (command : Command) (root : ℕ) → AreKeyed c → IsVerdict c command (Same root)
    → IsObeyed (view c) (view c) command (same_text root)

-- in a right state whose keys are the machine's, what is made of a record that is admitted is a step of the machine
-- under the number of the record, and the keys stay the machine's
abbrev pub RecordsAreAdopted : Type 0
RecordsAreAdopted =
    (c c' : Core) (number : ℕ) (t : Transaction) (runs : ℕ → List Event) → IsRightState c runs → AreKeyed c
    → IsAllowed c t → IsAdmitted c number t → Adopted c number t c' → StepsAs number (view c) t (view c') × AreKeyed c'
