-- What is replied to a command, and what becomes of the state.
use Rattle.std.specs.Prelude.{◌≡◌, ◌⊎◌, ℕ, ◌+◌, List}
use Rattle.flow_model.specs.declared.commands.Command.{Command}
use Rattle.flow_model.specs.declared.transactions.Transaction.{Transaction}
use Rattle.flow_core.specs.declared.applying.Note.{Note}
use Rattle.flow_core.specs.declared.judging.Verdict.TheVariants.{Do, Same, Refused}
use Rattle.flow_core.specs.declared.refusals.Refusal.{Refusal}
use Rattle.flow_core.specs.declared.state.Core.{Core}
use Rattle.flow_core.specs.Judgements.{IsVerdict}
use Rattle.flow_core.specs.Replies.{applied_text, refusal_text}
use Rattle.flow_core.specs.Verdicts.{IsNoteOf}
pub use Rattle.machine.specs.Scripts.{same_text, checkpoint_text}
use Rattle.machine_laws.specs.Applied.{Applied}

-- a command makes the transaction to which it is judged: it is applied to the state, and the reply has its number and
-- what came of it
pub record IsMade (old new : Core) (command : Command) (reply : List ℕ) : Type 0 where
  pub transaction : Transaction
  pub note : Note
  pub judged : IsVerdict old command (Do transaction)
  pub applied : Applied old transaction new
  pub noted : IsNoteOf old transaction new note
  pub told : reply ≡ applied_text (record { number = old.number + 1; note = note })

-- it is judged to be refused, or to be the START of a live root, and the reply says so
abbrev pub IsUnmade : Core → Command → List ℕ → Type 0
IsUnmade c command reply =
    ((refusal : Refusal) × IsVerdict c command (Refused refusal) × (reply ≡ refusal_text refusal))
    ⊎ ((root : ℕ) × IsVerdict c command (Same root) × (reply ≡ same_text root))

-- a command makes its transaction, or nothing changes
abbrev pub IsObeyed : Core → Core → Command → List ℕ → Type 0
IsObeyed old new command reply = IsMade old new command reply ⊎ ((new ≡ old) × IsUnmade old command reply)
