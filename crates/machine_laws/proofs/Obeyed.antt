-- What a command, or the record of a store, makes of the engine's state is what the machine makes, and so is the reply.
use Rattle.std.proofs.Common.{ℕ, ◌+◌, List, refl}
use Rattle.core_laws.specs.RightStates.{IsRightState}
use Rattle.flow_core.specs.Admitting.{IsAdmitted}
use Rattle.flow_core.specs.Allowing.{IsAllowed}
use Rattle.flow_core.specs.Judgements.{IsVerdict}
use Rattle.flow_core.specs.Replies.{applied_text, refusal_text}
use Rattle.flow_core.specs.Verdicts.{IsNoteOf}
use Rattle.flow_core.specs.declared.applying.Note.{Note}
use Rattle.flow_core.specs.declared.judging.Verdict.TheVariants.{Do, Same, Refused}
use Rattle.flow_core.specs.declared.refusals.Refusal.{Refusal}
use Rattle.flow_core.specs.declared.state.Core.{Core}
use Rattle.flow_model.specs.declared.commands.Command.{Command}
use Rattle.flow_model.specs.declared.transactions.Transaction.{Transaction}
use Rattle.flow_model.specs.declared.transactions.Transaction.TheVariants.{Import, Start, Turn, Claim, Release}
use Rattle.flow_model.specs.declared.transactions.Transaction.TheVariants.{Transfer, Take, Done, Force, Restart}
use Rattle.flow_model.specs.declared.transactions.Transaction.TheVariants.{Suspend, Resume, Terminate, Delete, Clock}
use Rattle.machine.specs.Scripts.{IsObeyed, same_text, StepsAs}
use Rattle.view_laws.specs.Runs.{Event}
use Rattle.worklist_laws.proofs.OpenAsked.{verdict_asks, admitted_asks}
use Rattle.worklist_laws.specs.Asking.{AsksOpen}
use Rattle.machine_laws.specs.Applied.{Applied, Adopted}
use Rattle.machine_laws.specs.Right.{HoldsOpen}
use Rattle.machine_laws.specs.Viewed.{view}
use Rattle.machine_laws.proofs.AdoptedSteps.{adopted_step}
use Rattle.machine_laws.proofs.AppliedSteps.{applied_step}
use Rattle.machine_laws.proofs.Good.{verdict_good, admitted_good}
use Rattle.machine_laws.specs.Keyed.{AreKeyed}
use Rattle.machine_laws.proofs.Keyed.{applied_keyed, adopted_keyed, verdict_free, admitted_free}
use Rattle.machine_laws.proofs.SeenVerdicts.{verdict_seen, note_seen}

-- what a command has asked of an item whose hold it changes
holds_open : (c : Core) (t : Transaction) → AsksOpen c t → HoldsOpen c t
holds_open c (Import text) asks = tt
holds_open c (Start root process version starter key settings) asks = tt
holds_open c (Turn queue message) asks = tt
holds_open c (Claim item who) asks = asks
holds_open c (Release item who) asks = asks
holds_open c (Transfer item who to) asks = asks
holds_open c (Take item take) asks = asks
holds_open c (Done item who settings) asks = tt
holds_open c (Force item settings) asks = tt
holds_open c (Restart item) asks = asks
holds_open c (Suspend root) asks = tt
holds_open c (Resume root) asks = tt
holds_open c (Terminate root) asks = tt
holds_open c (Delete root) asks = tt
holds_open c (Clock minutes) asks = tt

pub command_obeyed : (c c' : Core) (command : Command) (t : Transaction) (n : Note) (runs : ℕ → List Event)
    → IsRightState c runs → AreKeyed c → IsVerdict c command (Do t) → Applied c t c' → IsNoteOf c t c' n
    → IsObeyed (view c) (view c') command (applied_text (record { number = c.number + 1; note = n })) × AreKeyed c'
command_obeyed c c' command t n runs right keyed is applied names =
    let good = verdict_good c command t is in
    let opens = holds_open c t (verdict_asks c command t is) in (
      (
        Do t,
        verdict_seen c command (Do t) keyed is,
        (n, applied_step c c' runs right t is.2 opens good applied, note_seen c c' t n is.2 names, refl),
      ),
      applied_keyed c c' t runs right is.2 good (verdict_free c command t is) keyed applied,
    )

pub refusal_obeyed : (c : Core) (command : Command) (refusal : Refusal) → AreKeyed c
    → IsVerdict c command (Refused refusal) → IsObeyed (view c) (view c) command (refusal_text refusal)
refusal_obeyed c command refusal keyed is =
    (Refused refusal, verdict_seen c command (Refused refusal) keyed is, (refl, refl))

pub same_obeyed : (c : Core) (command : Command) (root : ℕ) → AreKeyed c
    → IsVerdict c command (Same root) → IsObeyed (view c) (view c) command (same_text root)
same_obeyed c command root keyed is =
    (Same root, verdict_seen c command (Same root) keyed is, (refl, refl))

pub record_adopted : (c c' : Core) (number : ℕ) (t : Transaction) (runs : ℕ → List Event) → IsRightState c runs
    → AreKeyed c → IsAllowed c t → IsAdmitted c number t → Adopted c number t c'
    → StepsAs number (view c) t (view c') × AreKeyed c'
record_adopted c c' number t runs right keyed is admitted adopted =
    let good = admitted_good c number t admitted in
    let opens = holds_open c t (admitted_asks c number t admitted) in (
      adopted_step c c' number t runs right is opens good admitted.place adopted,
      adopted_keyed c c' number t runs right is good (admitted_free c number t admitted) keyed adopted,
    )
