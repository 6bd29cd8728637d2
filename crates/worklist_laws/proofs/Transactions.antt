-- The worklists go on holding exactly the open manual items with each transaction, and so along a history; those of a blank state hold nothing.
use Rattle.std.proofs.Common.{ℕ, zero, suc, ◌<◌, ◌≤◌, List, None, true, false, sym, ◌∙◌, subst, arith}
use Rattle.std.proofs.lemmas.Option.{none-some}
use Rattle.core_laws.proofs.Making.{core_right, state_right}
use Rattle.core_laws.specs.RightStates.{IsRightState, Makes, runs_at}
use Rattle.flow_core.specs.Allowing.{IsAllowed, IsBlank}
use Rattle.flow_core.specs.Driving.{templates, Drives}
use Rattle.flow_core.specs.Shelving.{performer_named, Shelves}
use Rattle.flow_core.specs.declared.state.Core.{Core}
use Rattle.flow_model.specs.declared.graphs.Template.{Template}
use Rattle.flow_model.specs.declared.transactions.Transaction.{Transaction}
use Rattle.flow_model.specs.declared.transactions.Transaction.TheVariants.{Import, Start, Turn, Claim, Release, Transfer, Take, Done, Force, Restart, Suspend, Resume, Terminate, Delete, Clock}
use Rattle.library_laws.proofs.SameGraphs.{longer_agrees}
use Rattle.library_laws.specs.Larger.{Agrees}
use Rattle.navigator.specs.declared.instance.HoldChange.TheVariants as hold
use Rattle.view_laws.specs.Runs.{Event}
use Rattle.worklist_laws.proofs.OpenLines.{none_absent}
use Rattle.worklist_laws.proofs.Staying.{all_still, hold_stays, turn_stays, completion_stays}
use Rattle.worklist_laws.proofs.Settled.{ComeBefore, sound_before}
use Rattle.worklist_laws.proofs.WholeRoots.{terminated_stays, suspended_stays, deleted_stays, started_stays, imported_stays}
use Rattle.worklist_laws.specs.Asking.{AsksOpen}
use Rattle.worklist_laws.specs.Laws.{Lists}
use Rattle.worklist_laws.specs.Shelved.{IsRightAndListed, IsShelved}

pub blank_shelved : (c : Core) → IsBlank c → IsShelved c
blank_shelved c blank = record {
  each = λ path line has. absurd (none-some line (sym (none_absent c path (blank.roots path.root)) ∙ has));
  only = λ name rank listed there. absurd (none-some listed (sym (blank.unlisted name rank) ∙ there));
}

module _ (c c' : Core) (runs : ℕ → List Event) (right : IsRightState c runs) (shelved : IsShelved c) where
  before : ComeBefore (templates c)
  before = sound_before (templates c) right.sound

  stays : (t : Transaction) → IsAllowed c t → (drives : Drives c t c') → Shelves c t c' → AsksOpen c t → IsShelved c'
  stays (Import text) allowed drives shelves asks =
      let library = drives.library.0 in
      imported_stays c c' runs right.are (subst (λ (us : List Template). Agrees (templates c) us) (sym library.1) (longer_agrees (templates c) library.0)) drives.roots.0 shelves shelved
  stays (Start root process version starter key settings) allowed drives shelves asks =
      started_stays c c' root process version starter settings drives.given drives.library (right.counted root allowed.free).absent drives.roots shelves shelved
  stays (Turn number message) allowed drives shelves asks =
      turn_stays c c' runs right.are shelved before drives.library number message drives.given allowed.asked drives.roots shelves
  stays (Claim item who) allowed drives shelves asks =
      hold_stays c c' runs right.are shelved before drives.library item (hold.Person who) drives.given drives.roots asks shelves
  stays (Release item who) allowed drives shelves asks =
      hold_stays c c' runs right.are shelved before drives.library item hold.Nobody drives.given drives.roots asks shelves
  stays (Transfer item who to) allowed drives shelves asks =
      hold_stays c c' runs right.are shelved before drives.library item (hold.Person to) drives.given drives.roots asks shelves
  stays (Take item take) allowed drives shelves asks =
      hold_stays c c' runs right.are shelved before drives.library item hold.Agent drives.given drives.roots asks shelves
  stays (Done item who settings) allowed drives shelves asks =
      completion_stays c c' runs right.are shelved before drives.library item (performer_named who) settings drives.given allowed.asked drives.roots shelves
  stays (Force item settings) allowed drives shelves asks =
      completion_stays c c' runs right.are shelved before drives.library item None settings drives.given allowed.asked drives.roots shelves
  stays (Restart item) allowed drives shelves asks =
      hold_stays c c' runs right.are shelved before drives.library item hold.Nobody drives.given drives.roots asks shelves
  stays (Suspend root) allowed drives shelves asks = suspended_stays c c' root drives.given true drives.library drives.roots shelves shelved
  stays (Resume root) allowed drives shelves asks = suspended_stays c c' root drives.given false drives.library drives.roots shelves shelved
  stays (Terminate root) allowed drives shelves asks = terminated_stays c c' root drives.given drives.library drives.roots shelves shelved
  stays (Delete root) allowed drives shelves asks = deleted_stays c runs right.are c' root drives.given drives.roots drives.library asks shelves shelved
  stays (Clock minutes) allowed drives shelves asks = all_still c c' drives.library drives.roots.0 shelves shelved

  pub stays_shelved : (t : Transaction) → Makes c t c' → Shelves c t c' → AsksOpen c t → IsShelved c'
  stays_shelved t makes shelves asks = stays t makes.allowed makes.drives shelves asks

-- a state that is right and listed stays so
pub listed_stays : (c c' : Core) (t : Transaction) → Makes c t c' → Shelves c t c' → AsksOpen c t → IsRightAndListed c → IsRightAndListed c'
listed_stays c c' t makes shelves asks was = (core_right c c' t makes was.0, stays_shelved c c' was.0.0 was.0.1 was.1 t makes shelves asks)

-- ---- histories

pub history_shelved : (states : ℕ → Core) (made : ℕ → Transaction) (runs : ℕ → List Event) (count : ℕ) → IsRightState (states 0) runs → IsShelved (states 0)
    → ((n : ℕ) → n < count → Lists (states n) (made n) (states (suc n)))
    → (n : ℕ) → n ≤ count → IsRightState (states n) (runs_at states made runs n) × IsShelved (states n)
history_shelved states made runs count right shelved lists zero upto = (right, shelved)
history_shelved states made runs count right shelved lists (suc n) upto =
    let below : n < count = omega arith in
    let was = history_shelved states made runs count right shelved lists n (omega arith) in
    let next = lists n below in (
      state_right (states n) (states (suc n)) (runs_at states made runs n) was.0 (made n) next.makes,
      stays_shelved (states n) (states (suc n)) (runs_at states made runs n) was.0 was.1 (made n) next.makes next.shelves next.asks,
    )
