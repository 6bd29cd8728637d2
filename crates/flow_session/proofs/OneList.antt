-- Two sessions that the machine sees as one have one list of replies to a script.
use Rattle.std.proofs.Common.{ℕ, sym, subst}
use Rattle.flow_core.specs.Summaries.{Summary}
use Rattle.flow_disk.specs.Images.{Image}
use Rattle.flow_disk.specs.declared.disk.Slot.{Slot}
use Rattle.machine_laws.proofs.Scripts.{scripts}
use Rattle.machine.specs.Scripts as machine
use Rattle.flow_session.specs.Bridge.{ScriptsHaveOneList}
use Rattle.flow_session.specs.Sittings.{sitting}
use Rattle.flow_session.proofs.RepliedScripts.{script_replied}

module _ {J K : Type 0} (tells : Type 0) (holds : J → Summary → Type 0) (moment : J → ℕ)
    (left_since : J → ℕ → Image → Type 0) (place : J → Slot × ℕ) (moved : J → J → Summary → Type 0)
    (tells' : Type 0) (holds' : K → Summary → Type 0) (moment' : K → ℕ) (left_since' : K → ℕ → Image → Type 0)
    (place' : K → Slot × ℕ) (moved' : K → K → Summary → Type 0) where
  pub one_list : ScriptsHaveOneList tells holds moment left_since place moved tells' holds' moment' left_since' place'
      moved'
  one_list s t s' t' j j' k k' inputs replies replies' same whole whole' all all' =
      let first = script_replied tells holds moment left_since place moved s j inputs replies s' j' all whole in
      let second = script_replied tells' holds' moment' left_since' place' moved' t k inputs replies' t' k' all'
      whole' in
      let one = scripts inputs (sitting s) (sitting s') (sitting t') replies replies' first
      (subst (λ (x : machine.Sitting). machine.Replies x inputs replies' (sitting t')) (sym same)
      second) in
      (one.1, one.0)
