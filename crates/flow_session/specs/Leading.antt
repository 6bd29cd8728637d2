-- The transactions that lead from one state to another: what a store keeps of them, and the run of the machine.
use Rattle.std.specs.Prelude.{◌≡◌, ℕ, List, Result, OnOk}
use Rattle.core_laws.specs.RightStates.{IsRightCore}
use Rattle.flow_core.specs.Summaries.{Summary, summary}
use Rattle.flow_core.specs.declared.state.Core.{Core}
use Rattle.flow_disk.specs.Images.{Image}
use Rattle.flow_model.specs.declared.transactions.Transaction.{Transaction}
use Rattle.machine.specs.Steps.{Runs}
use Rattle.machine_laws.specs.Viewed.{view}
use Rattle.machine_laws.specs.Keyed.{AreKeyed}
use Rattle.flow_session.specs.Histories.{after}
use Rattle.flow_session.specs.Serving.{Makes, KeepsMade}
use Rattle.flow_session.specs.declared.serving.Stop.{Stop}

-- These transactions, one after the other, lead from a state to another: the summary is the one after them, and a right
-- state stays right, each of them is a step of the machine, and the keys stay those of the live STARTs.
pub record LeadsBy (c : Core) (ts : List Transaction) (c' : Core) : Type 0 where
  pub came : summary c' ≡ after (summary c) ts
  pub right : IsRightCore c → IsRightCore c'
  pub steps : IsRightCore c → Runs (view c) ts (view c')
  pub keyed : IsRightCore c → AreKeyed c → AreKeyed c'

-- A call makes transactions, and where it succeeds they lead from the state before it to the one after it.
abbrev pub MakesSteps : {J T E : Type 0} → Type 0 → (J → ℕ) → (J → ℕ → Image → Type 0) → J → J → Core → Core
    → Result T E → Type 0
MakesSteps tells moment left_since old new c c' result =
    Makes tells moment left_since old new (summary c) (λ ts. OnOk result (LeadsBy c ts c'))

-- How a call ends that made these transactions: each was asked for; where the call succeeds they lead from the state
-- before it to the one after it; and the journal keeps them, as `KeepsMade` says.
pub record EndsAsked {J T : Type 0} (tells : Type 0) (holds : J → Summary → Type 0) (moment : J → ℕ)
    (left_since : J → ℕ → Image → Type 0) (journal : J) (c c' : Core) (IsAsked : List Transaction → Type 0)
    (result : Result T Stop) (ts : List Transaction) : Type 0 where
  pub asked : IsAsked ts
  pub leads : OnOk result (LeadsBy c ts c')
  pub kept : tells → KeepsMade holds moment left_since journal (summary c) ts result

-- a call makes transactions that are asked for, whether it succeeds or not
abbrev pub MakesAsked : {J T : Type 0} → Type 0 → (J → Summary → Type 0) → (J → ℕ) → (J → ℕ → Image → Type 0) → J → J
    → Core → Core → (List Transaction → Type 0) → Result T Stop → Type 0
MakesAsked tells holds moment left_since old new c c' IsAsked result =
    Makes tells moment left_since old new (summary c)
    (EndsAsked tells holds moment left_since new c c' IsAsked result)
