-- Transactions that a store adopts, one after the other.
use Rattle.std.specs.Prelude.{◌≡◌, ℕ, ◌+◌, List, [], ◌∷◌, Result, OnOk}
use Rattle.flow_disk.specs.Images.{Image}
use Rattle.flow_core.specs.Summaries.{summary}
use Rattle.flow_core.specs.declared.state.Core.{Core}
use Rattle.flow_model.specs.declared.transactions.Transaction.{Transaction}
use Rattle.flow_txn.specs.Ranges.{IsInRange}
use Rattle.core_laws.specs.RightStates.{IsRightCore}
use Rattle.flow_session.specs.Leading.{LeadsBy}
use Rattle.flow_session.specs.Serving.{Makes}
use Rattle.standby.specs.Stages.{Adopts}

-- a transaction is in range under the next number, and is adopted under it
abbrev pub AdoptsNext : Core → Transaction → Core → Type 0
AdoptsNext c t c' = IsInRange (c.number + 1) t × Adopts c (c.number + 1) t c'

-- these transactions, one after the other, are adopted so from a state on
abbrev pub AdoptsAll : Core → List Transaction → Core → Type 0
AdoptsAll c [] c' = c' ≡ c
AdoptsAll c (t ∷ ts) c' = (mid : Core) × AdoptsNext c t mid × AdoptsAll mid ts c'

-- these transactions lead from a state to another, and where the first state is right, each of them is adopted
pub record TakesAll (c : Core) (ts : List Transaction) (c' : Core) : Type 0 where
  pub leads : LeadsBy c ts c'
  pub adopts : IsRightCore c → AdoptsAll c ts c'

-- How a call ends that made these transactions: all of them are taken, up to a last state, which is the one after the
-- call where that succeeds.
pub record EndsTaken {T E : Type 0} (c c' : Core) (result : Result T E) (ts : List Transaction) : Type 0 where
  pub last : Core
  pub takes : TakesAll c ts last
  pub done : OnOk result (last ≡ c')

-- a call makes transactions that are taken, whether it succeeds or not
abbrev pub MakesTaken : {J T E : Type 0} → Type 0 → (J → ℕ) → (J → ℕ → Image → Type 0) → J → J → Core → Core
    → Result T E → Type 0
MakesTaken tells moment left_since old new c c' result =
    Makes tells moment left_since old new (summary c) (EndsTaken c c' result)
