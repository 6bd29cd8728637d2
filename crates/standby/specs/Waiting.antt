-- Transactions that are adopted and wait to be kept.
use Rattle.std.specs.Prelude.{◌≡◌, ◌⊎◌, ℕ, ◌+◌, List, ◌++◌, Option, Result, MatchResult}
use Rattle.core_laws.specs.RightStates.{IsRightCore}
use Rattle.flow_core.specs.Summaries.{summary}
use Rattle.flow_core.specs.declared.state.Core.{Core}
use Rattle.flow_disk.specs.Images.{Image}
use Rattle.flow_model.specs.declared.transactions.Transaction.{Transaction}
use Rattle.flow_session.specs.Histories.{AreInRangeBehind, StandsFor, payloads_behind}
use Rattle.flow_session.specs.declared.serving.Stop.{Stop}
use Rattle.flow_session.specs.declared.serving.Stop.TheVariants as journal
use Rattle.txn_log.specs.declared.stops.LogStop.TheVariants.{StoreFault}
use Rattle.standby.specs.Adopting.{TakesAll}
use Rattle.standby.specs.Readers.{HandsOut, Reader}
use Rattle.standby.specs.Stages.{Reaches, TakesPayload, stage}
use Rattle.standby.specs.declared.stops.FollowStop.{FollowStop}
use Rattle.standby.specs.declared.stops.FollowStop.TheVariants.{Store, NoMemory}

-- transactions in range are taken from a state on up to another, and their payloads stand in a batch behind those that
-- were there
pub record Waits (c : Core) (old : List (List ℕ)) (c' : Core) (new : List (List ℕ)) : Type 0 where
  pub transactions : List Transaction
  pub takes : TakesAll c transactions c'
  pub fits : AreInRangeBehind c.number transactions
  pub put : new ≡ old ++ payloads_behind c.number transactions

-- a call leaves transactions waiting for the state after it, where it succeeds; else for some state
abbrev pub WaitsBehind : {T E : Type 0} → Core → List (List ℕ) → Core → List (List ℕ) → Result T E → Type 0
WaitsBehind c old c' new result = MatchResult result (λ _. Waits c old c' new) (λ _. (d : Core) × Waits c old d new)

-- Frames behind a number that are held are handed out. They lead to a stage, wherever the source is, and transactions
-- wait for its state.
pub record WaitsAt (last : ℕ) (reader : Reader) (c : Core) (taken : ℕ) (old : List (List ℕ)) (reader' : Reader)
    (new : List (List ℕ)) : Type 0 where
  pub core : Core
  pub count : ℕ
  pub number : ℕ
  pub hands : HandsOut reader reader'
  pub waits : Waits c old core new
  pub reached : IsRightCore c → (left : Option (List ℕ))
      → Reaches (stage c taken last reader left) (stage core count number reader' left)

-- The payload of the frame behind a number is taken, and from there on frames that are held: wherever the source is.
pub record TakesOn (last : ℕ) (payload : List ℕ) (reader : Reader) (c : Core) (taken : ℕ)
    (last' : ℕ) (reader' : Reader) (c' : Core) (taken' : ℕ) : Type 0 where
  pub mid : Core
  pub count : ℕ
  pub first : TakesPayload (last + 1) payload c taken mid count
  pub behind : (left : Option (List ℕ))
      → Reaches (stage mid count (last + 1) reader left) (stage c' taken' last' reader' left)

-- the same up to some state, of which this is so
pub record TakesUpTo (last : ℕ) (payload : List ℕ) (reader : Reader) (c : Core) (taken : ℕ)
    (IsSo : Core → Type 0) : Type 0 where
  pub core : Core
  pub count : ℕ
  pub number : ℕ
  pub next : Reader
  pub hands : HandsOut reader next
  pub takes : TakesOn last payload reader c taken number next core count
  pub so : IsSo core

-- an image stands for a state, or for the one up to which the frame behind a number is taken and frames that are held
abbrev pub StandsUpTo : ℕ → List ℕ → Reader → Core → ℕ → Image → Type 0
StandsUpTo last payload reader c taken image =
    StandsFor (summary c) image ⊎ TakesUpTo last payload reader c taken (λ core. StandsFor (summary core) image)

-- what is known of a state for which transactions waited where a call stops: after a fault of the store they may be
-- kept; where there was no memory for more, they are
abbrev pub IsKeptBy : FollowStop → (Core → Type 0) → (Core → Type 0) → Core → Type 0
IsKeptBy (Store stop) IsKept MayBe = MayBe
IsKeptBy NoMemory IsKept MayBe = IsKept
IsKeptBy stop IsKept MayBe = λ _. ⊥

-- how following ends where the journal keeps no record
abbrev pub IsUnkept : Stop → FollowStop → Type 0
IsUnkept journal.StoreFault stop = stop ≡ Store StoreFault
IsUnkept journal.NoMemory stop = stop ≡ NoMemory

-- a state and the number of transactions taken are unchanged by what stops, unless there was no memory
abbrev pub IsUnchanged : FollowStop → Core → ℕ → Core → ℕ → Type 0
IsUnchanged NoMemory c taken c' taken' = Unit {0}
IsUnchanged stop c taken c' taken' = (c' ≡ c) × (taken' ≡ taken)
