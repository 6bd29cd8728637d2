-- That a store which the program made is opened again, whatever a crash left of it.
use Rattle.std.specs.Prelude.{◌≡◌, ◌⊎◌, ℕ, List, [], take}
use Rattle.flow_core.specs.Summaries.{Summary, summary}
use Rattle.flow_core.specs.declared.state.Core.{Core}
use Rattle.flow_disk.specs.Images.{Image}
use Rattle.flow_disk.specs.Moments.{LeavesOnly}
use Rattle.flow_disk.specs.declared.disk.Slot.{Slot}
use Rattle.flow_model.specs.declared.transactions.Transaction.{Transaction}
use Rattle.flow_session.specs.Fitting.{HasFitRecords, AreFitNow, AreFitFrom}
use Rattle.flow_session.specs.Histories.{StandsFor}
use Rattle.flow_session.specs.Inputs.{Given}
use Rattle.flow_session.specs.Leading.{LeadsBy}
use Rattle.flow_session.specs.Refusing.{IsOpenedTo, IsUnopened}
use Rattle.flow_session.specs.Scripts.{ServesAll}
use Rattle.flow_session.specs.Serving.{Makes}
use Rattle.flow_session.specs.declared.serving.Session.{Session}
use Rattle.machine.specs.States.{State, blank}
use Rattle.machine_laws.specs.Viewed.{view}
use Rattle.machine_laws.specs.WholeStates.{IsWhole}
use Rattle.reopening_laws.specs.Making.{MadeByCommands}
use Rattle.txn_log.specs.Stores.{Counts, store_of}
use Rattle.txn_log.specs.declared.header.Header.{Header}
use Rattle.txn_log.specs.declared.stops.LogStop.{LogStop}
use Rattle.txn_log.specs.declared.stops.LogStop.TheVariants.{StoreFault, NoMemory}
use Rattle.compaction_laws.specs.Checkpoints.{summary_of}
use Rattle.compaction_laws.specs.Compact.{IsMadeAnew}

-- nothing but a fault or want of memory keeps an image from being opened
abbrev pub IsOpenable : Image → Type 0
IsOpenable image = (stop : LogStop) → IsUnopened image stop → (stop ≡ StoreFault) ⊎ (stop ≡ NoMemory)

-- An image is a state's own: it stands for the summary of the state, whose live transactions are made again, and none
-- of its records is unfit.
pub record IsOwn (s : State) (image : Image) : Type 0 where
  pub anew : IsMadeAnew s
  pub stands : StandsFor (summary_of s) image
  pub fit : HasFitRecords image

-- whatever a crash leaves now is a state's own
abbrev pub AreOwnNow : {J : Type 0} → (J → ℕ) → (J → ℕ → Image → Type 0) → J → State → Type 0
AreOwnNow moment left_since journal s = (image : Image) → left_since journal (moment journal) image → IsOwn s image

-- an image is the own one of the state after a front part of these transactions, which commands make
abbrev pub IsOwnAfterSome : State → List Transaction → Image → Type 0
IsOwnAfterSome s ts image = (n : ℕ) × (mid : State) × MadeByCommands s (take n ts) mid × IsOwn mid image

-- Commands make transactions that lead from a state of the engine to another; and where the journal tells what a crash
-- leaves, that is the own image of the state after a front part of them.
pub record KeepsOwn {J : Type 0} (tells : Type 0) (moment : J → ℕ) (left_since : J → ℕ → Image → Type 0) (old new : J)
    (c c' : Core) : Type 0 where
  pub transactions : List Transaction
  pub leads : LeadsBy c transactions c'
  pub made : MadeByCommands (view c) transactions (view c')
  pub any_moment : tells → LeavesOnly moment left_since old new (IsOwnAfterSome (view c) transactions)

-- ---- laws of records

-- the records of transactions that commands make, from a state on whose live transactions are made again, are fit
abbrev pub HistoriesAreFit : Type 0
HistoriesAreFit =
    (s s' : State) (ts : List Transaction) → IsMadeAnew s → MadeByCommands s ts s' → AreFitFrom (summary_of s) ts

-- So whatever a crash leaves at any moment since of a call whose transactions commands make has fit records, where what
-- it left before had.
abbrev pub CrashesAreFit : {J : Type 0} → Type 0 → (J → ℕ) → (J → ℕ → Image → Type 0) → Type 0
CrashesAreFit {J} tells moment left_since =
    (c : Core) (s' : State) (j j' : J) → IsMadeAnew (view c)
    → Makes tells moment left_since j j' (summary c) (λ ts. MadeByCommands (view c) ts s')
    → tells → AreFitNow moment left_since j → LeavesOnly moment left_since j j' HasFitRecords

-- so it does of a whole script, in a session whose state is whole
abbrev pub ScriptsReopen : {J : Type 0} → Type 0 → (J → Summary → Type 0) → (J → ℕ) → (J → ℕ → Image → Type 0)
    → (J → Slot × ℕ) → (J → J → Summary → Type 0) → Type 0
ScriptsReopen {J} tells holds moment left_since place moved =
    (s : Session) (j : J) (inputs : List Given) (replies : List (List ℕ)) (s' : Session) (j' : J)
    → (tells → holds j (summary s.core))
    → ServesAll tells holds moment left_since place moved s j inputs replies s' j' → IsWhole s.core
    → IsMadeAnew (view s.core) → tells → AreFitNow moment left_since j
    → LeavesOnly moment left_since j j' HasFitRecords

-- an image that stands for a summary, and of which no record is unfit, is opened, unless a fault or want of memory
-- comes
abbrev pub FitImagesReopen : Type 0
FitImagesReopen = (s : Summary) (image : Image) → StandsFor s image → HasFitRecords image → IsOpenable image

-- ---- laws of own stores

-- an own image is opened, unless a fault or want of memory comes, to no state of the engine but one that the machine
-- sees as the state whose own it is
abbrev pub OwnStoresReopen : Type 0
OwnStoresReopen =
    (s : State) (image : Image) → IsOwn s image
    → IsOpenable image × ((c : Core) → IsOpenedTo image c → view c ≡ s)

-- Whatever a crash leaves at any moment since of a call whose transactions commands make is the own image of the state
-- after a front part of them, where what it left before was the own one of the state before them.
abbrev pub OwnStoresStay : {J : Type 0} → Type 0 → (J → ℕ) → (J → ℕ → Image → Type 0) → Type 0
OwnStoresStay {J} tells moment left_since =
    (c : Core) (s' : State) (j j' : J) → IsMadeAnew (view c) → AreOwnNow moment left_since j (view c)
    → (makes : Makes tells moment left_since j j' (summary c) (λ ts. MadeByCommands (view c) ts s'))
    → tells → LeavesOnly moment left_since j j' (IsOwnAfterSome (view c) makes.transactions)

-- And where the journal holds the summary at the end of such a call, whatever a crash leaves then is the own image of
-- the state to which the call led.
abbrev pub OwnStoresGoOn : {J : Type 0} → Type 0 → (J → Summary → Type 0) → (J → ℕ) → (J → ℕ → Image → Type 0) → Type 0
OwnStoresGoOn {J} tells holds moment left_since =
    (c c' : Core) (j j' : J) → IsMadeAnew (view c) → AreOwnNow moment left_since j (view c)
    → Makes tells moment left_since j j' (summary c) (λ ts. MadeByCommands (view c) ts (view c'))
    → tells → holds j' (summary c') → AreOwnNow moment left_since j' (view c')

-- so it stays in a whole script, in a session whose state is whole
abbrev pub OwnScriptsStay : {J : Type 0} → Type 0 → (J → Summary → Type 0) → (J → ℕ) → (J → ℕ → Image → Type 0)
    → (J → Slot × ℕ) → (J → J → Summary → Type 0) → Type 0
OwnScriptsStay {J} tells holds moment left_since place moved =
    (s : Session) (j : J) (inputs : List Given) (replies : List (List ℕ)) (s' : Session) (j' : J)
    → (tells → holds j (summary s.core))
    → ServesAll tells holds moment left_since place moved s j inputs replies s' j' → IsWhole s.core
    → IsMadeAnew (view s.core) → AreOwnNow moment left_since j (view s.core)
    → KeepsOwn tells moment left_since j j' s.core s'.core

-- a new store, whose header counts no transaction and no root and which has no record, is a blank state's own
abbrev pub NewStoresAreOwn : Type 0
NewStoresAreOwn =
    (image : Image) (slot : Slot) (h : Header) (end : ℕ) → store_of image ≡ Counts slot h [] end → h.transactions ≡ 0
    → h.roots ≡ 0 → IsOwn (blank h.queues h.limit) image
