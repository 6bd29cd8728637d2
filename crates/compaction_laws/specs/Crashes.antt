-- To what a store is opened, whatever a crash left of it: to the state after a front part of its history.
use Rattle.std.specs.Prelude.{◌≡◌, ◌⊎◌, ℕ, List, take}
use Rattle.flow_core.specs.Summaries.{Summary, summary}
use Rattle.flow_core.specs.declared.state.Core.{Core}
use Rattle.flow_disk.specs.Images.{Image}
use Rattle.flow_disk.specs.Moments.{LeavesOnly}
use Rattle.flow_disk.specs.declared.disk.Slot.{Slot}
use Rattle.flow_model.specs.declared.transactions.Transaction.{Transaction}
use Rattle.flow_session.specs.Histories.{StandsFor, StandsAfterSome}
use Rattle.flow_session.specs.Inputs.{Given}
use Rattle.flow_session.specs.Leading.{LeadsBy}
use Rattle.flow_session.specs.Refusing.{IsOpenedTo}
use Rattle.flow_session.specs.Scripts.{ServesAll}
use Rattle.flow_session.specs.Serving.{Makes}
use Rattle.flow_session.specs.declared.serving.Session.{Session}
use Rattle.machine.specs.States.{State, blank}
use Rattle.machine_laws.specs.Viewed.{view}
use Rattle.machine_laws.specs.WholeStates.{IsWhole}
use Rattle.reopening_laws.specs.Making.{MadeByCommands}
use Rattle.compaction_laws.specs.Checkpoints.{summary_of}
use Rattle.compaction_laws.specs.Compact.{IsCompact}

-- the machine sees a state of the engine as the one after a front part of these transactions, which commands make
abbrev pub IsAfterSome : State → List Transaction → Core → Type 0
IsAfterSome s ts c = (n : ℕ) × (mid : State) × MadeByCommands s (take n ts) mid × (view c ≡ mid)

-- an image is opened to no state of the engine but such a one
abbrev pub OpensAfterSome : State → List Transaction → Image → Type 0
OpensAfterSome s ts image = (c : Core) → IsOpenedTo image c → IsAfterSome s ts c

-- Commands make transactions that lead from a state of the engine to another; and where the journal tells what a crash
-- leaves, that is opened to no state but the one after a front part of them.
pub record Resumes {J : Type 0} (tells : Type 0) (moment : J → ℕ) (left_since : J → ℕ → Image → Type 0) (old new : J)
    (c c' : Core) : Type 0 where
  pub transactions : List Transaction
  pub leads : LeadsBy c transactions c'
  pub made : MadeByCommands (view c) transactions (view c')
  pub any_moment : tells → LeavesOnly moment left_since old new (OpensAfterSome (view c) transactions)

-- a session begins with a state of the engine: a blank one, or one to which an image is opened
abbrev pub IsFirst : Core → Type 0
IsFirst c = ((queues : ℕ) × (limit : ℕ) × (view c ≡ blank queues limit)) ⊎ ((image : Image) × IsOpenedTo image c)

-- ---- laws

-- an image stands for one summary
abbrev pub ImagesStandForOne : Type 0
ImagesStandForOne = (s s' : Summary) (image : Image) → StandsFor s image → StandsFor s' image → s ≡ s'

-- where that is the summary of a compact state, the machine sees any state to which the image is opened as that state
abbrev pub ReopenedStatesAreOne : Type 0
ReopenedStatesAreOne =
    (s : State) (image : Image) (c : Core) → IsCompact s → StandsFor (summary_of s) image → IsOpenedTo image c
    → view c ≡ s

-- what a crash leaves of a history that commands make, from a compact state on, is opened to no state but the one after
-- a front part of the history
abbrev pub CrashesResume : Type 0
CrashesResume =
    (s s' : State) (ts : List Transaction) (image : Image) (c : Core) → IsCompact s → MadeByCommands s ts s'
    → StandsAfterSome (summary_of s) ts image → IsOpenedTo image c → IsAfterSome s ts c

-- So of a call whose transactions commands make, from a compact state on: where the journal tells what a crash leaves,
-- whatever that leaves at any moment since is opened to no state but the one after a front part of them.
abbrev pub CallsResume : {J : Type 0} → Type 0 → (J → ℕ) → (J → ℕ → Image → Type 0) → Type 0
CallsResume {J} tells moment left_since =
    (c : Core) (s' : State) (j j' : J) → IsCompact (view c)
    → (makes : Makes tells moment left_since j j' (summary c) (λ ts. MadeByCommands (view c) ts s'))
    → tells → LeavesOnly moment left_since j j' (OpensAfterSome (view c) makes.transactions)

-- so of a whole script, in a session whose state is whole and compact
abbrev pub ScriptsResume : {J : Type 0} → Type 0 → (J → Summary → Type 0) → (J → ℕ) → (J → ℕ → Image → Type 0)
    → (J → Slot × ℕ) → (J → J → Summary → Type 0) → Type 0
ScriptsResume {J} tells holds moment left_since place moved =
    (s : Session) (j : J) (inputs : List Given) (replies : List (List ℕ)) (s' : Session) (j' : J)
    → (tells → holds j (summary s.core))
    → ServesAll tells holds moment left_since place moved s j inputs replies s' j' → IsWhole s.core
    → IsCompact (view s.core) → Resumes tells moment left_since j j' s.core s'.core

-- the state with which a session begins is compact, and so is each to which commands lead from there
abbrev pub SessionsAreCompact : Type 0
SessionsAreCompact =
    (c : Core) (s : State) (ts : List Transaction) → IsFirst c → MadeByCommands (view c) ts s → IsCompact s
