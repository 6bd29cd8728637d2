-- What a crash leaves of a run of the program over a store: a store that is opened again, to a state to which commands
-- led.
use Rattle.std.specs.Prelude.{◌≡◌, ◌⊎◌, ℕ, List, [], ◌++◌, take, Option, Some, None}
use Rattle.flow_core.specs.declared.state.Core.{Core}
use Rattle.flow_disk.specs.Images.{Image}
use Rattle.flow_disk.specs.Moments.{LeavesOnly, Only}
use Rattle.flow_disk.specs.declared.disk.Disk.{Ghosts}
use Rattle.flow_model.specs.declared.transactions.Transaction.{Transaction}
use Rattle.flow_session.specs.Inputs.{Given, Unended}
use Rattle.flow_session.specs.Refusing.{IsOpenedTo}
use Rattle.flow_words.specs.Correct.{RunIsCorrect}
use Rattle.flow_words.specs.Openings.{IsUnserved}
use Rattle.flow_words.specs.Outside.{Channels, Files, files}
use Rattle.flow_words.specs.Printed.{PrintsPart}
use Rattle.flow_words.specs.Scripts.{AreFirst, all_replies, RunsStore}
use Rattle.flow_words.specs.declared.status.Status.{Status}
use Rattle.flow_words.specs.declared.status.Status.TheVariants.{Done}
use Rattle.flow_words.specs.declared.word.Word.TheVariants.{Run}
use Rattle.machine.specs.Scripts.{Replies}
use Rattle.machine.specs.States.{State}
use Rattle.machine_laws.specs.Viewed.{view}
use Rattle.reopening_laws.specs.Making.{MadeByCommands}
use Rattle.compaction_laws.specs.OwnStores.{IsOpenable, IsOwn, IsOwnAfterSome}

-- The first inputs of a script are answered: the machine replies so to them from the one state on, which leads it to
-- the other one, and a front part of the replies is printed.
pub record IsAnswered (c : Channels) (s last : State) : Type 0 where
  pub inputs : List Given
  pub others : List Given
  pub replies : List (List ℕ)
  pub unended : Option Unended
  pub read : AreFirst c.left inputs others
  pub replied : Replies (record { state = s; unended = None }) inputs replies
      (record { state = last; unended = unended })
  pub printed : PrintsPart c.held c.held' (all_replies replies)

-- A run keeps a state's own store: commands make the transactions that were answered, and from there those of the call
-- in which the run stops, none where it ends well. Whatever a crash leaves at any moment of the run is the own image of
-- the state after a front part of them all, and behind the run, of the state after all that were answered and some of
-- the others. The inputs are answered as the machine answers them; or the store isn't opened.
pub record RunKeepsOwn {D : Type 0} (c : Channels) (f : Files D) (s : State) (ended : Status) : Type 0 where
  pub answered : List Transaction
  pub last : State
  pub made : MadeByCommands s answered last
  pub under_way : List Transaction
  pub behind : State
  pub stops : MadeByCommands last under_way behind
  pub any_moment : LeavesOnly f.disk.moment f.disk.left_since f.old f.new (IsOwnAfterSome s (answered ++ under_way))
  pub over : (image : Image) → f.disk.images f.new image → IsOwnAfterSome last under_way image
  pub done : ended ≡ Done → under_way ≡ []
  pub replies : IsUnserved f c.held c.held' ended ⊎ IsAnswered c s last

-- an image is a state's own, and it is opened, unless a fault or want of memory comes, to no state of the engine but
-- one that the machine sees as that state
pub record IsReopenedTo (s : State) (image : Image) : Type 0 where
  pub own : IsOwn s image
  pub openable : IsOpenable image
  pub opened : (c : Core) → IsOpenedTo image c → view c ≡ s

-- so it is of the state after a front part of these transactions, which commands make
abbrev pub IsReopenedAfterSome : State → List Transaction → Image → Type 0
IsReopenedAfterSome s ts image = (n : ℕ) × (mid : State) × MadeByCommands s (take n ts) mid × IsReopenedTo mid image

-- so is whatever a crash leaves at any moment of a run
abbrev pub LeavesReopening : {D : Type 0} → Files D → State → List Transaction → Type 0
LeavesReopening f s ts = LeavesOnly f.disk.moment f.disk.left_since f.old f.new (IsReopenedAfterSome s ts)

-- where the disk tells, and a crash leaves nothing but what a read gives
abbrev pub IsSettled : {D : Type 0} → Ghosts D → D → Type 0
IsSettled g disk = g.tells × Only (g.seen disk) (g.images disk)

-- ---- laws

-- a run over a store that is a state's own keeps it so
abbrev pub RunsKeepOwn : {D : Type 0} → Ghosts D → Type 0
RunsKeepOwn {D} g =
    (c : Channels) (old new : D) (ended : Status) (s : State) → IsSettled g old → IsOwn s (g.seen old)
    → RunsStore c (files g old new) ended → RunKeepsOwn c (files g old new) s ended

-- and whatever a crash leaves of it is opened again, unless a fault or want of memory comes, to no state but one to
-- which commands led
abbrev pub RunsReopen : {D : Type 0} → Ghosts D → Type 0
RunsReopen {D} g =
    (c : Channels) (old new : D) (ended : Status) (s : State) (keeps : RunKeepsOwn c (files g old new) s ended)
    → LeavesReopening (files g old new) s (keeps.answered ++ keeps.under_way)

-- so it is of each run of the program that is correct, where the words say `run`
abbrev pub CorrectRunsKeepOwn : {D : Type 0} → Ghosts D → Type 0
CorrectRunsKeepOwn {D} g =
    (words : List (List ℕ)) (c : Channels) (old new : D) (ended : Status) (s : State) → IsSettled g old
    → IsOwn s (g.seen old) → (correct : RunIsCorrect words c (files g old new) ended) → correct.word ≡ Some Run
    → (keeps : RunKeepsOwn c (files g old new) s ended)
    × LeavesReopening (files g old new) s (keeps.answered ++ keeps.under_way)
