-- What a word prints that looks into a store.
use Rattle.std.specs.Prelude.{◌⊎◌, ℕ, ◌≤◌, Bool, if◌then◌else◌, Option, List, codes}
use Rattle.std.specs.Global.{Vec}
use Rattle.std.specs.Io.KnownBytes.{Keeps}
use Rattle.flow_disk.specs.Moments.{Only}
use Rattle.flow_core.specs.Summaries.{summary}
use Rattle.flow_core.specs.declared.state.Core.{Core}
use Rattle.flow_session.specs.Histories.{StandsFor}
use Rattle.flow_session.specs.Replaying.{Replays}
use Rattle.worklist_laws.specs.Shelved.{IsRightAndListed}
use Rattle.deadlines.specs.Texts.{IsOverdueText}
use Rattle.certificates.specs.Naming.{NamesNoActivity}
use Rattle.explain.specs.Explained.{ExplainsWord}
use Rattle.explain.specs.Verified.{IsVerified}
use Rattle.text_words.specs.Gathered.{AreLines}
use Rattle.flow_words.specs.Openings.{IsUnserved}
use Rattle.flow_words.specs.Outside.{Channels, Files, KeepsFiles}
use Rattle.flow_words.specs.Printed.{Prints, IsUnanswered}
use Rattle.flow_words.specs.declared.status.Status.{Status}
use Rattle.flow_words.specs.declared.status.Status.TheVariants.{Done, Usage, Refused}

-- A store is opened, which leaves what was there, and this is printed of the state for which it stands: the one to
-- which its records come by the steps of the machine.
pub record LooksInto {D : Type 0} (f : Files D) (IsPrinted : Core → Type 0) : Type 0 where
  pub core : Core
  pub keeps : Only (f.disk.seen f.old) (f.disk.images f.old) → KeepsFiles f
  pub stood : f.disk.tells → StandsFor (summary core) (f.disk.seen f.old)
  pub state : f.disk.tells → Replays (f.disk.seen f.old) core
  pub right : 1 ≤ (summary core).queues → IsRightAndListed core
  pub printed : IsPrinted core

-- the text of exactly the late items of a state is printed
abbrev pub PrintsLate : Option (List ℕ) → Option (List ℕ) → Status → Core → Type 0
PrintsLate held held' ended core = (text : List ℕ) × IsOverdueText core text × Prints text Done held held' ended

-- `overdue`: the store isn't opened or there is no memory; or it is, and what is late in its state is printed
abbrev pub PrintsOverdue : {D : Type 0} → Files D → Option (List ℕ) → Option (List ℕ) → Status → Type 0
PrintsOverdue f held held' ended = IsUnserved f held held' ended ⊎ LooksInto f (PrintsLate held held' ended)

-- the lines of the source are read to their end, and the verdict on them by a state is printed; or nothing is
abbrev pub PrintsVerdict : Option (List ℕ) → Option (List ℕ) → Option (List ℕ) → Status → Core → Type 0
PrintsVerdict left held held' ended core =
    IsUnanswered left ended × Keeps held held'
    ⊎ (lines : List (Vec ℕ × Bool)) × AreLines left lines
    × ((text : List ℕ) × (refused : Bool) × IsVerified core lines text refused
    × Prints text (if refused then Refused else Done) held held' ended)

-- `verify`: the store isn't opened; or it is, and the verdict on the lines of the source is printed
abbrev pub PrintsVerified : {D : Type 0} → Channels → Files D → Status → Type 0
PrintsVerified c f ended =
    IsUnserved f c.held c.held' ended ⊎ LooksInto f (PrintsVerdict c.left c.held c.held' ended)

-- why the activity that a word names is dead or finished by a state is printed, or that it has no certificate
abbrev pub PrintsReason : List ℕ → Option (List ℕ) → Option (List ℕ) → Status → Core → Type 0
PrintsReason word held held' ended core =
    (text : List ℕ) × (refused : Bool) × ExplainsWord core word text refused
    × Prints text (if refused then Refused else Done) held held' ended

-- `explain`: the word names no activity, and that is printed; the store isn't opened or there is no memory; or it is,
-- and what its state says of the activity is printed
abbrev pub PrintsExplained : {D : Type 0} → List ℕ → Files D → Option (List ℕ) → Option (List ℕ) → Status → Type 0
PrintsExplained word f held held' ended =
    (NamesNoActivity word × Prints (codes "no USAGE\n") Usage held held' ended)
    ⊎ IsUnserved f held held' ended ⊎ LooksInto f (PrintsReason word held held' ended)
