-- What `follow` prints.
use Rattle.std.specs.Prelude.{◌≡◌, ◌⊎◌, ℕ, List, Option, Result, Ok, Err, MatchResult}
use Rattle.std.specs.Io.KnownBytes.{Keeps}
use Rattle.flow_session.specs.Refusing.{IsUnopened}
use Rattle.standby.specs.Followed.{FollowsOpened, IsNotOpened}
use Rattle.standby.specs.Texts.{followed_line, follow_refusal_line}
use Rattle.standby.specs.declared.following.Followed.{Followed}
use Rattle.standby.specs.declared.stops.FollowStop.{FollowStop}
use Rattle.standby.specs.declared.stops.FollowStop.TheVariants as follow
use Rattle.flow_words.specs.Openings.{RefusesStore}
use Rattle.flow_words.specs.Outside.{Channels, Files, IfSettled, KeepsFiles}
use Rattle.flow_words.specs.Printed.{Prints}
use Rattle.flow_words.specs.declared.status.Status.{Status}
use Rattle.flow_words.specs.declared.status.Status.TheVariants.{Done, ReadFault, NoMemory, ScriptTooLong, Refused}

-- nothing is printed, and the word ends so
abbrev pub EndsSilent : Status → Option (List ℕ) → Option (List ℕ) → Status → Type 0
EndsSilent status held held' ended = (ended ≡ status) × Keeps held held'

-- a line is printed and the word ends so, or there is no memory for it
abbrev pub PrintsLine : List ℕ → Status → Option (List ℕ) → Option (List ℕ) → Status → Type 0
PrintsLine line status held held' ended = EndsSilent NoMemory held held' ended ⊎ Prints line status held held' ended

-- What is printed of a result of following: how far the store is now; or why it wasn't opened or the stream not
-- followed; nothing where the source failed or is too long, or where there was no memory.
abbrev pub PrintsResult : Result Followed FollowStop → Option (List ℕ) → Option (List ℕ) → Status → Type 0
PrintsResult (Ok followed) held held' ended = PrintsLine (followed_line followed) Done held held' ended
PrintsResult (Err (follow.Store stop)) held held' ended = RefusesStore stop held held' ended
PrintsResult (Err follow.ReadFault) held held' ended = EndsSilent ReadFault held held' ended
PrintsResult (Err follow.TooLong) held held' ended = EndsSilent ScriptTooLong held held' ended
PrintsResult (Err follow.NoMemory) held held' ended = EndsSilent NoMemory held held' ended
PrintsResult (Err stop) held held' ended = PrintsLine (follow_refusal_line stop) Refused held held' ended

-- the result of following: the store isn't opened, nothing is read, and a crash leaves what was there; or it is opened,
-- and the source is followed
abbrev pub ComesToResult : {D : Type 0} → Channels → Files D → Result Followed FollowStop → Type 0
ComesToResult c f result =
    (MatchResult result (λ _. ⊥) (IsNotOpened (λ stop. f.disk.tells → IsUnopened (f.disk.seen f.old) stop))
    × Keeps c.left c.left' × IfSettled f (KeepsFiles f))
    ⊎ FollowsOpened f.disk.tells f.disk.moment f.disk.left_since f.disk.seen f.disk.images f.old f.new
    c.left c.left' result

-- `follow`: the result of following is printed
pub record PrintsFollowed {D : Type 0} (c : Channels) (f : Files D) (ended : Status) : Type 0 where
  pub result : Result Followed FollowStop
  pub comes_to : ComesToResult c f result
  pub printed : PrintsResult result c.held c.held' ended
