-- What a run of the program does: the word that is said, and what is so of it.
use Rattle.std.specs.Prelude.{◌≡◌, ℕ, ◌++◌, ◌∷◌, [], Option, None, Some, List, codes}
use Rattle.flow_words.specs.Crashes.{LeavesAtCrash, LeavesDisk}
use Rattle.flow_words.specs.Endings.{IsCaused}
use Rattle.flow_words.specs.Following.{PrintsFollowed}
use Rattle.flow_words.specs.Loading.{PrintsLoaded}
use Rattle.flow_words.specs.Looking.{PrintsExplained, PrintsOverdue, PrintsVerified}
use Rattle.flow_words.specs.Making.{PrintsMade}
use Rattle.flow_words.specs.Outside.{Channels, Files, IfSettled}
use Rattle.flow_words.specs.Printed.{Prints, PrintsAnswer, IsCheckOf, IsFateOf}
use Rattle.flow_words.specs.Said.{IsSaid}
use Rattle.flow_words.specs.Scripts.{RunsStore, TriesScript}
use Rattle.flow_words.specs.Shipping.{PrintsShipped}
use Rattle.flow_words.specs.Statuses.{IsOneOf, statuses_of}
use Rattle.flow_words.specs.declared.status.Status.{Status}
use Rattle.flow_words.specs.declared.status.Status.TheVariants.{Done, Usage}
use Rattle.flow_words.specs.declared.word.Word.{Word}
use Rattle.flow_words.specs.declared.word.Word.TheVariants.{Check, Fate, Try, Load, New, Run, Follow, Explain, Verify}
use Rattle.flow_words.specs.declared.word.Word.TheVariants.{Overdue, Ship}

-- what is printed, by the word that is said; where none is, `no USAGE`
abbrev pub PrintsWord : {D : Type 0} → List (List ℕ) → Option Word → Channels → Files D → Status → Type 0
PrintsWord words None c f ended = Prints (codes "no USAGE\n") Usage c.held c.held' ended
PrintsWord words (Some Check) c f ended = PrintsAnswer c.left (IsCheckOf c.left) c.held c.held' ended
PrintsWord words (Some Fate) c f ended = PrintsAnswer c.left (IsFateOf c.left) c.held c.held' ended
PrintsWord words (Some (Try settings)) c f ended =
    TriesScript settings.queues settings.limit c.left c.held c.held' ended
PrintsWord words (Some (Load seed roots)) c f ended = PrintsLoaded seed roots c.held c.held' ended
PrintsWord words (Some (New settings)) c f ended = PrintsMade settings.queues settings.limit f c.held c.held' ended
PrintsWord words (Some Run) c f ended = RunsStore c f ended
PrintsWord words (Some Follow) c f ended = PrintsFollowed c f ended
PrintsWord words (Some Explain) c f ended =
    (front : List (List ℕ)) (activity : List ℕ) → words ≡ front ++ activity ∷ []
    → PrintsExplained activity f c.held c.held' ended
PrintsWord words (Some Verify) c f ended = PrintsVerified c f ended
PrintsWord words (Some Overdue) c f ended = PrintsOverdue f c.held c.held' ended
PrintsWord words (Some (Ship number)) c f ended = PrintsShipped number f c.held c.held' ended

-- what is left of the source: all, under a word that reads nothing, and where none is said
abbrev pub LeavesSource : Option Word → Channels → Type 0
LeavesSource None c = c.left' ≡ c.left
LeavesSource (Some (Load seed roots)) c = c.left' ≡ c.left
LeavesSource (Some (New settings)) c = c.left' ≡ c.left
LeavesSource (Some Explain) c = c.left' ≡ c.left
LeavesSource (Some Overdue) c = c.left' ≡ c.left
LeavesSource (Some (Ship number)) c = c.left' ≡ c.left
LeavesSource (Some word) c = Unit {0}

-- A run is correct: of the word that the words say, or of none where they say none, it prints what it ought to, it ends
-- so for a cause, a crash at any moment leaves what it may, and what the word doesn't need is left alone.
pub record RunIsCorrect {D : Type 0} (words : List (List ℕ)) (c : Channels) (f : Files D)
    (ended : Status) : Type 0 where
  pub word : Option Word
  pub said : IsSaid words word
  pub prints : PrintsWord words word c f ended
  pub statuses : IsOneOf ended (statuses_of word)
  pub causes : IsCaused word c f ended
  pub crash : IfSettled f (LeavesAtCrash word f (ended ≡ Done))
  pub source : LeavesSource word c
  pub untouched : LeavesDisk word f
