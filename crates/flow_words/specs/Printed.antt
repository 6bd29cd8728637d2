-- What the words `check` and `fate` print.
use Rattle.std.specs.Prelude.{◌≡◌, ℕ, ◌≤◌, ◌⊎◌, true, false, if◌then◌else◌, Option, Some, None, List, [], ◌∷◌}
use Rattle.std.specs.Prelude.{codes, length, take}
use Rattle.std.specs.Io.KnownBytes.{Appends, Keeps}
use Rattle.text_words.specs.Answers.{Refuses, AnswersTree}
use Rattle.text_words.specs.FateAnswers.{AnswersText}
use Rattle.text_words.specs.Gathered.{IsGathered}
use Rattle.text_words.specs.Limits.{IsWithinLimit, IsBeyondLimit}
use Rattle.text_words.specs.declared.check.Answer.{Answer}
use Rattle.text_words.specs.declared.input.Input.{Input}
use Rattle.flow_words.specs.declared.status.Status.{Status}
use Rattle.flow_words.specs.declared.status.Status.TheVariants.{Done, Usage, Store, StoreFault, ReadFault, WriteFault}
use Rattle.flow_words.specs.declared.status.Status.TheVariants.{NoMemory, ScriptTooLong, Refused}

-- a front part of a text stands behind what the sink held
abbrev pub PrintsPart : Option (List ℕ) → Option (List ℕ) → List ℕ → Type 0
PrintsPart old new text = (n : ℕ) × (n ≤ length text) × Appends old new (take n text)

-- a text is printed and the word ends so, or the sink fails behind a front part of it
abbrev pub Prints : List ℕ → Status → Option (List ℕ) → Option (List ℕ) → Status → Type 0
Prints text status old new ended = (ended ≡ status) × Appends old new text ⊎ (ended ≡ WriteFault)
    × PrintsPart old new text

-- a word ends before it has an answer: as too long only where the source has more bytes than the limit
abbrev pub IsUnanswered : Option (List ℕ) → Status → Type 0
IsUnanswered left Done = ⊥
IsUnanswered left Usage = ⊥
IsUnanswered left Store = ⊥
IsUnanswered left StoreFault = ⊥
IsUnanswered left ReadFault = Unit {0}
IsUnanswered left WriteFault = ⊥
IsUnanswered left NoMemory = Unit {0}
IsUnanswered left ScriptTooLong = IsBeyondLimit left
IsUnanswered left Refused = ⊥

-- Refused where the answer refuses, else Done
abbrev pub answer_status : Answer → Status
answer_status answer = if answer.is_refused then Refused else Done

-- the text of an answer to what was read is printed; nothing is where the word ends before it has one
abbrev pub PrintsAnswer : Option (List ℕ) → (Input → Answer → Type 0) → Option (List ℕ) → Option (List ℕ) → Status
    → Type 0
PrintsAnswer left Answers old new ended =
    IsUnanswered left ended × Keeps old new ⊎ (input : Input) × (answer : Answer) × Answers input answer
    × Prints answer.text.items (answer_status answer) old new ended

-- what `check` answers, where all that the source had left is its text: its first line that is too long, else the
-- answer to its text
pub record IsCheckOf (left : Option (List ℕ)) (input : Input) (answer : Answer) : Type 0 where
  pub within : IsWithinLimit left
  pub gathered : IsGathered false left input
  pub long : (line : ℕ) → input.too_long ≡ Some line → Refuses answer (codes "LINE") (line ∷ [])
  pub judged : input.too_long ≡ None → AnswersTree input.text.items answer

-- what `fate` answers, where a line of what the source had left ends its text: its first line that is too long, else
-- that its text has no end, else the answer to its text
pub record IsFateOf (left : Option (List ℕ)) (input : Input) (answer : Answer) : Type 0 where
  pub within : IsWithinLimit left
  pub gathered : IsGathered true left input
  pub long : (line : ℕ) → input.too_long ≡ Some line → Refuses answer (codes "LINE") (line ∷ [])
  pub unended : input.too_long ≡ None → input.is_ended ≡ false → Refuses answer (codes "UNENDED") []
  pub judged : input.too_long ≡ None → input.is_ended ≡ true → AnswersText input.text.items answer input.behind.items
