-- How what is printed of an answer is what a word prints.
use Rattle.std.proofs.Common.{◌≡◌, ℕ, Option, Some, None, true, false, List, [], ◌∷◌, codes, Result, Ok, Err, IfOk, MatchResult, inl, inr, subst, sym}
use Rattle.std.specs.Io.KnownBytes.{Keeps}
use Rattle.text_words.specs.Answers.{Refuses, AnswersTree}
use Rattle.text_words.specs.FateAnswers.{AnswersText}
use Rattle.text_words.specs.Gathered.{IsGathered}
use Rattle.text_words.specs.Limits.{IsWithinLimit}
use Rattle.text_words.specs.declared.check.Answer.{Answer}
use Rattle.text_words.specs.declared.input.Input.{Input}
use Rattle.flow_words.specs.Printed.{Prints, PrintsAnswer, IsUnanswered, IsCheckOf, IsFateOf, answer_status}
use Rattle.flow_words.specs.declared.status.Status.{Status}
use Rattle.flow_words.specs.declared.status.Status.TheVariants.{NoMemory}

module _ {E : Type 0} (input : Input) where
  -- an answer is printed, or there was no memory for one
  pub prints_answer : (left : Option (List ℕ)) (Answers : Input → Answer → Type 0) (r : Result Answer E) (old new : Option (List ℕ)) (ended : Status) → IfOk r (Answers input)
      → MatchResult r (λ answer. Prints answer.text.items (answer_status answer) old new ended) (λ _. (ended ≡ NoMemory) × Keeps old new) → PrintsAnswer left Answers old new ended
  prints_answer left Answers (Ok answer) old new ended answers printed = inr (input, answer, answers, printed)
  prints_answer left Answers (Err e) old new ended answers printed = inl (subst (IsUnanswered left) (sym printed.0) tt, printed.1)

  -- the clauses of `read` and of `checked` together
  pub is_check : (left : Option (List ℕ)) (r : Result Answer E) → IsWithinLimit left → IsGathered false left input → ((line : ℕ) → input.too_long ≡ Some line → IfOk r (λ answer. Refuses answer (codes "LINE") (line ∷ []))) → (input.too_long ≡ None → IfOk r (AnswersTree input.text.items))
      → IfOk r (IsCheckOf left input)
  is_check left (Ok answer) within gathered long judged = record { within = within; gathered = gathered; long = long; judged = judged }
  is_check left (Err e) within gathered long judged = tt

  -- the clauses of `read` and of `fated` together
  pub is_fate : (left : Option (List ℕ)) (r : Result Answer E) → IsWithinLimit left → IsGathered true left input → ((line : ℕ) → input.too_long ≡ Some line → IfOk r (λ answer. Refuses answer (codes "LINE") (line ∷ [])))
      → (input.too_long ≡ None → input.is_ended ≡ false → IfOk r (λ answer. Refuses answer (codes "UNENDED") []))
      → (input.too_long ≡ None → input.is_ended ≡ true → IfOk r (λ answer. AnswersText input.text.items answer input.behind.items))
      → IfOk r (IsFateOf left input)
  is_fate left (Ok answer) within gathered long unended judged = record { within = within; gathered = gathered; long = long; unended = unended; judged = judged }
  is_fate left (Err e) within gathered long unended judged = tt
