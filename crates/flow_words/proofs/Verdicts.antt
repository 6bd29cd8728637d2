-- What is printed of a state.
use Rattle.std.proofs.Common.{◌≡◌, ℕ, Option, List, Bool, inl, inr, subst, sym, if◌then◌else◌}
use Rattle.std.specs.Global.{Vec}
use Rattle.flow_core.specs.declared.state.Core.{Core}
use Rattle.flow_io.specs.declared.lines.IoStop.{IoStop}
use Rattle.flow_io.specs.declared.lines.IoStop.TheVariants as stop
use Rattle.deadlines.specs.Texts.{IsOverdueText}
use Rattle.explain.specs.Explained.{ExplainsWord}
use Rattle.explain.specs.Verified.{IsVerified}
use Rattle.txn_log.specs.declared.stops.LogStop.TheVariants as log
use Rattle.text_words.specs.Gathered.{AreLines}
use Rattle.text_words.specs.Limits.{StopsBeyond}
use Rattle.flow_words.specs.Endings.{status_of}
use Rattle.flow_words.specs.Looking.{PrintsLate, PrintsReason, PrintsVerdict}
use Rattle.flow_words.specs.Openings.{IsUnserved}
use Rattle.flow_words.specs.Outside.{Files}
use Rattle.flow_words.specs.Printed.{Prints, IsUnanswered}
use Rattle.flow_words.specs.declared.status.Status.{Status}
use Rattle.flow_words.specs.declared.status.Status.TheVariants.{Done, NoMemory, Refused}
use Rattle.flow_words.proofs.Serving.{keeps_same}

module _ (held held' : Option (List ℕ)) (ended : Status) (core : Core) where
  -- the text of what is late
  pub prints_late : (of : Core) (text bytes : List ℕ) → of ≡ core → IsOverdueText of text → bytes ≡ text → Prints bytes Done held held' ended → PrintsLate held held' ended core
  prints_late of text bytes same is spelled printed = (text, subst (λ k. IsOverdueText k text) same is, subst (λ b. Prints b Done held held' ended) spelled printed)

  -- what is said of an activity
  pub prints_reason : (of : Core) (word text bytes : List ℕ) (refused : Bool) → of ≡ core → ExplainsWord of word text refused → bytes ≡ text → Prints bytes (if refused then Refused else Done) held held' ended → PrintsReason word held held' ended core
  prints_reason of word text bytes refused same is spelled printed =
      (text, refused, subst (λ k. ExplainsWord k word text refused) same is, subst (λ b. Prints b (if refused then Refused else Done) held held' ended) spelled printed)

  -- the verdict on all lines
  pub prints_verdict : (left : Option (List ℕ)) (lines read : List (Vec ℕ × Bool)) (text bytes : List ℕ) (refused : Bool) → AreLines left lines → read ≡ lines → IsVerified core read text refused → bytes ≡ text → Prints bytes (if refused then Refused else Done) held held' ended
      → PrintsVerdict left held held' ended core
  prints_verdict left lines read text bytes refused all same is spelled printed =
      inr (lines, all, (text, refused, subst (λ k. IsVerified core k text refused) same is, subst (λ b. Prints b (if refused then Refused else Done) held held' ended) spelled printed))

-- a source that isn't read to its end ends a word before it has an answer
pub unread : (left : Option (List ℕ)) (s : IoStop) → StopsBeyond left s → IsUnanswered left (status_of s)
unread left stop.ReadFault beyond = tt
unread left stop.ScriptTooLong beyond = beyond
unread left stop.NoMemory beyond = tt

-- then nothing is printed
pub no_verdict : (left held : Option (List ℕ)) (core : Core) (ended other : Status) → ended ≡ other → IsUnanswered left other → PrintsVerdict left held held ended core
no_verdict left held core ended other is unanswered = inl (subst (IsUnanswered left) (sym is) unanswered, keeps_same held)

-- without memory nothing is printed
pub no_memory : {D : Type 0} (f : Files D) (held : Option (List ℕ)) (ended : Status) → ended ≡ NoMemory → IsUnserved f held held ended
no_memory f held ended is = (log.NoMemory, (λ told. tt), inl (is, keeps_same held))
