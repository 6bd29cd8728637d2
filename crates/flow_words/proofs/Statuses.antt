-- Which statuses a run may end with, by what it prints.
use Rattle.std.proofs.Common.{◌≡◌, ℕ, Bool, true, false, if◌then◌else◌, Option, None, Some, List, [], ◌∷◌, ◌++◌, codes, Result, Ok, Err, inl, inr, refl, sym, subst, ap}
use Rattle.flow_core.specs.declared.state.Core.{Core}
use Rattle.standby.specs.declared.following.Followed.{Followed}
use Rattle.standby.specs.declared.stops.FollowStop.{FollowStop}
use Rattle.standby.specs.declared.stops.FollowStop.TheVariants as follow
use Rattle.standby.specs.declared.stops.ShipStop.{ShipStop}
use Rattle.standby.specs.declared.stops.ShipStop.TheVariants as ship
use Rattle.text_words.specs.declared.check.Answer.{Answer}
use Rattle.text_words.specs.declared.input.Input.{Input}
use Rattle.txn_log.specs.declared.stops.LogStop.{LogStop}
use Rattle.txn_log.specs.declared.stops.LogStop.TheVariants as log
use Rattle.flow_words.specs.Correct.{PrintsWord}
use Rattle.flow_words.specs.Endings.{EndCause, IsCaused, StopsScript}
use Rattle.flow_words.specs.Following.{PrintsLine, PrintsResult}
use Rattle.flow_words.specs.Loading.{PrintsLoaded}
use Rattle.flow_words.specs.Looking.{PrintsVerdict, PrintsReason, PrintsLate, PrintsExplained, PrintsOverdue, PrintsVerified}
use Rattle.flow_words.specs.Making.{PrintsMade}
use Rattle.flow_words.specs.Openings.{RefusesStore, IsUnserved}
use Rattle.flow_words.specs.Outside.{Channels, Files}
use Rattle.flow_words.specs.Printed.{Prints, PrintsAnswer, IsUnanswered}
use Rattle.flow_words.specs.Said.{Say}
use Rattle.flow_words.specs.Scripts.{EndsAs, RunsStore}
use Rattle.flow_words.specs.Shipping.{EndsShipping}
use Rattle.flow_words.specs.Statuses.{IsOneOf, script_ends, store_ends, statuses_of}
use Rattle.flow_words.specs.declared.status.Status.{Status}
use Rattle.flow_words.specs.declared.status.Status.TheVariants.{Done, Usage, Store, StoreFault, ReadFault, WriteFault, NoMemory, ScriptTooLong, Refused}
use Rattle.flow_words.specs.declared.word.Word.{Word}
use Rattle.flow_words.specs.declared.word.Word.TheVariants.{Check, Fate, Try, Load, New, Run, Follow, Explain, Verify, Overdue, Ship}

-- what is so of each status that a part of a word may end with, is so of the one that it ends with
module _ (IsSo : Status → Type 0) (ended : Status) where
  by_text : (text : List ℕ) (status : Status) (held held' : Option (List ℕ)) → Prints text status held held' ended → IsSo status → IsSo WriteFault → IsSo ended
  by_text text status held held' (inl printed) so fault = subst IsSo (sym printed.0) so
  by_text text status held held' (inr part) so fault = subst IsSo (sym part.0) fault

  by_either : (refused : Bool) → IsSo Refused → IsSo Done → IsSo (if refused then Refused else Done)
  by_either true refuses answers = refuses
  by_either false refuses answers = answers

  by_refusal : (stop : LogStop) (held held' : Option (List ℕ)) → RefusesStore stop held held' ended → IsSo Store → IsSo StoreFault → IsSo WriteFault → IsSo NoMemory → IsSo ended
  by_refusal stop held held' (inl none) store fault write memory = subst IsSo (sym none.0) memory
  by_refusal log.Unmade held held' (inr printed) store fault write memory = by_text _ Store held held' printed store write
  by_refusal log.Made held held' (inr printed) store fault write memory = by_text _ Store held held' printed store write
  by_refusal (log.Foreign slot) held held' (inr printed) store fault write memory = by_text _ Store held held' printed store write
  by_refusal (log.Damaged slot place) held held' (inr printed) store fault write memory = by_text _ Store held held' printed store write
  by_refusal log.StoreFault held held' (inr silent) store fault write memory = subst IsSo (sym silent.0) fault
  by_refusal log.NoMemory held held' (inr silent) store fault write memory = subst IsSo (sym silent.0) memory

  by_unserved : {D : Type 0} (f : Files D) (held held' : Option (List ℕ)) → IsUnserved f held held' ended → IsSo Store → IsSo StoreFault → IsSo WriteFault → IsSo NoMemory → IsSo ended
  by_unserved f held held' (stop, told, refused) store fault write memory = by_refusal stop held held' refused store fault write memory

  by_line : (line : List ℕ) (status : Status) (held held' : Option (List ℕ)) → PrintsLine line status held held' ended → IsSo status → IsSo WriteFault → IsSo NoMemory → IsSo ended
  by_line line status held held' (inl none) so write memory = subst IsSo (sym none.0) memory
  by_line line status held held' (inr printed) so write memory = by_text line status held held' printed so write

  by_script : (served : Result (Unit {0}) Status) → EndsAs served ended → IsSo Done → ((fault : Status) → StopsScript fault → IsSo fault) → IsSo ended
  by_script (Ok tt) ends done stops = subst IsSo (sym ends) done
  by_script (Err fault) (is, stop) done stops = subst IsSo (sym is) (stops fault stop)

-- the status of a word that has no answer
unanswered : (IsSo : Status → Type 0) (left : Option (List ℕ)) (ended : Status) → IsUnanswered left ended → IsSo ReadFault → IsSo NoMemory → IsSo ScriptTooLong → IsSo ended
unanswered IsSo left Done h read memory long = absurd h
unanswered IsSo left Usage h read memory long = absurd h
unanswered IsSo left Store h read memory long = absurd h
unanswered IsSo left StoreFault h read memory long = absurd h
unanswered IsSo left ReadFault h read memory long = read
unanswered IsSo left WriteFault h read memory long = absurd h
unanswered IsSo left NoMemory h read memory long = memory
unanswered IsSo left ScriptTooLong h read memory long = long
unanswered IsSo left Refused h read memory long = absurd h

-- the status that stops a script
stopped : (IsSo : Status → Type 0) (status : Status) → StopsScript status → IsSo StoreFault → IsSo ReadFault → IsSo WriteFault → IsSo NoMemory → IsSo ScriptTooLong → IsSo status
stopped IsSo Done h store read write memory long = absurd h
stopped IsSo Usage h store read write memory long = absurd h
stopped IsSo Store h store read write memory long = absurd h
stopped IsSo StoreFault h store read write memory long = store
stopped IsSo ReadFault h store read write memory long = read
stopped IsSo WriteFault h store read write memory long = write
stopped IsSo NoMemory h store read write memory long = memory
stopped IsSo ScriptTooLong h store read write memory long = long
stopped IsSo Refused h store read write memory long = absurd h

-- ---- by word

answer_ends : (IsSo : Status → Type 0) (left : Option (List ℕ)) (Answers : Input → Answer → Type 0) (held held' : Option (List ℕ)) (ended : Status) → PrintsAnswer left Answers held held' ended
    → IsSo Refused → IsSo Done → IsSo ReadFault → IsSo WriteFault → IsSo NoMemory → IsSo ScriptTooLong → IsSo ended
answer_ends IsSo left Answers held held' ended (inl (none, keeps)) refuses ends read write memory long = unanswered IsSo left ended none read memory long
answer_ends IsSo left Answers held held' ended (inr (input, answer, answers, printed)) refuses ends read write memory long =
    by_text IsSo ended answer.text.items (if answer.is_refused then Refused else Done) held held' printed (by_either IsSo ended answer.is_refused refuses ends) write

-- ---- scripts

-- a script and its word, over a list of statuses that has those of a script
script_ends_so : (IsSo : Status → Type 0) (served : Result (Unit {0}) Status) (ended : Status) → EndsAs served ended → IsSo Done → IsSo StoreFault → IsSo ReadFault → IsSo WriteFault → IsSo NoMemory → IsSo ScriptTooLong → IsSo ended
script_ends_so IsSo served ended ends done store read write memory long =
    by_script IsSo ended served ends done (λ fault stops. stopped IsSo fault stops store read write memory long)

-- `try` never ends by a fault of a store
try_ends : (read read' put put' : ℕ) (served : Result (Unit {0}) Status) (ended : Status) → EndsAs served ended → EndCause read read' put put' ended → IsOneOf ended script_ends
try_ends read read' put put' served ended ends cause =
    script_ends_so (λ s. EndCause read read' put put' s → IsOneOf s script_ends) served ended ends (λ h. inl refl) (λ h. absurd h) (λ h. inr (inl refl)) (λ h. inr (inr (inl refl))) (λ h. inr (inr (inr (inl refl)))) (λ h. inr (inr (inr (inr (inl refl))))) cause

-- ---- streams

abbrev FollowsTo : Status → Type 0
FollowsTo status = IsOneOf status (Refused ∷ Store ∷ StoreFault ∷ script_ends)

write_ends : FollowsTo WriteFault
write_ends = inr (inr (inr (inr (inr (inl refl)))))

memory_ends : FollowsTo NoMemory
memory_ends = inr (inr (inr (inr (inr (inr (inl refl))))))

refused_ends : (line : List ℕ) (held held' : Option (List ℕ)) (ended : Status) → PrintsLine line Refused held held' ended → FollowsTo ended
refused_ends line held held' ended printed = by_line FollowsTo ended line Refused held held' printed (inl refl) write_ends memory_ends

result_ends : (result : Result Followed FollowStop) (held held' : Option (List ℕ)) (ended : Status) → PrintsResult result held held' ended → FollowsTo ended
result_ends (Ok followed) held held' ended printed = by_line FollowsTo ended _ Done held held' printed (inr (inr (inr (inl refl)))) write_ends memory_ends
result_ends (Err (follow.Store stop)) held held' ended printed = by_refusal FollowsTo ended stop held held' printed (inr (inl refl)) (inr (inr (inl refl))) write_ends memory_ends
result_ends (Err follow.ReadFault) held held' ended silent = inr (inr (inr (inr (inl silent.0))))
result_ends (Err follow.TooLong) held held' ended silent = inr (inr (inr (inr (inr (inr (inr (inl silent.0)))))))
result_ends (Err follow.NoMemory) held held' ended silent = inr (inr (inr (inr (inr (inr (inl silent.0))))))
result_ends (Err (follow.Frame place)) held held' ended printed = refused_ends _ held held' ended printed
result_ends (Err (follow.Cut number)) held held' ended printed = refused_ends _ held held' ended printed
result_ends (Err follow.Other) held held' ended printed = refused_ends _ held held' ended printed
result_ends (Err (follow.Gap number)) held held' ended printed = refused_ends _ held held' ended printed
result_ends (Err (follow.NotAllowed number)) held held' ended printed = refused_ends _ held held' ended printed

abbrev ShipsAs : Status → Type 0
ShipsAs status = IsOneOf status (Refused ∷ store_ends)

shipping_ends : (result : Result ℕ ShipStop) (held held' : Option (List ℕ)) (ended : Status) → EndsShipping result held held' ended → ShipsAs ended
shipping_ends (Ok count) held held' ended silent = inr (inl silent.0)
shipping_ends (Err (ship.Store stop)) held held' ended printed =
    by_refusal ShipsAs ended stop held held' printed (inr (inr (inl refl))) (inr (inr (inr (inl refl)))) (inr (inr (inr (inr (inl refl))))) (inr (inr (inr (inr (inr (inl refl))))))
shipping_ends (Err (ship.Gone kept)) held held' ended printed = by_line ShipsAs ended _ Refused held held' printed (inl refl) (inr (inr (inr (inr (inl refl))))) (inr (inr (inr (inr (inr (inl refl))))))
shipping_ends (Err (ship.Ahead number)) held held' ended printed = by_line ShipsAs ended _ Refused held held' printed (inl refl) (inr (inr (inr (inr (inl refl))))) (inr (inr (inr (inr (inr (inl refl))))))
shipping_ends (Err ship.WriteFault) held held' ended silent = inr (inr (inr (inr (inl silent.0))))
shipping_ends (Err ship.NoMemory) held held' ended silent = inr (inr (inr (inr (inr (inl silent.0)))))

-- ---- stores

abbrev StoreEnds : Status → Type 0
StoreEnds status = IsOneOf status store_ends

made_ends : {D : Type 0} (queues limit : ℕ) (f : Files D) (held held' : Option (List ℕ)) (ended : Status) → PrintsMade queues limit f held held' ended → StoreEnds ended
made_ends queues limit f held held' ended (inl made) = by_text StoreEnds ended (codes "ok NEW\n") Done held held' made.printed (inl refl) (inr (inr (inr (inl refl))))
made_ends queues limit f held held' ended (inr none) = by_refusal StoreEnds ended none.stop held held' none.refused (inr (inl refl)) (inr (inr (inl refl))) (inr (inr (inr (inl refl)))) (inr (inr (inr (inr (inl refl)))))

overdue_ends : {D : Type 0} (f : Files D) (held held' : Option (List ℕ)) (ended : Status) → PrintsOverdue f held held' ended → StoreEnds ended
overdue_ends f held held' ended (inl none) = by_unserved StoreEnds ended f held held' none (inr (inl refl)) (inr (inr (inl refl))) (inr (inr (inr (inl refl)))) (inr (inr (inr (inr (inl refl)))))
overdue_ends f held held' ended (inr looks) = late looks.printed
  where
    late : PrintsLate held held' ended looks.core → StoreEnds ended
    late (text, is, printed) = by_text StoreEnds ended text Done held held' printed (inl refl) (inr (inr (inr (inl refl))))

abbrev ExplainsTo : Status → Type 0
ExplainsTo status = IsOneOf status (Usage ∷ Refused ∷ store_ends)

reason_ends : (word : List ℕ) (held held' : Option (List ℕ)) (ended : Status) (core : Core) → PrintsReason word held held' ended core → ExplainsTo ended
reason_ends word held held' ended core (text, refused, is, printed) =
    by_text ExplainsTo ended text (if refused then Refused else Done) held held' printed (by_either ExplainsTo ended refused (inr (inl refl)) (inr (inr (inl refl)))) (inr (inr (inr (inr (inr (inl refl))))))

explained_ends : {D : Type 0} (word : List ℕ) (f : Files D) (held held' : Option (List ℕ)) (ended : Status) → PrintsExplained word f held held' ended → ExplainsTo ended
explained_ends word f held held' ended (inl none) = by_text ExplainsTo ended (codes "no USAGE\n") Usage held held' none.1 (inl refl) (inr (inr (inr (inr (inr (inl refl))))))
explained_ends word f held held' ended (inr (inl none)) =
    by_unserved ExplainsTo ended f held held' none (inr (inr (inr (inl refl)))) (inr (inr (inr (inr (inl refl))))) (inr (inr (inr (inr (inr (inl refl)))))) (inr (inr (inr (inr (inr (inr (inl refl)))))))
explained_ends word f held held' ended (inr (inr looks)) = reason_ends word held held' ended looks.core looks.printed

verdict_ends : (left held held' : Option (List ℕ)) (ended : Status) (core : Core) → PrintsVerdict left held held' ended core → FollowsTo ended
verdict_ends left held held' ended core (inl (none, keeps)) = unanswered FollowsTo left ended none (inr (inr (inr (inr (inl refl))))) memory_ends (inr (inr (inr (inr (inr (inr (inr (inl refl))))))))
verdict_ends left held held' ended core (inr (lines, all, (text, refused, is, printed))) =
    by_text FollowsTo ended text (if refused then Refused else Done) held held' printed (by_either FollowsTo ended refused (inl refl) (inr (inr (inr (inl refl))))) write_ends

verified_ends : {D : Type 0} (c : Channels) (f : Files D) (ended : Status) → PrintsVerified c f ended → FollowsTo ended
verified_ends c f ended (inl none) = by_unserved FollowsTo ended f c.held c.held' none (inr (inl refl)) (inr (inr (inl refl))) write_ends memory_ends
verified_ends c f ended (inr looks) = verdict_ends c.left c.held c.held' ended looks.core looks.printed

abbrev RunsTo : Status → Type 0
RunsTo status = IsOneOf status (Store ∷ StoreFault ∷ script_ends)

runs_ends : {D : Type 0} (c : Channels) (f : Files D) (ended : Status) → RunsStore c f ended → RunsTo ended
runs_ends c f ended (inl (none, unread, kept)) = by_unserved RunsTo ended f c.held c.held' none (inl refl) (inr (inl refl)) (inr (inr (inr (inr (inl refl))))) (inr (inr (inr (inr (inr (inl refl))))))
runs_ends c f ended (inr (served, serves, ends)) =
    script_ends_so RunsTo served ended ends (inr (inr (inl refl))) (inr (inl refl)) (inr (inr (inr (inl refl)))) (inr (inr (inr (inr (inl refl))))) (inr (inr (inr (inr (inr (inl refl)))))) (inr (inr (inr (inr (inr (inr (inl refl)))))))

-- ---- the word that is said

abbrev AnswersTo : Status → Type 0
AnswersTo status = IsOneOf status (Refused ∷ script_ends)

answered_ends : (left : Option (List ℕ)) (Answers : Input → Answer → Type 0) (held held' : Option (List ℕ)) (ended : Status) → PrintsAnswer left Answers held held' ended → AnswersTo ended
answered_ends left Answers held held' ended printed =
    answer_ends AnswersTo left Answers held held' ended printed (inl refl) (inr (inl refl)) (inr (inr (inl refl))) (inr (inr (inr (inl refl)))) (inr (inr (inr (inr (inl refl))))) (inr (inr (inr (inr (inr (inl refl))))))

loaded_ends : (seed roots : ℕ) (held held' : Option (List ℕ)) (ended : Status) → PrintsLoaded seed roots held held' ended → IsOneOf ended (Done ∷ WriteFault ∷ NoMemory ∷ [])
loaded_ends seed roots held held' ended (inl none) = inr (inr (inl none.0))
loaded_ends seed roots held held' ended (inr (text, is, printed)) = by_text (λ s. IsOneOf s (Done ∷ WriteFault ∷ NoMemory ∷ [])) ended text Done held held' printed (inl refl) (inr (inl refl))

-- the last of the words of `explain`
explained_last : (words : List (List ℕ)) → Say words Explain → (front : List (List ℕ)) × (activity : List ℕ) × (words ≡ front ++ activity ∷ [])
explained_last [] says = absurd says
explained_last (name ∷ []) says = absurd says.1
explained_last (name ∷ a ∷ []) says = absurd says.1
explained_last (name ∷ a ∷ b ∷ rest) says = let own = says.1.1 in (name ∷ a ∷ b ∷ [], own.0, ap (λ (r : List (List ℕ)). name ∷ a ∷ b ∷ r) own.1)

-- what is printed tells how a word may end
pub word_ends : {D : Type 0} (words : List (List ℕ)) (word : Word) (c : Channels) (f : Files D) (ended : Status) → Say words word → PrintsWord words (Some word) c f ended → IsCaused (Some word) c f ended → IsOneOf ended (statuses_of (Some word))
word_ends words Check c f ended says printed cause = answered_ends c.left _ c.held c.held' ended printed
word_ends words Fate c f ended says printed cause = answered_ends c.left _ c.held c.held' ended printed
word_ends words (Try settings) c f ended says (served, tried, ends) cause = try_ends c.reads c.reads' c.puts c.puts' served ended ends cause
word_ends words (Load seed roots) c f ended says printed cause = loaded_ends seed roots c.held c.held' ended printed
word_ends words (New settings) c f ended says printed cause = made_ends settings.queues settings.limit f c.held c.held' ended printed
word_ends words Run c f ended says printed cause = runs_ends c f ended printed
word_ends words Follow c f ended says printed cause = result_ends printed.result c.held c.held' ended printed.printed
word_ends words Explain c f ended says printed cause = let last = explained_last words says in explained_ends last.1 f c.held c.held' ended (printed last.0 last.1 last.2)
word_ends words Verify c f ended says printed cause = verified_ends c f ended printed
word_ends words Overdue c f ended says printed cause = overdue_ends f c.held c.held' ended printed
word_ends words (Ship number) c f ended says printed cause = shipping_ends printed.result printed.shipped c.held' ended printed.printed

-- words that say none
pub usage_ends : {D : Type 0} (words : List (List ℕ)) (c : Channels) (f : Files D) (ended : Status) → PrintsWord words None c f ended → IsOneOf ended (statuses_of None)
usage_ends words c f ended printed = by_text (λ s. IsOneOf s (Usage ∷ WriteFault ∷ [])) ended (codes "no USAGE\n") Usage c.held c.held' printed (inl refl) (inr (inl refl))
