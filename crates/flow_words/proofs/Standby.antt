-- What the words of a standby store print.
use Rattle.std.proofs.Common.{◌≡◌, inr, ◌∙◌, ℕ, Option, List, Err, refl, subst, arith}
use Rattle.txn_log.specs.declared.stops.LogStop.{LogStop}
use Rattle.standby.specs.Endings.{ShipEnd}
use Rattle.standby.specs.declared.stops.ShipStop.{ShipStop}
use Rattle.standby.specs.declared.stops.ShipStop.TheVariants as ship
use Rattle.flow_io.specs.Causes.{Rose}
use Rattle.flow_words.specs.Endings.{WordCause}
use Rattle.standby.specs.Texts.{follow_refusal_line}
use Rattle.standby.specs.declared.stops.FollowStop.{FollowStop}
use Rattle.standby.specs.declared.stops.FollowStop.TheVariants as follow
use Rattle.flow_words.specs.Following.{PrintsLine, PrintsResult}
use Rattle.flow_words.specs.Printed.{Prints}
use Rattle.flow_words.specs.declared.status.Status.{Status}
use Rattle.flow_words.specs.declared.status.Status.TheVariants.{Done, Usage, Store, StoreFault, ReadFault, WriteFault, NoMemory, ScriptTooLong, Refused}

module _ (held held' : Option (List ℕ)) (ended : Status) where
  -- a line that there was memory for
  pub line_printed : (line text bytes : List ℕ) (status : Status) → text ≡ line → bytes ≡ text → Prints bytes status held held' ended → PrintsLine line status held held' ended
  line_printed line text bytes status is spelled printed = inr (subst (λ b. Prints b status held held' ended) (spelled ∙ is) printed)

  -- the line of a refusal of a stream's own
  pub refusal_printed : (s : FollowStop) → ((stop : LogStop) → s ≡ follow.Store stop → ⊥) → (s ≡ follow.ReadFault → ⊥) → (s ≡ follow.TooLong → ⊥) → (s ≡ follow.NoMemory → ⊥) → PrintsLine (follow_refusal_line s) Refused held held' ended → PrintsResult (Err s) held held' ended
  refusal_printed (follow.Store stop) store read long memory printed = absurd (store stop refl)
  refusal_printed (follow.Frame place) store read long memory printed = printed
  refusal_printed (follow.Cut number) store read long memory printed = printed
  refusal_printed follow.Other store read long memory printed = printed
  refusal_printed (follow.Gap number) store read long memory printed = printed
  refusal_printed (follow.NotAllowed number) store read long memory printed = printed
  refusal_printed follow.ReadFault store read long memory printed = absurd (read refl)
  refusal_printed follow.TooLong store read long memory printed = absurd (long refl)
  refusal_printed follow.NoMemory store read long memory printed = absurd (memory refl)

-- ---- why shipping ends

-- what rose, and rose again
later_rose : (before mid now : ℕ) → Rose before mid → Rose mid now → Rose before now
later_rose before mid now first again = omega (arith, first, again)

-- the end of a word that shipped before it printed
pub after_shipping : (from before mid now read read' store store' : ℕ) (stop : ShipStop) (s : Status) → ShipEnd from before mid stop → WordCause read read' mid now store store' s → WordCause read read' before now store store' s
after_shipping from before mid now read read' store store' (ship.Store stop) s ends h = subst (λ (put : ℕ). WordCause read read' put now store store' s) ends h
after_shipping from before mid now read read' store store' (ship.Gone kept) s ends h = subst (λ (put : ℕ). WordCause read read' put now store store' s) ends.1 h
after_shipping from before mid now read read' store store' (ship.Ahead number) s ends h = subst (λ (put : ℕ). WordCause read read' put now store store' s) ends.1 h
after_shipping from before mid now read read' store store' ship.NoMemory s ends h = subst (λ (put : ℕ). WordCause read read' put now store store' s) ends h
after_shipping from before mid now read read' store store' ship.WriteFault Done ends h = tt
after_shipping from before mid now read read' store store' ship.WriteFault Usage ends h = tt
after_shipping from before mid now read read' store store' ship.WriteFault Store ends h = tt
after_shipping from before mid now read read' store store' ship.WriteFault StoreFault ends h = h
after_shipping from before mid now read read' store store' ship.WriteFault ReadFault ends h = h
after_shipping from before mid now read read' store store' ship.WriteFault WriteFault ends h = later_rose before mid now ends h
after_shipping from before mid now read read' store store' ship.WriteFault NoMemory ends h = tt
after_shipping from before mid now read read' store store' ship.WriteFault ScriptTooLong ends h = tt
after_shipping from before mid now read read' store store' ship.WriteFault Refused ends h = tt
