-- A store that moves to its other slot.
use Rattle.std.proofs.Common.{◌≡◌, inl, inr, ⊎_elim, ℕ, ◌<◌, List, Err, refl, sym, ap, subst, ◌∙◌}
use Rattle.flow_disk.specs.declared.disk.Slot.{Slot}
use Rattle.flow_disk.specs.declared.disk.Slot.TheVariants.{A, B}
use Rattle.flow_disk.specs.Images.{Image, bytes_in, opposite}
use Rattle.txn_log.specs.declared.header.Header.{Header}
use Rattle.txn_log.specs.Records.{reach}
use Rattle.txn_log.specs.Steps.{IsOurs, Stands, StandsOrUnmade}
use Rattle.txn_log.specs.Stored.{SlotState, Unmade, Good, slot_state}
use Rattle.txn_log.specs.Stores.{Counts, store_of}
use Rattle.txn_log.proofs.StoreStates.{counts_good, counts_alone, counts_beside, counts_newer, store_same}
use Rattle.checkpoint.specs.Compacting.{Turns, IsCompacted, MayBeCompacted}
use Rattle.checkpoint.specs.Stops.{IfNoMemory}
use Rattle.checkpoint.specs.declared.stops.MoveStop.{MoveStop}
use Rattle.checkpoint.specs.declared.stops.MoveStop.TheVariants.{StoreFault, NoMemory}

-- what holds where there was no memory
pub if_no_memory : (T : Type 0) (stop : MoveStop) (P : Type 0) → stop ≡ NoMemory → IfNoMemory {T = T} (Err stop) P → P
if_no_memory T StoreFault P is given = cc
if_no_memory T NoMemory P is given = given

-- a slot's turns from each of its three steps
pub turns_shut : (slot : Slot) (before after : SlotState) (there : List ℕ) (c : Image) → StandsOrUnmade slot before there c → Turns slot before after there c
turns_shut slot before after there c stands = record { here = ⊎_elim (λ same. inl same) (λ unmade. inr (inl unmade)) stands.here; other = stands.other }

pub turns_body : (slot : Slot) (before after : SlotState) (t there : List ℕ) → t ≡ there → (c : Image) → Stands slot Unmade t c → Turns slot before after there c
turns_body slot before after t there same c stands = record { here = inr (inl stands.here); other = stands.other ∙ same }

pub turns_open : (slot : Slot) (before after : SlotState) (t there : List ℕ) → t ≡ there → (c : Image) → StandsOrUnmade slot after t c → Turns slot before after there c
turns_open slot before after t there same c stands = record { here = inr (⊎_elim (λ done. inr done) (λ unmade. inl unmade) stands.here); other = stands.other ∙ same }

twice : (slot : Slot) (image : Image) → bytes_in image (opposite (opposite slot)) ≡ bytes_in image slot
twice A image = refl
twice B image = refl

module _ (slot : Slot) (old : Image) (g : Header) (rs : List (List ℕ)) (d : ℕ) (is : store_of old ≡ Counts slot g rs d) (h : Header) (kept : List (List ℕ)) (later : g.generation < h.generation) where
  -- the slot that counted is as it was
  before : (c : Image) → bytes_in c (opposite (opposite slot)) ≡ bytes_in old (opposite (opposite slot)) → bytes_in c slot ≡ bytes_in old slot
  before c other = sym (twice slot c) ∙ (other ∙ twice slot old)

  pub compacted : (c : Image) → Stands (opposite slot) (Good h kept (reach 42 kept)) (bytes_in old (opposite (opposite slot))) c → IsCompacted (opposite slot) h kept c
  compacted c stands =
      counts_newer (opposite slot) c h g kept rs (reach 42 kept) d later stands.here (ap slot_state (stands.other ∙ twice slot old) ∙ counts_good slot old g rs d is)

  pub may_be_compacted : (c : Image) → Turns (opposite slot) (slot_state (bytes_in old (opposite slot))) (Good h kept (reach 42 kept)) (bytes_in old (opposite (opposite slot))) c → MayBeCompacted (opposite slot) h kept old c
  may_be_compacted c turns = ⊎_elim
      (λ same. inl (store_same slot old c (ap slot_state (before c turns.other)) same))
      (λ rest. ⊎_elim
      (λ unmade. inl (counts_alone slot c g rs d (ap slot_state (before c turns.other) ∙ counts_good slot old g rs d is) unmade ∙ sym is))
      (λ done. inr (compacted c (record { here = done; other = turns.other })))
      rest)
      turns.here

  -- the same of a slot that is known to be the other one
  pub compacted_at : (o : Slot) → o ≡ opposite slot → (c : Image) → Stands o (Good h kept (reach 42 kept)) (bytes_in old (opposite o)) c → IsCompacted (opposite slot) h kept c
  compacted_at o same c stands = compacted c (subst (λ (p : Slot). Stands p (Good h kept (reach 42 kept)) (bytes_in old (opposite p)) c) same stands)

  pub may_be_at : (o : Slot) → o ≡ opposite slot → (c : Image) → Turns o (slot_state (bytes_in old o)) (Good h kept (reach 42 kept)) (bytes_in old (opposite o)) c → MayBeCompacted (opposite slot) h kept old c
  may_be_at o same c turns = may_be_compacted c (subst (λ (p : Slot). Turns p (slot_state (bytes_in old p)) (Good h kept (reach 42 kept)) (bytes_in old (opposite p)) c) same turns)

-- where the other slot is unmade, what counted still counts
pub stays_at : (slot o : Slot) (old : Image) (g : Header) (rs : List (List ℕ)) (d : ℕ) → o ≡ opposite slot → store_of old ≡ Counts slot g rs d → (c : Image) → Stands o Unmade (bytes_in old (opposite o)) c → store_of c ≡ store_of old
stays_at slot o old g rs d same is c stands =
    let there = subst (λ (p : Slot). Stands p Unmade (bytes_in old (opposite p)) c) same stands in
    let before : bytes_in c slot ≡ bytes_in old slot = sym (twice slot c) ∙ (there.other ∙ twice slot old) in
    counts_alone slot c g rs d (ap slot_state before ∙ counts_good slot old g rs d is) there.here ∙ sym is

pub ours_at : (slot o : Slot) (old : Image) (g : Header) (rs : List (List ℕ)) (d : ℕ) → o ≡ opposite slot → store_of old ≡ Counts slot g rs d → IsOurs (slot_state (bytes_in old o))
ours_at slot o old g rs d same is = subst (λ (p : Slot). IsOurs (slot_state (bytes_in old p))) (sym same) (counts_beside slot old g rs d is)
