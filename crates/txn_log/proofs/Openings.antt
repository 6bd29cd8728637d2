-- What is answered when a store is opened or made.
use Rattle.std.proofs.Common.{◌≡◌, inl, inr, ⊎_elim, ℕ, List, [], sym, ap, ◌∙◌, length}
use Rattle.flow_disk.specs.declared.disk.Slot.TheVariants.{A}
use Rattle.flow_disk.specs.Images.{Image}
use Rattle.txn_log.specs.declared.header.Header.{Header}
use Rattle.txn_log.specs.declared.stops.LogStop.{LogStop}
use Rattle.txn_log.specs.declared.stops.LogStop.TheVariants.{Unmade as NothingThere, Made, Foreign as ForeignAt, Damaged as DamagedAt, StoreFault, NoMemory}
use Rattle.txn_log.specs.Causes.{IsOutside}
use Rattle.txn_log.specs.Opening.{IsRefusal, MayBeNew, first_header}
use Rattle.txn_log.specs.Standing.{IsAt, StandsOn}
use Rattle.txn_log.specs.Steps.{Stands, StandsOrUnmade}
use Rattle.txn_log.specs.declared.log.Log.{Log}
use Rattle.flow_disk.specs.declared.disk.Slot.{Slot}
use Rattle.txn_log.specs.Stored.{Unmade, Good, slot_state}
use Rattle.txn_log.specs.Stores.{StoreState, NoStore, Counts, store_of}
use Rattle.txn_log.proofs.StoreStates.{none_unmade, a_unmade, a_counts}

-- a cause outside of the store refuses any
pub outside_refused : (stop : LogStop) (state : StoreState) → IsOutside stop → IsRefusal stop state
outside_refused NothingThere state cause = absurd cause
outside_refused Made state cause = absurd cause
outside_refused (ForeignAt slot) state cause = absurd cause
outside_refused (DamagedAt slot place) state cause = absurd cause
outside_refused StoreFault state cause = tt
outside_refused NoMemory state cause = tt

-- the images while a store is made in slot A
pub new_of : (queues limit : ℕ) (old c : Image) → store_of old ≡ NoStore → StandsOrUnmade A (Good (first_header queues limit) [] 42) old.b c → MayBeNew queues limit c
new_of queues limit old c none stands =
    let b : slot_state c.b ≡ Unmade = ap slot_state stands.other ∙ (none_unmade old none).1 in
    ⊎_elim (λ good. inr (a_counts c (first_header queues limit) [] 42 good b)) (λ unmade. inl (a_unmade c unmade b)) stands.here

-- a log on the slot that counts stands on it
pub stands_at : (log : Log) (slot : Slot) (generation records end : ℕ) (image : Image) (h : Header) (ps : List (List ℕ)) → IsAt slot generation records end log → store_of image ≡ Counts slot h ps end → h.generation ≡ generation → length ps ≡ records → StandsOn log image
stands_at log slot generation records end image h ps at is same count = record {
  header = h;
  payloads = ps;
  counts = is ∙ (ap (λ (s : Slot). Counts s h ps end) (sym at.slot_is) ∙ ap (λ (e : ℕ). Counts log.slot h ps e) (sym at.end_is));
  generation = same ∙ sym at.generation_is;
  count = count ∙ sym at.records_is;
}

pub new_counts : (queues limit : ℕ) (old c : Image) → store_of old ≡ NoStore → Stands A (Good (first_header queues limit) [] 42) old.b c → store_of c ≡ Counts A (first_header queues limit) [] 42
new_counts queues limit old c none stands = a_counts c (first_header queues limit) [] 42 stands.here (ap slot_state stands.other ∙ (none_unmade old none).1)
