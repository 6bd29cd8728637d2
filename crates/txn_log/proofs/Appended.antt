-- What a store stands for while records are added to the slot that counts.
use Rattle.std.proofs.Common.{◌≡◌, inl, inr, ⊎_elim, ℕ, List, ◌++◌, sym, ap, ◌∙◌}
use Rattle.flow_disk.specs.declared.disk.Slot.{Slot}
use Rattle.flow_disk.specs.Images.{Image}
use Rattle.txn_log.specs.declared.header.Header.{Header}
use Rattle.txn_log.specs.Records.{reach}
use Rattle.txn_log.specs.Standing.{HasRecords, MayHaveRecords}
use Rattle.txn_log.specs.Steps.{With, WithOrWithout, IsGoodTo}
use Rattle.txn_log.specs.Stored.{slot_state, extended}
use Rattle.txn_log.specs.Stores.{Counts, store_of, with_records}
use Rattle.txn_log.proofs.StoreStates.{counts_good, counts_on, store_same}

module _ (slot : Slot) (more : List (List ℕ)) (old : Image) (h : Header) (ps : List (List ℕ)) (e : ℕ) (is : store_of old ≡ Counts slot h ps e) where
  pub good_to : IsGoodTo slot e old
  good_to = record { header = h; payloads = ps; good = counts_good slot old h ps e is }

  -- with the records, the slot goes on to count
  pub counts_more : (c : Image) → With slot more old c → store_of c ≡ Counts slot h (ps ++ more) (reach e more)
  counts_more c added = counts_on slot old c h ps (ps ++ more) e (reach e more) is (added.here ∙ ap (extended more) (counts_good slot old h ps e is)) added.other

  pub has_records : (c : Image) → With slot more old c → HasRecords more old c
  has_records c added = counts_more c added ∙ sym (ap (with_records more) is)

  pub may_have_records : (c : Image) → WithOrWithout slot more old c → MayHaveRecords more old c
  may_have_records c either = ⊎_elim
      (λ same. inl (store_same slot old c same (ap slot_state either.other)))
      (λ added. inr (has_records c (record { here = added; other = either.other })))
      either.here
