-- What an image stands for after one step of a log.
use Rattle.std.proofs.Common.{◌≡◌, inl, inr, ⊎_elim, ℕ, ◌+◌, ◌≤◌, List, [], ◌∷◌, ◌++◌, length, refl, sym, ap, ◌∙◌, arith}
use Rattle.std.specs.List.{All}
use Rattle.flow_model.specs.declared.transactions.Numbered.{Numbered}
use Rattle.std.proofs.lemmas.List.{map-append}
use Rattle.std.proofs.lemmas.List.Elements.{All-append, All-cons, All-nil, All-weaker}
use Rattle.flow_disk.specs.declared.disk.Slot.{Slot}
use Rattle.flow_disk.specs.Images.{Image}
use Rattle.flow_model.specs.declared.transactions.Transaction.{Transaction}
use Rattle.txn_log.specs.declared.header.Header.{Header}
use Rattle.txn_log.specs.Records.{reach}
use Rattle.txn_log.specs.Standing.{HasRecord, MayHaveRecord, HasRecords, MayHaveRecords}
use Rattle.txn_log.specs.Stores.{Counts, store_of, with_record, with_records}
use Rattle.checkpoint.specs.Compacting.{IsCompacted, MayBeCompacted}
use Rattle.flow_txn.specs.Ranges.{IsInRange}
use Rattle.flow_txn.specs.Records.{record_bytes}
use Rattle.flow_core.specs.Summaries.{Summary, next, taken_up, all_taken_up}
use Rattle.flow_session.specs.Histories.{AreInRange, AreInRangeBehind, StandsFor, IsHeaderOf, IsLive, payloads, payloads_behind, under, after}
use Rattle.flow_session.specs.Serving.{WithOrWithout, AllOrNone}
use Rattle.flow_session.proofs.Summaries.{live_with, all_append, all_behind, taken_next, all_kept}

pub same : (s : Summary) (old new : Image) → store_of new ≡ store_of old → StandsFor s old → StandsFor s new
same s old new is stands = record { slot = stands.slot; header = stands.header; records = stands.records; end = stands.end; counts = is ∙ stands.counts; comes_to = stands.comes_to; fits = stands.fits; later = stands.later; live = stands.live }

-- one numbered transaction more is in range
pub fits_more : (records : List Numbered) (n : Numbered) → AreInRange records → IsInRange n.number n.transaction
    → AreInRange (records ++ n ∷ [])
fits_more records n fits in_range =
    All-append (λ (m : Numbered). IsInRange m.number m.transaction) records (n ∷ []) fits
    (All-cons (λ (m : Numbered). IsInRange m.number m.transaction) n [] in_range
    (All-nil (λ (m : Numbered). IsInRange m.number m.transaction)))

-- the record of the next transaction is there
pub one_more : (s : Summary) (t : Transaction) (old new : Image) → StandsFor s old → IsInRange (s.transactions + 1) t
    → HasRecord (record_bytes (s.transactions + 1) t) old new → StandsFor (next t s) new
one_more s t old new stands in_range has = record {
  slot = stands.slot;
  header = stands.header;
  records = stands.records ++ record { number = s.transactions + 1; transaction = t } ∷ [];
  end = stands.end + 5 + length (record_bytes (s.transactions + 1) t);
  counts = has ∙ ap (with_record (record_bytes (s.transactions + 1) t)) stands.counts
      ∙ ap (λ ps. Counts stands.slot stands.header ps (stands.end + 5 + length (record_bytes (s.transactions + 1) t)))
      (sym (map-append (λ n. record_bytes n.number n.transaction) stands.records (record { number = s.transactions + 1; transaction = t } ∷ [])));
  comes_to = all_append stands.header.transactions stands.records (record { number = s.transactions + 1; transaction = t }) (under stands.header)
      ∙ ap (λ x. taken_up stands.header.transactions (record { number = s.transactions + 1; transaction = t }) x) stands.comes_to
      ∙ taken_next stands.header.transactions s t stands.later;
  fits = fits_more stands.records (record { number = s.transactions + 1; transaction = t }) stands.fits in_range;
  later = omega (arith, stands.later);
  live = live_with s (s.transactions + 1) (s.transactions + 1) t (omega arith) (omega arith) in_range stands.live;
}

pub with_or_without : (s : Summary) (t : Transaction) (old new : Image) → StandsFor s old → IsInRange (s.transactions + 1) t
    → MayHaveRecord (record_bytes (s.transactions + 1) t) old new → WithOrWithout t s new
with_or_without s t old new stands in_range may =
    ⊎_elim (λ is. inl (same s old new is stands)) (λ has. inr (one_more s t old new stands in_range has)) may

-- ---- several transactions

-- transactions under the numbers behind this one
abbrev numbered : ℕ → List Transaction → List Numbered
numbered k [] = []
numbered k (t ∷ ts) = record { number = k + 1; transaction = t } ∷ numbered (k + 1) ts

numbered_payloads : (k : ℕ) (ts : List Transaction) → payloads (numbered k ts) ≡ payloads_behind k ts
numbered_payloads k [] = refl
numbered_payloads k (t ∷ ts) = ap (λ ps. record_bytes (k + 1) t ∷ ps) (numbered_payloads (k + 1) ts)

-- their records are taken up as those transactions
numbered_taken : (kept : ℕ) (s : Summary) (ts : List Transaction) → kept ≤ s.transactions → all_taken_up kept (numbered s.transactions ts) s ≡ after s ts
numbered_taken kept s [] le = refl
numbered_taken kept s (t ∷ ts) le =
    ap (all_taken_up kept (numbered (s.transactions + 1) ts)) (taken_next kept s t le)
    ∙ numbered_taken kept (next t s) ts (omega (arith, le))

pub after_counts : (s : Summary) (ts : List Transaction) → (after s ts).transactions ≡ s.transactions + length ts
after_counts s [] = omega arith
after_counts s (t ∷ ts) = after_counts (next t s) ts ∙ omega arith

after_live : (s : Summary) (ts : List Transaction) → AreInRangeBehind s.transactions ts → All (IsLive s) s.live
    → All (IsLive (after s ts)) (after s ts).live
after_live s [] fits all = all
after_live s (t ∷ ts) fits all =
    after_live (next t s) ts fits.1
    (live_with s (s.transactions + 1) (s.transactions + 1) t (omega arith) (omega arith) fits.0 all)

numbered_fits : (k : ℕ) (ts : List Transaction) → AreInRangeBehind k ts → AreInRange (numbered k ts)
numbered_fits k [] fits = All-nil (λ (m : Numbered). IsInRange m.number m.transaction)
numbered_fits k (t ∷ ts) fits =
    All-cons (λ (m : Numbered). IsInRange m.number m.transaction) (record { number = k + 1; transaction = t })
    (numbered (k + 1) ts) fits.0 (numbered_fits (k + 1) ts fits.1)

-- the records of the next transactions are there
pub all_more : (s : Summary) (ts : List Transaction) (old new : Image) → StandsFor s old
    → AreInRangeBehind s.transactions ts → HasRecords (payloads_behind s.transactions ts) old new
    → StandsFor (after s ts) new
all_more s ts old new stands fits has =
    record {
      slot = stands.slot;
      header = stands.header;
      records = stands.records ++ numbered s.transactions ts;
      end = reach stands.end (payloads_behind s.transactions ts);
      counts = has ∙ ap (with_records (payloads_behind s.transactions ts)) stands.counts
          ∙ ap (λ ps. Counts stands.slot stands.header ps (reach stands.end (payloads_behind s.transactions ts)))
          (ap (λ ps. payloads stands.records ++ ps) (sym (numbered_payloads s.transactions ts))
          ∙ sym (map-append (λ n. record_bytes n.number n.transaction) stands.records (numbered s.transactions ts)));
      comes_to = all_behind stands.header.transactions stands.records (numbered s.transactions ts) (under stands.header)
          ∙ ap (all_taken_up stands.header.transactions (numbered s.transactions ts)) stands.comes_to
          ∙ numbered_taken stands.header.transactions s ts stands.later;
      fits = All-append (λ (m : Numbered). IsInRange m.number m.transaction) stands.records
          (numbered s.transactions ts) stands.fits (numbered_fits s.transactions ts fits);
      later = omega (arith, stands.later, after_counts s ts);
      live = after_live s ts fits stands.live;
    }

pub all_or_none : (s : Summary) (ts : List Transaction) (old new : Image) → StandsFor s old
    → AreInRangeBehind s.transactions ts → MayHaveRecords (payloads_behind s.transactions ts) old new
    → AllOrNone ts s new
all_or_none s ts old new stands fits may =
    ⊎_elim (λ is. inl (same s old new is stands)) (λ has. inr (all_more s ts old new stands fits has)) may

-- there is no payload only where there is no transaction
pub none_behind : (k : ℕ) (ts : List Transaction) → payloads_behind k ts ≡ [] → ts ≡ []
none_behind k [] is = refl
none_behind k (t ∷ ts) is = absurd (cc)

-- the live transactions alone, under a header that says the counts
pub compacted : (s : Summary) (slot : Slot) (header : Header) (old new : Image) → StandsFor s old → IsHeaderOf header s → IsCompacted slot header (payloads s.live) new → StandsFor s new
compacted s slot header old new stands says is = record {
  slot = slot;
  header = header;
  records = s.live;
  end = reach 42 (payloads s.live);
  counts = is;
  comes_to = rw (says.queues, says.limit, says.transactions, says.roots) (all_kept s stands.live);
  fits = All-weaker (IsLive s) (λ (n : Numbered). IsInRange n.number n.transaction) (λ n is. is.in_range) s.live
      stands.live;
  later = omega (arith, says.transactions);
  live = stands.live;
}

pub may_be_compacted : (s : Summary) (slot : Slot) (header : Header) (old new : Image) → StandsFor s old → IsHeaderOf header s → MayBeCompacted slot header (payloads s.live) old new → StandsFor s new
may_be_compacted s slot header old new stands says may = ⊎_elim (λ is. same s old new is stands) (λ is. compacted s slot header old new stands says is) may
