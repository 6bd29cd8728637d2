-- The records of what a log leaves are fit, where those that it had are and the new ones are.
use Rattle.std.proofs.Common.{◌≡◌, ◌⊎◌, inl, inr, ⊎_elim, ℕ, ◌+◌, List, [], ◌∷◌, ◌++◌, refl, sym, ap, subst, ◌∙◌, arith, append-nil, append_assoc}
use Rattle.flow_disk.specs.declared.disk.Slot.{Slot}
use Rattle.flow_disk.specs.Images.{Image}
use Rattle.flow_model.specs.declared.transactions.Transaction.{Transaction}
use Rattle.txn_log.specs.declared.header.Header.{Header}
use Rattle.txn_log.specs.Records.{reach}
use Rattle.txn_log.specs.Standing.{HasRecord, MayHaveRecord, HasRecords, MayHaveRecords}
use Rattle.txn_log.specs.Stored.{InRange}
use Rattle.txn_log.specs.Stores.{Counts, store_of, with_records}
use Rattle.checkpoint.specs.Compacting.{IsCompacted, MayBeCompacted}
use Rattle.flow_txn.specs.Ranges.{IsInRange}
use Rattle.flow_txn.specs.Records.{record_bytes}
use Rattle.flow_core.specs.Summaries.{Summary, next}
use Rattle.flow_session.specs.Fitting.{AreFitAlone, AreFitFrom, HasFitRecords, IsFitNext}
use Rattle.flow_session.specs.Histories.{AreInRangeBehind, StandsFor, IsHeaderOf, payloads, payloads_behind, after}
use Rattle.flow_session.specs.Keeping.{Brings}
use Rattle.flow_session.specs.Refusing.{BreaksAt, IsUnfit, LeadsTo}
use Rattle.flow_session.proofs.Keeping.{brings_more}
use Rattle.flow_session.proofs.Queued.{in_range}
use Rattle.flow_session.proofs.Summaries.{taken_next}

-- ---- transactions that are fit

-- at the first point of them the live ones are fit alone
pub fit_here : (s : Summary) (ts : List Transaction) → AreFitFrom s ts → AreFitAlone s
fit_here s [] fit = fit
fit_here s (t ∷ ts) fit = fit.0

-- a front part of them is fit
pub fit_front : (s : Summary) (ts us : List Transaction) → AreFitFrom s (ts ++ us) → AreFitFrom s ts
fit_front s [] us fit = fit_here s us fit
fit_front s (t ∷ ts) us fit = (fit.0, fit.1, fit_front (next t s) ts us fit.2)

-- so is the rest, from the summary after that part on
pub fit_behind : (s : Summary) (ts us : List Transaction) → AreFitFrom s (ts ++ us) → AreFitFrom (after s ts) us
fit_behind s [] us fit = fit
fit_behind s (t ∷ ts) us fit = fit_behind (next t s) ts us fit.2

-- ---- payloads of which none breaks a slot

abbrev BreaksNowhere : Header → List (List ℕ) → Type 0
BreaksNowhere h bytes = (place : ℕ) → BreaksAt h bytes place → ⊥

-- an image whose records are fit has such payloads, and one that has such payloads has fit records
nowhere_of : (slot : Slot) (h : Header) (bytes : List (List ℕ)) (end : ℕ) (image : Image)
    → store_of image ≡ Counts slot h bytes end → HasFitRecords image → BreaksNowhere h bytes
nowhere_of slot h bytes end image counts fit = λ place breaks.
    fit slot place (record { header = h; payloads = bytes; end = end; counts = counts; breaks = breaks })

fit_of : (slot : Slot) (h : Header) (bytes : List (List ℕ)) (end : ℕ) (image : Image)
    → store_of image ≡ Counts slot h bytes end → BreaksNowhere h bytes → HasFitRecords image
fit_of slot h bytes end image counts nowhere = λ other place broken.
    let headers : broken.header ≡ h = cc (counts, broken.counts) in
    let same : broken.payloads ≡ bytes = cc (counts, broken.counts) in
    nowhere place (subst (λ (k : Header). BreaksAt k bytes place) headers
    (subst (λ ps. BreaksAt broken.header ps place) same broken.breaks))

-- of a list with one more at its end, a place is that one or one of the others
at_end : (bytes : List (List ℕ)) (r : List ℕ) (front : List (List ℕ)) (p : List ℕ) (behind : List (List ℕ))
    → bytes ++ r ∷ [] ≡ front ++ p ∷ behind
    → ((front ≡ bytes) × (p ≡ r)) ⊎ ((rest : List (List ℕ)) × (bytes ≡ front ++ p ∷ rest))
at_end [] r [] p behind is = inl (refl, cc)
at_end [] r (f ∷ []) p behind is = absurd (cc)
at_end [] r (f ∷ g ∷ fs) p behind is = absurd (cc)
at_end (b ∷ bs) r [] p behind is = inr (bs, cc)
at_end (b ∷ bs) r (f ∷ fs) p behind is =
    let first : b ≡ f = cc in
    let others : bs ++ r ∷ [] ≡ fs ++ p ∷ behind = cc in
    ⊎_elim (λ here. inl (cc (first, here.0), here.1)) (λ there. inr (there.0, cc (first, there.1)))
    (at_end bs r fs p behind others)

module _ (h : Header) (range : InRange h) where
  -- one record more breaks nothing
  nowhere_more : (bytes : List (List ℕ)) (s : Summary) (t : Transaction) → Brings h bytes s
      → IsInRange (s.transactions + 1) t → IsFitNext s t → BreaksNowhere h bytes
      → BreaksNowhere h (bytes ++ record_bytes (s.transactions + 1) t ∷ [])
  nowhere_more bytes s t brings fits fit nowhere = λ place breaks.
      ⊎_elim (λ here. fit h bytes breaks.state range brings (subst (λ ps. LeadsTo h ps breaks.state) here.0 breaks.leads)
      fits (subst (IsUnfit breaks.state) here.1 breaks.unfit))
      (λ there. nowhere place (record {
        front = breaks.front;
        payload = breaks.payload;
        behind = there.0;
        split = there.1;
        gate = breaks.gate;
        state = breaks.state;
        leads = breaks.leads;
        unfit = breaks.unfit;
      }))
      (at_end bytes (record_bytes (s.transactions + 1) t) breaks.front breaks.payload breaks.behind breaks.split)

  -- with it they give the next summary
  brings_next : (bytes : List (List ℕ)) (s : Summary) (t : Transaction) → Brings h bytes s
      → IsInRange (s.transactions + 1) t → Brings h (bytes ++ record_bytes (s.transactions + 1) t ∷ []) (next t s)
  brings_next bytes s t brings fits =
      brings_more h bytes (record_bytes (s.transactions + 1) t) s (next t s)
      (record { number = s.transactions + 1; transaction = t }) brings refl fits
      (inr (omega (arith, brings.later), refl)) (sym (taken_next h.transactions s t brings.later))

  -- nor do several
  nowhere_all : (bytes : List (List ℕ)) (s : Summary) (ts : List Transaction) → Brings h bytes s
      → AreInRangeBehind s.transactions ts → AreFitFrom s ts → BreaksNowhere h bytes
      → BreaksNowhere h (bytes ++ payloads_behind s.transactions ts)
  nowhere_all bytes s [] brings fits fit nowhere = subst (BreaksNowhere h) (sym (append-nil bytes)) nowhere
  nowhere_all bytes s (t ∷ ts) brings fits fit nowhere =
      let r = record_bytes (s.transactions + 1) t in
      subst (BreaksNowhere h) (append_assoc bytes (r ∷ []) (payloads_behind (s.transactions + 1) ts))
      (nowhere_all (bytes ++ r ∷ []) (next t s) ts (brings_next bytes s t brings fits.0) fits.1 fit.2
      (nowhere_more bytes s t brings fits.0 fit.1 nowhere))

-- ---- images

brings_of : (s : Summary) (image : Image) (stands : StandsFor s image) → Brings stands.header (payloads stands.records) s
brings_of s image stands = record {
  records = stands.records;
  spelled = refl;
  comes_to = stands.comes_to;
  fits = stands.fits;
  later = stands.later;
  live = stands.live;
}

-- an image that stands for what another one does has its records
pub fit_same : (old new : Image) → store_of new ≡ store_of old → HasFitRecords old → HasFitRecords new
fit_same old new is fit = λ slot place broken.
    fit slot place (record {
      header = broken.header;
      payloads = broken.payloads;
      end = broken.end;
      counts = sym is ∙ broken.counts;
      breaks = broken.breaks;
    })

-- an image has records more, none of which breaks the slot behind those that were there
records_more : (s : Summary) (more : List (List ℕ)) (old new : Image) (stands : StandsFor s old) → HasFitRecords old
    → HasRecords more old new
    → (InRange stands.header → Brings stands.header (payloads stands.records) s
    → BreaksNowhere stands.header (payloads stands.records)
    → BreaksNowhere stands.header (payloads stands.records ++ more))
    → HasFitRecords new
records_more s more old new stands fit has keeps =
    let h = stands.header in
    let bytes = payloads stands.records in
    fit_of stands.slot h (bytes ++ more) (reach stands.end more) new (has ∙ ap (with_records more) stands.counts)
    (keeps (in_range old stands.slot h bytes stands.end stands.counts) (brings_of s old stands)
    (nowhere_of stands.slot h bytes stands.end old stands.counts fit))

-- the record of the next transaction is there
pub fit_more : (s : Summary) (t : Transaction) (old new : Image) → HasFitRecords old → StandsFor s old
    → IsInRange (s.transactions + 1) t → IsFitNext s t → HasRecord (record_bytes (s.transactions + 1) t) old new
    → HasFitRecords new
fit_more s t old new fit_old stands fits fit has =
    records_more s (record_bytes (s.transactions + 1) t ∷ []) old new stands fit_old has
    (λ range brings nowhere. nowhere_more stands.header range (payloads stands.records) s t brings fits fit nowhere)

-- those of several are
pub fit_all : (s : Summary) (ts : List Transaction) (old new : Image) → HasFitRecords old → StandsFor s old
    → AreInRangeBehind s.transactions ts → AreFitFrom s ts → HasRecords (payloads_behind s.transactions ts) old new
    → HasFitRecords new
fit_all s ts old new fit_old stands fits fit has =
    records_more s (payloads_behind s.transactions ts) old new stands fit_old has
    (λ range brings nowhere. nowhere_all stands.header range (payloads stands.records) s ts brings fits fit nowhere)

-- the live ones alone
pub fit_alone : (s : Summary) (slot : Slot) (header : Header) (old new : Image) → StandsFor s old → IsHeaderOf header s
    → InRange header → AreFitAlone s → IsCompacted slot header (payloads s.live) new → HasFitRecords new
fit_alone s slot header old new stands says range fit is =
    fit_of slot header (payloads s.live) (reach 42 (payloads s.live)) new is
    (λ place breaks. fit header place range says stands.live breaks)

-- ---- what a crash may leave

pub fit_with_or_without : (s : Summary) (t : Transaction) (old new : Image) → HasFitRecords old → StandsFor s old
    → IsInRange (s.transactions + 1) t → IsFitNext s t → MayHaveRecord (record_bytes (s.transactions + 1) t) old new
    → HasFitRecords new
fit_with_or_without s t old new fit_old stands fits fit may =
    ⊎_elim (λ is. fit_same old new is fit_old) (λ has. fit_more s t old new fit_old stands fits fit has) may

pub fit_all_or_none : (s : Summary) (ts : List Transaction) (old new : Image) → HasFitRecords old → StandsFor s old
    → AreInRangeBehind s.transactions ts → AreFitFrom s ts → MayHaveRecords (payloads_behind s.transactions ts) old new
    → HasFitRecords new
fit_all_or_none s ts old new fit_old stands fits fit may =
    ⊎_elim (λ is. fit_same old new is fit_old) (λ has. fit_all s ts old new fit_old stands fits fit has) may

pub fit_compacted : (s : Summary) (slot : Slot) (header : Header) (old new : Image) → HasFitRecords old → StandsFor s old
    → IsHeaderOf header s → InRange header → AreFitAlone s → MayBeCompacted slot header (payloads s.live) old new
    → HasFitRecords new
fit_compacted s slot header old new fit_old stands says range fit may =
    ⊎_elim (λ is. fit_same old new is fit_old) (λ is. fit_alone s slot header old new stands says range fit is) may
