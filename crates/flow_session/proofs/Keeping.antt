-- An open journal at rest, and a store whose records are taken up one after the other.
use Rattle.std.proofs.Common.{◌≡◌, inl, inr, ℕ, ◌≤◌, List, [], ◌∷◌, ◌++◌, subst, sym, ap, refl, ◌∙◌, arith}
use Rattle.std.specs.List.{All}
use Rattle.std.proofs.lemmas.List.{map-append}
use Rattle.std.proofs.lemmas.List.Elements.{All-nil}
use Rattle.std.proofs.lemmas.Bool.{lt-leb, le-leb}
use Rattle.flow_model.specs.declared.transactions.Numbered.{Numbered}
use Rattle.txn_log.specs.declared.header.Header.{Header}
use Rattle.txn_log.specs.declared.log.Log.{Log}
use Rattle.txn_log.specs.Stores.{Counts, store_of}
use Rattle.flow_disk.specs.declared.disk.Slot.{Slot}
use Rattle.flow_txn.specs.Ranges.{IsInRange}
use Rattle.flow_txn.specs.Records.{record_bytes}
use Rattle.flow_disk.specs.Images.{Image}
use Rattle.flow_disk.specs.Moments.{LeavesOnly}
use Rattle.flow_core.specs.Summaries.{Summary, Follows, taken_up}
use Rattle.flow_session.specs.Histories.{StandsFor, IsLive, under}
use Rattle.checkpoint.specs.Compacting.{StaysPut}
use Rattle.txn_log.specs.Standing.{StandsOn}
use Rattle.flow_session.specs.Keeping.{Brings, IsOpen}
use Rattle.flow_session.proofs.Histories.{fits_more}
use Rattle.flow_session.proofs.Summaries.{live_with, all_append}

-- nothing was done
pub nothing_done : {J : Type 0} (moment : J → ℕ) (left_since : J → ℕ → Image → Type 0) (journal : J) (P : Image → Type 0) → ((c : Image) → left_since journal (moment journal) c → P c) → LeavesOnly moment left_since journal journal P
nothing_done moment left_since journal P here = record { later = omega arith; each = here; before = λ t c le left. inl left }

-- of a disk that says what a crash may leave now: so it says of each moment up to now, and what a read gives is there
module _ {D : Type 0} (moment : D → ℕ) (left_since : D → ℕ → Image → Type 0) (images : D → Image → Type 0)
    (counts_now : (disk : D) (t : ℕ) (c : Image) → t ≤ moment disk → images disk c → left_since disk t c) where
  pub counts_since : ((disk : D) (c : Image) → left_since disk (moment disk) c → images disk c)
      → (disk : D) (t : ℕ) (c : Image) → t ≤ moment disk → left_since disk (moment disk) c → left_since disk t c
  counts_since only_now disk t c earlier left = counts_now disk t c earlier (only_now disk c left)

  pub seen_left : (tells : Type 0) (seen : D → Image) → ((disk : D) → tells → images disk (seen disk)) → (disk : D)
      → tells → left_since disk (moment disk) (seen disk)
  seen_left tells seen honest disk told = counts_now disk (moment disk) (seen disk) (omega arith) (honest disk told)

-- where a log stands where it stood, its journal is as open as it was
pub stays_open : {D : Type 0} (seen : D → Image) (images : D → Image → Type 0) (s : Summary) (log log' : Log) (disk disk' : D) → IsOpen seen images log disk s → StaysPut seen images log log' disk disk' → IsOpen seen images log' disk' s
stays_open seen images s log log' disk disk' is stays = record {
  alive = ap (λ (l : Log). l.failed) stays.logged ∙ is.alive;
  stands = subst (λ (l : Log). StandsOn l (seen disk')) (sym stays.logged) (record {
    header = is.stands.header;
    payloads = is.stands.payloads;
    counts = stays.same ∙ is.stands.counts;
    generation = is.stands.generation;
    count = is.stands.count;
  });
  only = stays.only;
  holds = record {
    slot = is.holds.slot;
    header = is.holds.header;
    records = is.holds.records;
    end = is.holds.end;
    counts = stays.same ∙ is.holds.counts;
    comes_to = is.holds.comes_to;
    fits = is.holds.fits;
    later = is.holds.later;
    live = is.holds.live;
  };
}

-- no record yet
pub brings_none : (h : Header) → Brings h [] (under h)
brings_none h = record {
  records = [];
  spelled = refl;
  comes_to = refl;
  fits = All-nil (λ (n : Numbered). IsInRange n.number n.transaction);
  later = omega arith;
  live = All-nil (IsLive (under h));
}

taken_facts : (kept : ℕ) (s : Summary) (n : Numbered) → kept ≤ s.transactions → IsInRange n.number n.transaction
    → All (IsLive s) s.live → Follows kept s n → (kept ≤ (taken_up kept n s).transactions) × All (IsLive (taken_up kept n s)) (taken_up kept n s).live
taken_facts kept s n le fit all (inl f) = rw (le-leb n.number kept f.0) (le, live_with s s.transactions n.number n.transaction (omega arith) (omega (arith, f.0, f.1)) fit all)
taken_facts kept s n le fit all (inr f) = rw (lt-leb n.number kept f.0) (omega (arith, f.0), live_with s n.number n.number n.transaction (omega (arith, f.1)) (omega arith) fit all)

-- one record more
pub brings_more : (h : Header) (bytes : List (List ℕ)) (payload : List ℕ) (s s' : Summary) (n : Numbered) → Brings h bytes s
    → record_bytes n.number n.transaction ≡ payload → IsInRange n.number n.transaction → Follows h.transactions s n
    → s' ≡ taken_up h.transactions n s → Brings h (bytes ++ payload ∷ []) s'
brings_more h bytes payload s s' n b spelled fit follows is =
    let facts = taken_facts h.transactions s n b.later fit b.live follows in
    subst (Brings h (bytes ++ payload ∷ [])) (sym is) (record {
      records = b.records ++ n ∷ [];
      spelled = map-append (λ m. record_bytes m.number m.transaction) b.records (n ∷ []) ∙ ap (λ xs. xs ++ record_bytes n.number n.transaction ∷ []) b.spelled ∙ ap (λ x. bytes ++ x ∷ []) spelled;
      comes_to = all_append h.transactions b.records n (under h) ∙ ap (taken_up h.transactions n) b.comes_to;
      fits = fits_more b.records n b.fits fit;
      later = facts.0;
      live = facts.1;
    })

-- an opened store stands for what its records bring
pub stands_for : (slot : Slot) (h : Header) (bytes : List (List ℕ)) (end : ℕ) (image : Image) (s : Summary) → store_of image ≡ Counts slot h bytes end → Brings h bytes s → StandsFor s image
stands_for slot h bytes end image s counts b = record {
  slot = slot;
  header = h;
  records = b.records;
  end = end;
  counts = counts ∙ ap (λ ps. Counts slot h ps end) (sym b.spelled);
  comes_to = b.comes_to;
  fits = b.fits;
  later = b.later;
  live = b.live;
}

-- what a disk leaves, its journal leaves
pub in_journal : {J D : Type 0} (disk_of : J → D) (moment : D → ℕ) (left_since : D → ℕ → Image → Type 0) (old new : J) (P : Image → Type 0) → LeavesOnly moment left_since (disk_of old) (disk_of new) P → LeavesOnly (λ j. moment (disk_of j)) (λ j. left_since (disk_of j)) old new P
in_journal disk_of moment left_since old new P run = record { later = run.later; each = run.each; before = run.before }

-- logs on the same slot, under the same generation, are at the same place
pub same_place : (new old : Log) → new.slot ≡ old.slot → new.generation ≡ old.generation → ◌≡◌ {A = Slot × ℕ} (new.slot, new.generation) (old.slot, old.generation)
same_place new old slot generation = rw (slot, generation) refl
