-- Writes behind a closed gate, one after another.
use Rattle.std.proofs.Common.{◌≡◌, inl, ℕ, ◌+◌, ◌≤◌, List, [], ◌∷◌, ◌++◌, length, take, get_or, refl, sym, ap, subst, ◌∙◌, arith, length-append, append_assoc}
use Rattle.std.proofs.lemmas.List.{append-nil, length-take-le}
use Rattle.flow_disk.specs.declared.disk.Slot.{Slot}
use Rattle.flow_disk.specs.Images.{Image, bytes_in, opposite, put_in, spliced, TornIn}
use Rattle.flow_disk.specs.Moments.{Elapses, Follows, Within}
use Rattle.flow_disk.proofs.Runs.{Run, wrote, stayed, joined}
use Rattle.std.specs.Int.{w32, to_be_bytes}
use Rattle.txn_log.specs.Steps.{Begins, Stands}
use Rattle.txn_log.specs.Stored.{Unmade, slot_state}
use Rattle.txn_log.proofs.Fronts.{unmade_front}
use Rattle.txn_log.proofs.Begin.{begins_at, begins_long, torn_begins, written_begins}
use Rattle.txn_log.proofs.Made.{front_long}
use Rattle.checkpoint.specs.Writing.{Adds, ShutBeside, KeepsShut}

-- a torn write behind the front of a closed gate keeps it
pub shut_torn : (slot : Slot) (from at n : ℕ) (there : List ℕ) (d c : Image) → from ≤ at → ShutBeside slot from there d → TornIn slot at n d c → ShutBeside slot from there c
shut_torn slot from at n there d c le beside torn =
    let shut = beside.shut in
    let begins : Begins slot (beside.shut.gate ∷ beside.shut.magic) there d = record { behind = beside.shut.behind; here = beside.shut.here; other = beside.other } in
    let long = front_long beside.shut.gate beside.shut.magic from beside.shut.kind in
    let kept = torn_begins slot at n (beside.shut.gate ∷ beside.shut.magic) there d c (omega (arith, le, long)) begins torn in
    record {
      shut = record { gate = beside.shut.gate; magic = beside.shut.magic; behind = kept.behind; here = kept.here; closed = beside.shut.closed; kind = beside.shut.kind };
      other = kept.other;
    }

module _ {D : Type 0} (moment : D → ℕ) (left_since : D → ℕ → Image → Type 0) (images : D → Image → Type 0) where
  begun : (old : D) (P : Image → Type 0) → ((c : Image) → left_since old (moment old) c → images old c) → ((c : Image) → images old c → P c) → Run moment left_since images old old P
  begun old P only_now shut = record { leaves = record { later = omega arith; each = λ c left. shut c (only_now c left); before = λ t c le left. inl left }; now = shut }

  pub keeps_none : (slot : Slot) (at : ℕ) (old : D) → ((c : Image) → left_since old (moment old) c → images old c) → KeepsShut moment left_since images slot at old old
  keeps_none slot at old only_now from there le shut =
      let run = begun old (ShutBeside slot from there) only_now shut in
      record { leaves = run.leaves; now = run.now }

  pub keeps_wrote : (slot : Slot) (at n : ℕ) (old new : D) → ((c : Image) → left_since old (moment old) c → images old c) → Follows (TornIn slot at n) (images old) (images new) → Elapses (moment old) (moment new) (left_since old) (left_since new) (images new) → KeepsShut moment left_since images slot at old new
  keeps_wrote slot at n old new only_now follows time from there le shut =
      let run = wrote moment left_since images old old new (ShutBeside slot from there) slot at n (begun old (ShutBeside slot from there) only_now shut) follows time
      (λ d c beside torn. shut_torn slot from at n there d c le beside torn) in
      record { leaves = run.leaves; now = run.now }

  pub keeps_stayed : (slot : Slot) (at : ℕ) (old new : D) → ((c : Image) → left_since old (moment old) c → images old c) → Within (images old) (images new) → Elapses (moment old) (moment new) (left_since old) (left_since new) (images new) → KeepsShut moment left_since images slot at old new
  keeps_stayed slot at old new only_now within time from there le shut =
      let run = stayed moment left_since images old old new (ShutBeside slot from there) (begun old (ShutBeside slot from there) only_now shut) within time in
      record { leaves = run.leaves; now = run.now }

  pub keeps_then : (slot : Slot) (at later : ℕ) (old mid new : D) → at ≤ later → KeepsShut moment left_since images slot at old mid → KeepsShut moment left_since images slot later mid new → KeepsShut moment left_since images slot at old new
  keeps_then slot at later old mid new le first second from there before shut =
      let one = first from there before shut in
      let two = second from there (omega (arith, before, le)) one.now in
      record { leaves = joined moment left_since images old mid new (ShutBeside slot from there) one.leaves two.leaves; now = two.now }

pub adds_none : (slot : Slot) (at : ℕ) (image : Image) → Adds slot at [] image image
adds_none slot at image front there is begins = subst (λ (l : List ℕ). Begins slot l there image) (sym (append-nil front)) begins

pub adds_wrote : (slot : Slot) (at : ℕ) (piece : List ℕ) (d c : Image) → c ≡ put_in d slot (spliced (bytes_in d slot) at piece) → Adds slot at piece d c
adds_wrote slot at piece d c put front there is begins = written_begins slot at front there piece d c is begins put

pub adds_then : (slot : Slot) (at later : ℕ) (p q : List ℕ) (d m c : Image) → later ≡ at + length p → Adds slot at p d m → Adds slot later q m c → Adds slot at (p ++ q) d c
adds_then slot at later p q d m c reaches first second front there is begins =
    let long : length (front ++ p) ≡ later = length-append front p ∙ omega (arith, is, reaches) in
    subst (λ (l : List ℕ). Begins slot l there c) (append_assoc front p q) (second (front ++ p) there long (first front there is begins))

pub adds_within : (slot : Slot) (at : ℕ) (piece : List ℕ) (d c : Image) → at ≤ length (bytes_in d slot) → Adds slot at piece d c → at + length piece ≤ length (bytes_in c slot)
adds_within slot at piece d c le adds =
    let size : length (take at (bytes_in d slot)) ≡ at = length-take-le at (bytes_in d slot) le in
    let begins = adds (take at (bytes_in d slot)) (bytes_in d (opposite slot)) size (begins_at slot at d) in
    omega (arith, size, begins_long slot (take at (bytes_in d slot) ++ piece) (bytes_in d (opposite slot)) c begins, length-append (take at (bytes_in d slot)) piece)

-- a gate that is closed makes its slot unmade
pub beside_unmade : (slot : Slot) (from : ℕ) (there : List ℕ) (c : Image) → ShutBeside slot from there c → Stands slot Unmade there c
beside_unmade slot from there c beside = record {
  here = ap slot_state beside.shut.here ∙ unmade_front beside.shut.gate beside.shut.magic beside.shut.behind from beside.shut.closed beside.shut.kind;
  other = beside.other;
}

-- the length that is written in front of a payload
pub head_is : (four : List ℕ) (n : ℕ) → four ≡ to_be_bytes w32 n → 1 ∷ get_or four 0 0 ∷ get_or four 1 0 ∷ get_or four 2 0 ∷ get_or four 3 0 ∷ [] ≡ 1 ∷ to_be_bytes w32 n
head_is four n is = rw is refl
