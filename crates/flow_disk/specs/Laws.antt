-- Laws of a disk in memory. They stand here since an impl names them.
use Rattle.std.proofs.Common.{◌≡◌, ℕ, ◌+◌, ◌-◌, ◌≤◌, ◌<◌, min, List, [], ◌∷◌, ◌++◌, length, take, drop, refl, sym, ap}
use Rattle.std.proofs.Common.{subst, ◌∙◌, arith, length-append, append_assoc}
use Rattle.std.proofs.lemmas.List.{length-take, length-drop, take_all, drop_all, take_at, drop_at}
use Rattle.std.proofs.lemmas.Bool.{cases_lt}
use mathlib.Core.Logic.{inl, inr}
use Rattle.flow_disk.specs.declared.disk.Slot.{Slot}
use Rattle.flow_disk.specs.declared.disk.Slot.TheVariants.{A, B}
use Rattle.flow_disk.specs.declared.change.Change.{Change}
use Rattle.flow_disk.specs.declared.change.Change.TheVariants.{Wrote, Synced}
use Rattle.flow_disk.specs.Images.{Image, bytes_in, put_in, spliced, Torn, TornIn}
use Rattle.flow_disk.specs.Replay.{read_after, LeftAfter, MayLeave, LeftSince}

-- a write that is done is one that a crash may have left
torn_within : (old bytes : List ℕ) (at : ℕ) → at ≤ length old → Torn at (length bytes) old (spliced old at bytes)
torn_within old bytes at le =
    let size : length (take at old) ≡ at = simp length-take (omega arith) in
    let long : length (spliced old at bytes) ≡ length (take at old) + length bytes
    + length (drop (at + length bytes) old) = simp length-append (omega arith) in
    let rest : length (drop (at + length bytes) old)
    ≡ length old - (at + length bytes) = length-drop (at + length bytes) old in
    let point : min at (length old) ≡ at = omega arith in
    record {
      before = rw point (ap (λ (l : List ℕ). take at l)
          (append_assoc (take at old) bytes (drop (at + length bytes) old)) ∙ take_at (take at old)
          (bytes ++ drop (at + length bytes) old) at size);
      after = drop_at (take at old ++ bytes) (drop (at + length bytes) old) (at + length bytes)
          (simp length-append (omega arith));
      no_shorter = omega arith;
      no_longer = omega arith;
    }

torn_behind : (old bytes : List ℕ) (at : ℕ) → length old < at → Torn at (length bytes) old (spliced old at bytes)
torn_behind old bytes at lt =
    let all : take at old ≡ old = take_all at old (omega arith) in
    let none : drop (at + length bytes) old ≡ [] = drop_all (at + length bytes) old (omega arith) in
    let is : spliced old at bytes ≡ (old ++ bytes) ++ [] = rw (all, none) refl in
    let long : length ((old ++ bytes) ++ []) ≡ length old + length bytes = simp length-append (omega arith) in
    let point : min at (length old) ≡ length old = omega arith in
    let short : length ((old ++ bytes) ++ []) ≤ at + length bytes = omega arith in
    rw (all, none) (record {
      before = rw point (ap (λ (l : List ℕ). take (length old) l) (append_assoc old bytes []) ∙
          (take_at old (bytes ++ []) (length old) refl ∙ sym (take_all (length old) old (omega arith))));
      after = drop_all (at + length bytes) ((old ++ bytes) ++ []) short ∙ sym none;
      no_shorter = omega arith;
      no_longer = omega arith;
    })

pub torn_spliced : (old bytes : List ℕ) (at : ℕ) → Torn at (length bytes) old (spliced old at bytes)
torn_spliced old bytes at = elim (cases_lt (length old) at)
    [ inl lt ↦ torn_behind old bytes at lt | inr le ↦ torn_within old bytes at le ]

pub torn_put : (slot : Slot) (at : ℕ) (bytes : List ℕ) (old : Image)
    → TornIn slot at (length bytes) old (put_in old slot (spliced (bytes_in old slot) at bytes))
torn_put A at bytes old = record { here = torn_spliced old.a bytes at; there = refl }
torn_put B at bytes old = record { here = torn_spliced old.b bytes at; there = refl }

pub honest_from : (changes : List Change) (seen : Image) (images : Image → Type 0) → images seen
    → LeftAfter seen images changes (read_after seen changes)
honest_from [] seen images here = here
honest_from (Wrote slot at bytes ∷ changes) seen images here =
    honest_from changes (put_in seen slot (spliced (bytes_in seen slot) at bytes.items))
    (λ e. (d : Image) × images d × TornIn slot at (length bytes.items) d e)
    (seen, here, torn_put slot at bytes.items seen)
honest_from (Synced ∷ changes) seen images here = honest_from changes seen (λ e. e ≡ seen) refl

pub honest_now : (first : Image) (changes : List Change) → MayLeave first changes (read_after first changes)
honest_now first changes = honest_from changes first (λ e. e ≡ first) refl

pub now_counts : (first : Image) (changes : List Change) (t : ℕ) (c : Image) → t ≤ length changes
    → MayLeave first changes c → LeftSince first changes t c
now_counts first changes t c le now = (
  length changes,
  le,
  omega arith,
  subst (λ (l : List Change). MayLeave first l c)
      (sym (take_all (length changes) changes (omega arith))) now,
)

pub now_only : (first : Image) (changes : List Change) (c : Image) → LeftSince first changes (length changes) c
    → MayLeave first changes c
now_only first changes c left = subst (λ (l : List Change). MayLeave first l c) (take_all left.0 changes left.1) left.3
