-- One more change joins the record of a disk in memory.
use Rattle.std.proofs.Common.{◌≡◌, ◌⊎◌, inl, inr, ℕ, ◌+◌, List, [], ◌∷◌, ◌++◌, length, Vec, Bool, true, false, if◌then◌else◌, refl, sym, ap, subst, ◌∙◌, arith, length-append}
use Rattle.std.proofs.lemmas.List.{take_all, take-append-le}
use Rattle.std.proofs.lemmas.Bool.{cases_lt}
use Rattle.std.specs.declared.alloc.Global.{Global}
use Rattle.flow_disk.specs.declared.disk.Slot.{Slot}
use Rattle.flow_disk.specs.declared.change.Change.{Change}
use Rattle.flow_disk.specs.declared.change.Change.TheVariants.{Wrote, Synced}
use Rattle.flow_disk.specs.Images.{Image, bytes_in, put_in, spliced, TornIn}
use Rattle.flow_disk.specs.Moments.{Elapses, Follows, Within, Only}
use Rattle.flow_disk.specs.Replay.{read_after, LeftAfter, MayLeave, LeftSince}
use Rattle.flow_disk.specs.Laws.{honest_now}

pub read_wrote : (changes : List Change) (seen : Image) (slot : Slot) (at : ℕ) (v : Vec ℕ Global) → read_after seen (changes ++ Wrote slot at v ∷ []) ≡ put_in (read_after seen changes) slot (spliced (bytes_in (read_after seen changes) slot) at v.items)
read_wrote [] seen slot at v = refl
read_wrote (Wrote s i b ∷ changes) seen slot at v = read_wrote changes (put_in seen s (spliced (bytes_in seen s) i b.items)) slot at v
read_wrote (Synced ∷ changes) seen slot at v = read_wrote changes seen slot at v

pub read_synced : (changes : List Change) (seen : Image) → read_after seen (changes ++ Synced ∷ []) ≡ read_after seen changes
read_synced [] seen = refl
read_synced (Wrote s i b ∷ changes) seen = read_synced changes (put_in seen s (spliced (bytes_in seen s) i b.items))
read_synced (Synced ∷ changes) seen = read_synced changes seen

left_wrote : (changes : List Change) (seen : Image) (images : Image → Type 0) (slot : Slot) (at : ℕ) (v : Vec ℕ Global) (c : Image) → LeftAfter seen images (changes ++ Wrote slot at v ∷ []) c → (d : Image) × LeftAfter seen images changes d × TornIn slot at (length v.items) d c
left_wrote [] seen images slot at v c left = left
left_wrote (Wrote s i b ∷ changes) seen images slot at v c left =
    left_wrote changes (put_in seen s (spliced (bytes_in seen s) i b.items)) (λ e. (d : Image) × images d × TornIn s i (length b.items) d e) slot at v c left
left_wrote (Synced ∷ changes) seen images slot at v c left = left_wrote changes seen (λ e. e ≡ seen) slot at v c left

left_synced : (changes : List Change) (seen : Image) (images : Image → Type 0) (c : Image) → LeftAfter seen images (changes ++ Synced ∷ []) c → c ≡ read_after seen changes
left_synced [] seen images c left = left
left_synced (Wrote s i b ∷ changes) seen images c left =
    left_synced changes (put_in seen s (spliced (bytes_in seen s) i b.items)) (λ e. (d : Image) × images d × TornIn s i (length b.items) d e) c left
left_synced (Synced ∷ changes) seen images c left = left_synced changes seen (λ e. e ≡ seen) c left

-- nothing happened
pub stays_since : (first : Image) (old new : List Change) → new ≡ old → Elapses (length old) (length new) (LeftSince first old) (LeftSince first new) (MayLeave first new)
stays_since first old new same = subst (λ (l : List Change). Elapses (length old) (length l) (LeftSince first old) (LeftSince first l) (MayLeave first l)) (sym same)
    (record { later = omega arith; nothing_else = λ t c le left. inl left; keeps = λ t c le left. left })

pub stays_left : (first : Image) (old new : List Change) → new ≡ old → Within (MayLeave first old) (MayLeave first new)
stays_left first old new same c left = subst (λ (l : List Change). MayLeave first l c) same left

module _ (first : Image) (old : List Change) (change : Change) where
  keeps : (t : ℕ) (c : Image) → LeftSince first old t c → LeftSince first (old ++ change ∷ []) t c
  keeps t c left =
      let size : length (old ++ change ∷ []) ≡ length old + 1 = simp length-append (omega arith) in
      (left.0, left.1, omega (arith, left.2), subst (λ (l : List Change). MayLeave first l c) (sym (take-append-le left.0 old (change ∷ []) left.2)) left.3)

  splits : (t : ℕ) (c : Image) → LeftSince first (old ++ change ∷ []) t c → LeftSince first old t c ⊎ MayLeave first (old ++ change ∷ []) c
  splits t c left =
      let size : length (old ++ change ∷ []) ≡ length old + 1 = simp length-append (omega arith) in
      elim (cases_lt (length old) left.0) [
        | inl all ↦ inr (subst (λ (l : List Change). MayLeave first l c) (take_all left.0 (old ++ change ∷ []) (omega arith)) left.3)
        | inr part ↦ inl (left.0, left.1, part, subst (λ (l : List Change). MayLeave first l c) (take-append-le left.0 old (change ∷ []) part) left.3)
      ]

  pub pushed_since : (new : List Change) → new ≡ old ++ change ∷ [] → Elapses (length old) (length new) (LeftSince first old) (LeftSince first new) (MayLeave first new)
  pushed_since new is = subst (λ (l : List Change). Elapses (length old) (length l) (LeftSince first old) (LeftSince first l) (MayLeave first l)) (sym is)
      (record { later = simp length-append (omega arith); nothing_else = λ t c le left. splits t c left; keeps = λ t c le left. keeps t c left })

pub wrote_left : (first : Image) (old new : List Change) (slot : Slot) (at : ℕ) (v : Vec ℕ Global) (bytes : List ℕ) → v.items ≡ bytes → new ≡ old ++ Wrote slot at v ∷ [] → Follows (TornIn slot at (length bytes)) (MayLeave first old) (MayLeave first new)
wrote_left first old new slot at v bytes same is c left =
    let torn = left_wrote old first (λ e. e ≡ first) slot at v c (subst (λ (l : List Change). MayLeave first l c) is left) in
    (torn.0, torn.1, subst (λ (l : List ℕ). TornIn slot at (length l) torn.0 c) same torn.2)

pub synced_only : (first : Image) (old new : List Change) → new ≡ old ++ Synced ∷ [] → Only (read_after first old) (MayLeave first new)
synced_only first old new is c left = left_synced old first (λ e. e ≡ first) c (subst (λ (l : List Change). MayLeave first l c) is left)

pub synced_left : (first : Image) (old new : List Change) → new ≡ old ++ Synced ∷ [] → Within (MayLeave first old) (MayLeave first new)
synced_left first old new is c left = subst (MayLeave first old) (sym (synced_only first old new is c left)) (honest_now first old)

-- a sync that is recorded or not changes nothing of what a read gives
pub read_maybe_synced : (b : Bool) (first seen : Image) (old new : List Change) → new ≡ (if b then old ++ Synced ∷ [] else old) → read_after first old ≡ seen → read_after first new ≡ seen
read_maybe_synced true first seen old new is was = ap (read_after first) is ∙ (read_synced old first ∙ was)
read_maybe_synced false first seen old new is was = ap (read_after first) is ∙ was

pub read_pushed : (first seen : Image) (old new : List Change) (slot : Slot) (at : ℕ) (v : Vec ℕ Global) (bytes next : List ℕ) (now : Image) → new ≡ old ++ Wrote slot at v ∷ [] → read_after first old ≡ seen → v.items ≡ bytes → next ≡ spliced (bytes_in seen slot) at bytes → now ≡ put_in seen slot next → read_after first new ≡ now
read_pushed first seen old new slot at v bytes next now is was same cut put =
    ap (read_after first) is ∙ (read_wrote old first slot at v ∙ (ap (λ (i : Image). put_in i slot (spliced (bytes_in i slot) at v.items)) was ∙ (ap (λ (l : List ℕ). put_in seen slot (spliced (bytes_in seen slot) at l)) same ∙ (ap (put_in seen slot) (sym cut) ∙ sym put))))
