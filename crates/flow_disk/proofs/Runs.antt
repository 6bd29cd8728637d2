-- How a run of calls goes on: what has held of each image goes on to hold.
use Rattle.std.proofs.Common.{inl, inr, ⊎_elim, ℕ, arith, subst, sym}
use Rattle.flow_disk.specs.declared.disk.Slot.{Slot}
use Rattle.flow_disk.specs.Images.{Image, TornIn}
use Rattle.flow_disk.specs.Moments.{Elapses, Follows, Within, Only, LeavesOnly}

-- each image since old has P, and each image of now
pub record Run {D : Type 0} (moment : D → ℕ) (left_since : D → ℕ → Image → Type 0) (images : D → Image → Type 0) (old new : D) (P : Image → Type 0) : Type 0 where
  pub leaves : LeavesOnly moment left_since old new P
  pub now : (c : Image) → images new c → P c

module _ {D : Type 0} (moment : D → ℕ) (left_since : D → ℕ → Image → Type 0) (images : D → Image → Type 0) where
  -- before the first call
  pub started : (old : D) (seen : Image) (P : Image → Type 0) → ((c : Image) → left_since old (moment old) c → images old c) → Only seen (images old) → P seen → Run moment left_since images old old P
  started old seen P only_now only here =
      let now : (c : Image) → images old c → P c = λ c left. subst P (sym (only c left)) here in
      record { leaves = record { later = omega arith; each = λ c left. now c (only_now c left); before = λ t c le left. inl left }; now = now }

  pub goes_on : (old mid new : D) (P : Image → Type 0) → Run moment left_since images old mid P → Elapses (moment mid) (moment new) (left_since mid) (left_since new) (images new) → ((c : Image) → images new c → P c) → Run moment left_since images old new P
  goes_on old mid new P run time here =
      let so_far = run.leaves in
      record {
        leaves = record {
          later = omega (arith, so_far.later, time.later);
          each = λ c left. ⊎_elim (so_far.each c) (here c) (time.nothing_else (moment old) c so_far.later left);
          before = λ t c le left. ⊎_elim (so_far.before t c le) (λ now. inr (here c now)) (time.nothing_else t c (omega (arith, le, so_far.later)) left);
        };
        now = here;
      }

  -- a write that keeps P, whatever it tears
  pub wrote : (old mid new : D) (P : Image → Type 0) (slot : Slot) (at n : ℕ) → Run moment left_since images old mid P → Follows (TornIn slot at n) (images mid) (images new) → Elapses (moment mid) (moment new) (left_since mid) (left_since new) (images new) → ((d c : Image) → P d → TornIn slot at n d c → P c) → Run moment left_since images old new P
  wrote old mid new P slot at n run follows time keeps = goes_on old mid new P run time (λ c left. let from = follows c left in keeps from.0 c (run.now from.0 from.1) from.2)

  -- a sync, or a read
  pub stayed : (old mid new : D) (P : Image → Type 0) → Run moment left_since images old mid P → Within (images mid) (images new) → Elapses (moment mid) (moment new) (left_since mid) (left_since new) (images new) → Run moment left_since images old new P
  stayed old mid new P run within time = goes_on old mid new P run time (λ c left. run.now c (within c left))

  pub weaker : (old new : D) (P Q : Image → Type 0) → LeavesOnly moment left_since old new P → ((c : Image) → P c → Q c) → LeavesOnly moment left_since old new Q
  weaker old new P Q run leads = record {
    later = run.later;
    each = λ c left. leads c (run.each c left);
    before = λ t c le left. ⊎_elim (λ was. inl was) (λ here. inr (leads c here)) (run.before t c le left);
  }

  -- one step after another
  pub joined : (old mid new : D) (P : Image → Type 0) → LeavesOnly moment left_since old mid P → LeavesOnly moment left_since mid new P → LeavesOnly moment left_since old new P
  joined old mid new P first second = record {
    later = omega (arith, first.later, second.later);
    each = λ c left. ⊎_elim (first.each c) (λ here. here) (second.before (moment old) c first.later left);
    before = λ t c le left. ⊎_elim (first.before t c le) (λ here. inr here) (second.before t c (omega (arith, le, first.later)) left);
  }
