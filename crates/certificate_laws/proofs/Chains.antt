-- Attempts one after the other: the input of the next, and their outputs once one is the last.
use Rattle.std.proofs.Common.{◌≡◌, ℕ, zero, suc, ◌+◌, ◌<◌, ◌≤◌, ◌==◌, Bool, true, false, not, List, length, Option, Some, None, refl, sym, ap, subst, ◌∙◌, arith, inl, inr}
use Rattle.std.specs.List.{last_or}
use Rattle.std.proofs.lemmas.Bool.{false≢true}
use Rattle.std.proofs.lemmas.Bool.Decides.{eqb_tells}
use Rattle.std.proofs.lemmas.Option.{same_Some, none-some}
use Rattle.flow_model.specs.declared.graphs.Container.{Container}
use Rattle.flow_model.specs.declared.graphs.Expr.{Expr}
use Rattle.flow_model.specs.Conditions.{holds}
use Rattle.flow_model.specs.Scopes.{Gives, Trial, tries}
use Rattle.certificates.specs.Told.{goes_on, stops}
use Rattle.certificate_laws.specs.Standings.{attempt_input}

test_same : (j c : ℕ) → j ≡ c → (j == c) ≡ true
test_same j c e = elim (eqb_tells j c) [ inl is ↦ is.0 | inr other ↦ absurd (other.1 e) ]

test_other : (j c : ℕ) → (j ≡ c → ⊥) → (j == c) ≡ false
test_other j c ne = elim (eqb_tells j c) [ inl is ↦ absurd (ne is.1) | inr other ↦ other.0 ]

-- the first attempt has the first input
pub first_attempt : (n : ℕ) (gives : Gives) (t : Trial) (j c : ℕ) (i : Container) → j ≡ c → attempt_input (suc n) gives t j i c ≡ Some i
first_attempt n gives t j c i e = rw (test_same j c e) refl

module _ (gives : Gives) (t : Trial) where
  -- what an attempt that went on leads to
  went_on : (n j c : ℕ) (i o : Container) → (j ≡ c → ⊥) → gives j i ≡ Some o → holds t.exit o ≡ false → attempt_input (suc n) gives t j i c ≡ attempt_input n gives t (j + 1) (t.loops o) c
  went_on n j c i o ne gave open_ = rw (test_other j c ne, gave, open_) refl

  -- the attempt behind one that gave this and went on
  pub next_attempt : (n j c : ℕ) (i k o : Container) → j ≤ c → c + 1 < n + j → attempt_input n gives t j i c ≡ Some k → gives c k ≡ Some o → holds t.exit o ≡ false
      → attempt_input n gives t j i (c + 1) ≡ Some (t.loops o)
  next_attempt zero j c i k o le less is gave open_ = absurd (none-some k is)
  next_attempt (suc n) j c i k o le less is gave open_ = elim (eqb_tells j c) [
    | inl here ↦
        let first : attempt_input (suc n) gives t j i c ≡ Some i = first_attempt n gives t j c i here.1 in
        let same : i ≡ k = same_Some i k (sym first ∙ is) in
        let gave_ : gives j i ≡ Some o = ap (λ l. gives l i) here.1 ∙ ap (gives c) same ∙ gave in
        went_on n j (c + 1) i o (λ e. omega (arith, e, here.1)) gave_ open_ ∙ second n (omega (arith, less, here.1)) (omega (arith, here.1))
    | inr other ↦ later (gives j i) refl other.1 (λ u lt there. next_attempt n (j + 1) c (t.loops u) k o lt (omega (arith, less)) there gave open_)
  ]
    where
      second : (m : ℕ) → 0 < m → j + 1 ≡ c + 1 → attempt_input m gives t (j + 1) (t.loops o) (c + 1) ≡ Some (t.loops o)
      second zero pos e = absurd (omega arith)
      second (suc m) pos e = first_attempt m gives t (j + 1) (c + 1) (t.loops o) e

      later : (r : Option Container) → gives j i ≡ r → (j ≡ c → ⊥)
          → ((u : Container) → j + 1 ≤ c → attempt_input n gives t (j + 1) (t.loops u) c ≡ Some k → attempt_input n gives t (j + 1) (t.loops u) (c + 1) ≡ Some (t.loops o))
          → attempt_input (suc n) gives t j i (c + 1) ≡ Some (t.loops o)
      later None gave_ ne rest = absurd (none-some k (sym (nothing_ gave_ ne) ∙ is))
        where
          nothing_ : gives j i ≡ None → (j ≡ c → ⊥) → attempt_input (suc n) gives t j i c ≡ None
          nothing_ none other = rw (test_other j c other, none) refl
      later (Some u) gave_ ne rest = on_exit (holds t.exit u) refl
        where
          on_exit : (b : Bool) → holds t.exit u ≡ b → attempt_input (suc n) gives t j i (c + 1) ≡ Some (t.loops o)
          on_exit true closed_ = absurd (none-some k (sym (ended_ closed_) ∙ is))
            where
              ended_ : holds t.exit u ≡ true → attempt_input (suc n) gives t j i c ≡ None
              ended_ yes_ = rw (test_other j c ne, gave_, yes_) refl
          on_exit false going =
              went_on n j (c + 1) i u (λ e. omega (arith, e, le)) gave_ going
              ∙ rest u (strict (λ e. ne e)) (sym (went_on n j c i u ne gave_ going) ∙ is)
            where
              strict : (j ≡ c → ⊥) → j + 1 ≤ c
              strict other = omega (arith, other, le)

-- ---- outputs

goes_on_gave : (exit : Option Expr) (r : Option Container) → goes_on exit r ≡ true → (o : Container) × (r ≡ Some o) × (holds exit o ≡ false)
goes_on_gave exit None h = absurd (false≢true h)
goes_on_gave exit (Some o) h = (o, refl, not_true (holds exit o) h)
  where
    not_true : (b : Bool) → not b ≡ true → b ≡ false
    not_true true h = absurd (false≢true h)
    not_true false h = refl

pub stops_gave : (exit : Option Expr) (r : Option Container) (out : Container) → stops exit r ≡ Some out → (r ≡ Some out) × (holds exit out ≡ true)
stops_gave exit None out h = absurd (none-some out h)
stops_gave exit (Some o) out h = go (holds exit o) refl
  where
    go : (b : Bool) → holds exit o ≡ b → (Some o ≡ Some out) × (holds exit out ≡ true)
    go true is = let same : Some o ≡ Some out = rw is at h in (same, ap (holds exit) (sym (same_Some o out same)) ∙ is)
    go false is = absurd (none-some out (rw is at h))

-- the outputs of the attempts from one on, where attempt n is the last
pub record AreLast (outs : List Container) (count : ℕ) (out : Container) : Type 0 where
  pub counted : length outs ≡ count
  pub last : (d : Option Container) → last_or d outs ≡ Some out

module _ (gives : Gives) (t : Trial) (given : ℕ → Option Container) (most n : ℕ) (base out : Container) (within : n ≤ most)
    (goes : (j : ℕ) → 1 ≤ j → j < n → goes_on t.exit (given j) ≡ true) (stop : stops t.exit (given n) ≡ Some out)
    (gave : (j : ℕ) (i o : Container) → 1 ≤ j → j ≤ n → attempt_input (suc most) gives t 1 base j ≡ Some i → given j ≡ Some o → gives j i ≡ Some o) where
  pub last_tries : (m count j : ℕ) (i : Container) → 1 ≤ j → j + m ≡ n → m < count → attempt_input (suc most) gives t 1 base j ≡ Some i → AreLast (tries count gives t j i) (suc m) out
  last_tries m zero j i pos sum less is = absurd (omega arith)
  last_tries zero (suc count) j i pos sum less is =
      let here : n ≡ j = omega arith in
      let s = stops_gave t.exit (given n) out stop in
      let g : gives j i ≡ Some out = gave j i out pos (omega arith) is (ap given (sym here) ∙ s.0) in
      rw (g, s.1) (record { counted = refl; last = λ d. refl })
  last_tries (suc m) (suc count) j i pos sum less is =
      let on = goes_on_gave t.exit (given j) (goes j pos (omega arith)) in
      let g : gives j i ≡ Some on.0 = gave j i on.0 pos (omega arith) is on.1 in
      let next = next_attempt gives t (suc most) 1 j base i on.0 pos (omega arith) is g on.2 in
      one_more on.0 g on.2 (last_tries m count (j + 1) (t.loops on.0) (omega arith) (omega arith) (omega arith) next)
    where
      one_more : (o : Container) → gives j i ≡ Some o → holds t.exit o ≡ false → AreLast (tries count gives t (j + 1) (t.loops o)) (suc m) out → AreLast (tries (suc count) gives t j i) (suc (suc m)) out
      one_more o g open_ rest = rw (g, open_) (record { counted = ap suc rest.counted; last = λ d. rest.last (Some o) })

  pub all_tries : 1 ≤ n → AreLast (tries most gives t 1 base) n out
  all_tries pos = go n refl
    where
      go : (k : ℕ) → k ≡ n → AreLast (tries most gives t 1 base) n out
      go zero e = absurd (omega arith)
      go (suc m) e =
          subst (λ c. AreLast (tries most gives t 1 base) c out) e
          (last_tries m most 1 base (omega arith) (omega arith) (omega arith) (first_attempt most gives t 1 1 base refl))
