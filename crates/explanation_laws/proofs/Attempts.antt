-- The attempts of an activity whose last one holds, as the lines of a certificate ask for them.
use Rattle.std.proofs.Common.{◌≡◌, ◌⊎◌, ℕ, zero, suc, ◌+◌, ◌-◌, ◌<◌, ◌≤◌, ◌==◌, Bool, true, false, not, ◌&&◌, List, [], ◌∷◌, length, Option, Some, None, refl, sym, ap, subst, ◌∙◌, arith, inl, inr}
use Rattle.std.specs.List.{last_or, list_all}
use Rattle.std.proofs.lemmas.Bool.{cases_lt, cond-true, false≢true}
use Rattle.std.proofs.lemmas.Bool.Decides.{eqb_tells}
use Rattle.std.proofs.lemmas.Option.{same_Some, none-some}
use Rattle.flow_model.specs.declared.graphs.Container.{Container}
use Rattle.flow_model.specs.declared.graphs.Expr.{Expr}
use Rattle.flow_model.specs.Conditions.{holds}
use Rattle.flow_model.specs.ScopeContainers.{up_to}
use Rattle.flow_model.specs.Scopes.{Gives, Trial, tries}
use Rattle.fate_laws.proofs.Extends.{both_true}
use Rattle.certificates.specs.Told.{goes_on, stops, final}
use Rattle.explanation_laws.proofs.Lists.{all_up}

module _ (exit : Option Expr) (given : ℕ → Option Container) where
  -- of n attempts from attempt j on, each goes on but the last, which gave this
  pub record IsChain (j n : ℕ) (out : Container) : Type 0 where
    pub goes : (l : ℕ) → j ≤ l → l + 1 < j + n → goes_on exit (given l) ≡ true
    pub last : (l : ℕ) → l + 1 ≡ j + n → stops exit (given l) ≡ Some out

  -- such attempts from the first on have this final output
  pub chain_final : (n : ℕ) (out : Container) → 0 < n → IsChain 1 n out → final exit given n ≡ Some out
  chain_final n out pos chain =
      let all : list_all (λ j. goes_on exit (given j)) (up_to (n - 1) 1) ≡ true =
      all_up (λ j. goes_on exit (given j)) (n - 1) 1 (λ l low high. chain.goes l low (omega (arith, high, pos))) in
      elim (eqb_tells n 0) [
        | inl none ↦ absurd (omega (arith, pos, none.1))
        | inr counted ↦
            cond-true (not (n == 0) && list_all (λ j. goes_on exit (given j)) (up_to (n - 1) 1)) (stops exit (given n)) None
            (both_true (not (n == 0)) _ (ap not counted.0) all)
            ∙ chain.last n (omega arith)
      ]

  pub stop_of : (o : Option Container) (out : Container) → o ≡ Some out → holds exit out ≡ true → stops exit o ≡ Some out
  stop_of o out is h = rw (is, h) refl

  pub go_of : (o : Option Container) (out : Container) → o ≡ Some out → holds exit out ≡ false → goes_on exit o ≡ true
  go_of o out is h = rw (is, h) refl

module _ (gives : Gives) (t : Trial) (given : ℕ → Option Container) (most : ℕ)
    (same : (j : ℕ) (i : Container) → 1 ≤ j → j ≤ most → gives j i ≡ given j) where
  -- attempts of which the last output holds are such a chain
  pub tries_chain : (count j : ℕ) (i out : Container) (d : Option Container) → 1 ≤ j → j + count ≤ most + 1
      → 0 < length (tries count gives t j i) → last_or d (tries count gives t j i) ≡ Some out → holds t.exit out ≡ true
      → IsChain t.exit given j (length (tries count gives t j i)) out
  tries_chain zero j i out d pos few some last h = absurd (omega (arith, some))
  tries_chain (suc count) j i out d pos few some last h =
      by_output (gives j i) refl
      (λ o long last_. tries_chain count (j + 1) (t.loops o) out (Some o) (omega arith) (omega (arith, few)) long last_ h)
    where
      Goal : Type 0
      Goal = IsChain t.exit given j (length (tries (suc count) gives t j i)) out

      gave : (o : Container) → gives j i ≡ Some o → given j ≡ Some o
      gave o is = sym (same j i pos (omega (arith, few))) ∙ is

      only : (o : Container) → gives j i ≡ Some o → holds t.exit o ≡ true → Goal
      only o is closes =
          let one : tries (suc count) gives t j i ≡ o ∷ [] = rw (is, closes) refl in
          let same_out : o ≡ out = same_Some o out (sym (ap (last_or d) one) ∙ last) in
          subst (λ (n : ℕ). IsChain t.exit given j n out) (sym (ap (λ (os : List Container). length os) one))
          (record {
            goes = λ l low high. absurd (omega (arith, low, high));
            last = λ l is_l. let here : l ≡ j = omega (arith, is_l) in
                stop_of t.exit given (given l) out (ap given here ∙ gave o is ∙ ap Some same_out) h;
          })

      rest_of : (o : Container) → List Container
      rest_of o = tries count gives t (j + 1) (t.loops o)

      more : (o : Container) → gives j i ≡ Some o → holds t.exit o ≡ false
          → (0 < length (rest_of o) → last_or (Some o) (rest_of o) ≡ Some out → IsChain t.exit given (j + 1) (length (rest_of o)) out) → Goal
      more o is open_ later =
          let all : tries (suc count) gives t j i ≡ o ∷ rest_of o = rw (is, open_) refl in
          let last_ : last_or (Some o) (rest_of o) ≡ Some out = sym (ap (last_or d) all) ∙ last in
          subst (λ (n : ℕ). IsChain t.exit given j n out) (sym (ap (λ (os : List Container). length os) all))
          (longer (rest_of o) last_ (λ long. later long last_))
        where
          longer : (os : List Container) → last_or (Some o) os ≡ Some out → (0 < length os → IsChain t.exit given (j + 1) (length os) out)
              → IsChain t.exit given j (suc (length os)) out
          longer [] last_ chain = absurd (false≢true (sym open_ ∙ ap (holds t.exit) (same_Some o out last_) ∙ h))
          longer (x ∷ os) last_ chain =
              let c = chain (omega arith) in
              record {
                goes = λ l low high. by_first l low high (cases_lt j l) c;
                last = λ l is_l. c.last l (omega (arith, is_l));
              }
            where
              by_first : (l : ℕ) → j ≤ l → l + 1 < j + suc (suc (length os)) → (j < l) ⊎ (l ≤ j)
                  → IsChain t.exit given (j + 1) (suc (length os)) out → goes_on t.exit (given l) ≡ true
              by_first l low high (inl further) c = c.goes l (omega (arith, further)) (omega (arith, high))
              by_first l low high (inr here) c =
                  let first : l ≡ j = omega (arith, low, here) in
                  go_of t.exit given (given l) o (ap given first ∙ gave o is) open_

      on_exit : (o : Container) → gives j i ≡ Some o → (b : Bool) → holds t.exit o ≡ b
          → (0 < length (rest_of o) → last_or (Some o) (rest_of o) ≡ Some out → IsChain t.exit given (j + 1) (length (rest_of o)) out) → Goal
      on_exit o is true e later = only o is e
      on_exit o is false e later = more o is e later

      by_output : (r : Option Container) → gives j i ≡ r
          → ((o : Container) → 0 < length (rest_of o) → last_or (Some o) (rest_of o) ≡ Some out → IsChain t.exit given (j + 1) (length (rest_of o)) out)
          → Goal
      by_output None is later =
          let none : tries (suc count) gives t j i ≡ [] = rw is refl in
          let long = ap (λ (os : List Container). length os) none in
          absurd (omega (arith, some, long))
      by_output (Some o) is later = on_exit o is (holds t.exit o) refl (later o)

-- of attempts of which one is the last, there is one
pub some_last : (os : List Container) (out : Container) → last_or None os ≡ Some out → 0 < length os
some_last [] out is = absurd (none-some out is)
some_last (o ∷ os) out is = omega arith

-- there are no more outputs than attempts
pub tries_few : (gives : Gives) (t : Trial) (n j : ℕ) (i : Container) → length (tries n gives t j i) ≤ n
tries_few gives t zero j i = omega arith
tries_few gives t (suc n) j i = by_output (gives j i) refl (λ o. tries_few gives t n (j + 1) (t.loops o))
  where
    on_exit : (o : Container) → gives j i ≡ Some o → (b : Bool) → holds t.exit o ≡ b → length (tries n gives t (j + 1) (t.loops o)) ≤ n
        → length (tries (suc n) gives t j i) ≤ suc n
    on_exit o is true e rest = rw (is, e) (omega arith)
    on_exit o is false e rest = rw (is, e) (omega (arith, rest))

    by_output : (r : Option Container) → gives j i ≡ r → ((o : Container) → length (tries n gives t (j + 1) (t.loops o)) ≤ n)
        → length (tries (suc n) gives t j i) ≤ suc n
    by_output None is rest = rw is (omega arith)
    by_output (Some o) is rest = on_exit o is (holds t.exit o) refl (rest o)

-- ---- attempts one by one

module _ (gives : Gives) (t : Trial) (n j : ℕ) (i : Container) where
  pub tries_none : gives j i ≡ None → tries (suc n) gives t j i ≡ []
  tries_none is = rw is refl

  pub tries_one : (o : Container) → gives j i ≡ Some o → holds t.exit o ≡ true → tries (suc n) gives t j i ≡ o ∷ []
  tries_one o is closes = rw (is, closes) refl

  pub tries_more : (o : Container) → gives j i ≡ Some o → holds t.exit o ≡ false → tries (suc n) gives t j i ≡ o ∷ tries n gives t (j + 1) (t.loops o)
  tries_more o is goes = rw (is, goes) refl

-- where attempts give nothing, there is no output
pub no_tries : (gives : Gives) (t : Trial) (n j : ℕ) (i : Container) → gives j i ≡ None → tries n gives t j i ≡ []
no_tries gives t zero j i is = refl
no_tries gives t (suc n) j i is = tries_none gives t n j i is

-- behind an attempt that isn't the last, there is another
pub some_rest : (exit : Option Expr) (o out : Container) (os : List Container) → last_or (Some o) os ≡ Some out → holds exit o ≡ false → holds exit out ≡ true → 0 < length os
some_rest exit o out [] last goes closes = absurd (false≢true (sym goes ∙ ap (holds exit) (same_Some o out last) ∙ closes))
some_rest exit o out (x ∷ os) last goes closes = omega arith
