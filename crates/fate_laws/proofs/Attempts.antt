-- Attempts that have ended stay as they are.
use Rattle.flow_model.specs.Conditions.{holds}
use Rattle.flow_model.specs.Fates.{ended}
use Rattle.flow_model.specs.Scopes.{Gives, Trial, tries, and_then, gives}
use Rattle.flow_model.specs.declared.graphs.Container.{Container}
use Rattle.flow_model.specs.declared.graphs.Expr.{Expr}
use Rattle.std.proofs.Common.{◌≡◌, ℕ, zero, suc, ◌+◌, ◌≤◌, Bool, true, false, List, [], ◌∷◌, refl, ap, Option, Some, None, arith}
use Rattle.std.specs.List.{last_or}

-- whether the exit condition is true on the last attempt
abbrev pub closed_by : Option Expr → Option Container → Bool
closed_by exit None = false
closed_by exit (Some out) = holds exit out

abbrev pub closed : Option Expr → List Container → Bool
closed exit outs = closed_by exit (last_or None outs)

pub closed_tail : (exit : Option Expr) (x : Container) (rest : List Container) → holds exit x ≡ false → closed exit (x ∷ rest) ≡ true → closed exit rest ≡ true
closed_tail exit x [] fails h = cc
closed_tail exit x (y ∷ ys) fails h = h

-- what holds of each attempt that starts
abbrev pub Along : (ℕ → Container → Type 0) → Gives → Trial → ℕ → ℕ → Container → Type 0
Along q gives t zero j input = Unit {0}
Along q gives t (suc n) j input =
    q j input × ((out : Container) → gives j input ≡ Some out → holds t.exit out ≡ false → Along q gives t n (j + 1) (t.loops out))

-- what the first gives, the second gives
abbrev pub Keeps : Gives → Gives → ℕ → Container → Type 0
Keeps gives gives' j i = (out : Container) → gives j i ≡ Some out → gives' j i ≡ Some out

module _ (gives gives' : Gives) (t : Trial) where
  pub tries_kept : (n m j : ℕ) (input : Container) → n ≤ m → Along (Keeps gives gives') gives t n j input → closed t.exit (tries n gives t j input) ≡ true
      → tries m gives' t j input ≡ tries n gives t j input
  tries_kept zero m j input le along done = cc
  tries_kept (suc n) zero j input le along done = absurd (omega arith)
  tries_kept (suc n) (suc m) j input le along done =
      go (gives j input) refl (λ out more. tries_kept n m (j + 1) (t.loops out) (omega arith) more)
    where
      Rest : Container → Type 0
      Rest out = Along (Keeps gives gives') gives t n (j + 1) (t.loops out) → closed t.exit (tries n gives t (j + 1) (t.loops out)) ≡ true
          → tries m gives' t (j + 1) (t.loops out) ≡ tries n gives t (j + 1) (t.loops out)

      on_exit : (out : Container) → Rest out → (holds t.exit out ≡ false → Along (Keeps gives gives') gives t n (j + 1) (t.loops out))
          → closed t.exit (and_then t (Some out) (λ o. tries n gives t (j + 1) (t.loops o))) ≡ true
          → (b : Bool) → holds t.exit out ≡ b
          → and_then t (Some out) (λ o. tries m gives' t (j + 1) (t.loops o)) ≡ and_then t (Some out) (λ o. tries n gives t (j + 1) (t.loops o))
      on_exit out rest more ended true is = rw is refl
      on_exit out rest more ended false is =
          rw is (ap (λ os. out ∷ os) (rest (more is) (closed_tail t.exit out (tries n gives t (j + 1) (t.loops out)) is (rw is at ended))))

      go : (r : Option Container) → gives j input ≡ r → ((out : Container) → Rest out)
          → tries (suc m) gives' t j input ≡ tries (suc n) gives t j input
      go None is rest =
          let ended : closed t.exit (and_then t None (λ o. tries n gives t (j + 1) (t.loops o))) ≡ true = rw is at done in
          cc
      go (Some out) is rest =
          rw (along.0 out is, is) (on_exit out (rest out) (along.1 out is) (rw is at done) (holds t.exit out) refl)

pub along_all : (q : ℕ → Container → Type 0) (gives : Gives) (t : Trial) → ((j : ℕ) (i : Container) → q j i) → (n j : ℕ) (input : Container) → Along q gives t n j input
along_all q gives t every zero j input = tt
along_all q gives t every (suc n) j input = (every j input, λ out is more. along_all q gives t every n (j + 1) (t.loops out))
