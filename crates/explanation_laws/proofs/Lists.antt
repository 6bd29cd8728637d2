-- Lists of which one element is added or changed, and the activity of a name.
use Rattle.std.proofs.Common.{◌≡◌, ◌⊎◌, ℕ, zero, suc, ◌+◌, ◌<◌, ◌≤◌, Bool, true, List, [], ◌∷◌, ◌++◌, length, Some, refl, ap, arith, inl, inr, ⊎_elim}
use Rattle.std.specs.Prelude.{slice_get, slice_set}
use Rattle.std.specs.List.{list_all}
use Rattle.flow_model.specs.declared.instances.SourceEnd.{SourceEnd}
use Rattle.flow_model.specs.Fates.{is_settled}
use Rattle.flow_model.specs.ScopeContainers.{up_to}
use Rattle.blocks_subprocs.specs.Ends.{ends_of}
use Rattle.fate_laws.proofs.Extends.{both_true}

-- what stands in the first list
pub in_front : {X : Type 0} (xs ys : List X) (i : ℕ) → i < length xs → slice_get (xs ++ ys) i ≡ slice_get xs i
in_front [] ys i less = absurd (omega arith)
in_front (x ∷ xs) ys zero less = refl
in_front (x ∷ xs) ys (suc i) less = in_front xs ys i (omega arith)

-- what stands behind it
pub at_end : {X : Type 0} (xs : List X) (y : X) → slice_get (xs ++ y ∷ []) (length xs) ≡ Some y
at_end [] y = refl
at_end (x ∷ xs) y = at_end xs y

-- a change of one end
pub set_cases : (l : List SourceEnd) (a c : ℕ) (e : SourceEnd)
    → ((c ≡ a) × (ends_of (slice_set l a e) c ≡ e)) ⊎ (ends_of (slice_set l a e) c ≡ ends_of l c)
set_cases [] a c e = inr refl
set_cases (x ∷ l) zero zero e = inl (refl, refl)
set_cases (x ∷ l) zero (suc c) e = inr refl
set_cases (x ∷ l) (suc a) zero e = inr refl
set_cases (x ∷ l) (suc a) (suc c) e = ⊎_elim (λ h. inl (ap suc h.0, h.1)) (λ h. inr h) (set_cases l a c e)

pub set_here : (l : List SourceEnd) (a : ℕ) (e : SourceEnd) → a < length l → ends_of (slice_set l a e) a ≡ e
set_here [] a e less = absurd (omega arith)
set_here (x ∷ l) zero e less = refl
set_here (x ∷ l) (suc a) e less = set_here l a e (omega arith)

-- a test that passes for each of n numbers from k on
pub all_up : (f : ℕ → Bool) (n k : ℕ) → ((a : ℕ) → k ≤ a → a < n + k → f a ≡ true) → list_all f (up_to n k) ≡ true
all_up f zero k h = refl
all_up f (suc n) k h =
    let here : f k ≡ true = h k (omega arith) (omega arith) in
    let rest : list_all f (up_to n (k + 1)) ≡ true = all_up f n (k + 1) (λ a low high. h a (omega arith) (omega arith)) in
    rw (here, rest) refl

-- ends that are all settled
pub all_settled : (l : List SourceEnd) → ((a : ℕ) → a < length l → is_settled (ends_of l a) ≡ true) → list_all is_settled l ≡ true
all_settled [] h = refl
all_settled (x ∷ l) h = both_true (is_settled x) (list_all is_settled l) (h zero (omega arith)) (all_settled l (λ a less. h (suc a) (omega arith)))
