-- A complete scope: each of its activities has ended, and stays so.
use Rattle.fate_laws.proofs.Extends.{Extends}
use Rattle.flow_model.specs.Fates.{Ends, is_settled}
use Rattle.flow_model.specs.ScopeContainers.{up_to}
use Rattle.std.proofs.Common.{◌≡◌, ℕ, zero, suc, ◌+◌, ◌≤◌, ◌<◌, Bool, true, false, List, [], ◌∷◌, refl, arith, inl, inr}
use Rattle.std.proofs.lemmas.Bool.{cases_lt}
use Rattle.std.specs.List.{list_all}

pub complete_kept : (e e' : Ends) → Extends e e' → (xs : List ℕ) → list_all (λ a. is_settled (e a)) xs ≡ true → list_all (λ a. is_settled (e' a)) xs ≡ true
complete_kept e e' x [] h = refl
complete_kept e e' x (a ∷ xs) h = go (λ r. complete_kept e e' x xs r) (is_settled (e a)) refl
  where
    go : (list_all (λ c. is_settled (e c)) xs ≡ true → list_all (λ c. is_settled (e' c)) xs ≡ true) → (b : Bool) → is_settled (e a) ≡ b
        → list_all (λ c. is_settled (e' c)) (a ∷ xs) ≡ true
    go rest false is = let no_ : false ≡ true = rw is at h in cc
    go rest true is = rw (x.kept a is, is) (rest (rw is at h))

pub settled_at : (e : Ends) (n k a : ℕ) → list_all (λ b. is_settled (e b)) (up_to n k) ≡ true → k ≤ a → a < n + k → is_settled (e a) ≡ true
settled_at e zero k a h low high = absurd (omega arith)
settled_at e (suc n) k a h low high = go (λ r more. settled_at e n (k + 1) a r (omega arith) (omega arith)) (is_settled (e k)) refl
  where
    go : (list_all (λ b. is_settled (e b)) (up_to n (k + 1)) ≡ true → k < a → is_settled (e a) ≡ true) → (b : Bool) → is_settled (e k) ≡ b → is_settled (e a) ≡ true
    go rest false is = let no_ : false ≡ true = rw is at h in cc
    go rest true is = elim (cases_lt k a) [
      | inl more ↦ rest (rw is at h) more
      | inr less ↦ let same : a ≡ k = omega arith in rw same is
    ]
