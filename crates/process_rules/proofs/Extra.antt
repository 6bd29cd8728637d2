-- The first element behind those that are allowed.
use Rattle.std.proofs.Common.{◌≡◌, ℕ, ◌<◌, ◌≤◌, List, length, get_or, Option, Some, None, refl, sym, ap, ◌∙◌, ◌⊎◌, inl, inr, arith}
use Rattle.std.specs.Prelude.{slice_get}
use Rattle.std.proofs.lemmas.Option.{slice_get_cases}
use Rattle.text_graphs.specs.Places.{IsLeastOf}
use Rattle.process_rules.specs.Counts.{IsExtra}

some_same : {X : Type 0} (a b : X) → Some a ≡ Some b → a ≡ b
some_same a b e = cc

module _ {X : Type 0} (place_of : X → ℕ) (xs : List X) (most : ℕ) where
  pub extra_found : (x : X) → Some x ≡ slice_get xs most → IsLeastOf (IsExtra place_of most xs) (Some (place_of x))
  extra_found x is = ((x, sym is, refl), λ q h. let e : place_of x ≡ q = ap place_of (some_same x h.0 (is ∙ h.1)) ∙ h.2 in omega arith)

  pub extra_none : None ≡ slice_get xs most → IsLeastOf (IsExtra place_of most xs) None
  extra_none is = λ p h. let e : None ≡ Some h.0 = is ∙ h.1 in cc

-- where there is none, the list is short
pub short : {X : Type 0} (xs : List X) (most : ℕ) → None ≡ slice_get xs most → length xs ≤ most
short {X} xs most is = go (slice_get xs most) is (slice_get_cases xs most).1
  where
    go : (o : Option X) → None ≡ o → ((x : X) × (most < length xs) × (o ≡ Some x) × (get_or xs most x ≡ x)) ⊎ ((length xs ≤ most) × (o ≡ None)) → length xs ≤ most
    go o none (inl h) = let e : None ≡ Some h.0 = none ∙ h.2 in cc
    go o none (inr h) = h.0
