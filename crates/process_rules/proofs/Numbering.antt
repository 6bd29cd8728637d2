-- The least of the places that elements have by their numbers.
use Rattle.std.proofs.Common.{◌≡◌, ℕ, ◌+◌, ◌<◌, ◌≤◌, List, length, get_or, map, Option, Some, None, Bor, refl, sym, ap, subst, ◌∙◌, ◌⊎◌, inl, inr, ⊎_elim, arith}
use Rattle.std.specs.Prelude.{slice_get}
use Rattle.std.specs.Option.{option_map}
use Rattle.std.proofs.lemmas.Bool.{cases_order}
use Rattle.std.proofs.lemmas.List.{length-map}
use Rattle.std.proofs.lemmas.Option.{slice_get-map, slice_get_within, slice_get_read}
use Rattle.text_graphs.specs.Places.{IsLeastOf, lesser_of}
use Rattle.text_graphs.proofs.Finding.{least_is, least_same, least_either}
use Rattle.process_rules.specs.Numbering.{NumberedAt}

-- of an element below a number
abbrev pub NumberedBelow : {X : Type 0} → (ℕ → X → ℕ → Type 0) → List X → ℕ → ℕ → Type 0
NumberedBelow {X} places xs i p = (n : ℕ) × (x : X) × (n < i) × (slice_get xs n ≡ Some x) × places n x p

-- the element behind a reference
pub at_behind : {X : Type 0} (items : List (Bor X)) (xs : List X) (i : ℕ) (x : Bor X) → map (λ y. y.now) items ≡ xs → i < length items → x ≡ get_or items i x → slice_get xs i ≡ Some x.now
at_behind {X} items xs i x same less is =
    ap (λ (ys : List X). slice_get ys i) (sym same) ∙ slice_get-map (λ (y : Bor X). y.now) items i ∙ ap (option_map (λ (y : Bor X). y.now)) (slice_get_read items (length items) i x refl less is)

module _ {X : Type 0} (R : ℕ → X → ℕ → Type 0) (xs : List X) where
  pub numbered_none : IsLeastOf (NumberedBelow R xs 0) None
  numbered_none = λ p h. omega (arith, h.2)

  -- one more element
  pub numbered_more : (i : ℕ) (x : X) (least found next : Option ℕ) → slice_get xs i ≡ Some x → next ≡ lesser_of least found → IsLeastOf (NumberedBelow R xs i) least → IsLeastOf (R i x) found → IsLeastOf (NumberedBelow R xs (i + 1)) next
  numbered_more i x least found next is now h k =
      least_is (NumberedBelow R xs (i + 1)) (lesser_of least found) next now
      (least_same (λ p. NumberedBelow R xs i p ⊎ R i x p) (NumberedBelow R xs (i + 1)) (lesser_of least found) to from (least_either (NumberedBelow R xs i) (R i x) least found h k))
    where
      to : (p : ℕ) → NumberedBelow R xs i p ⊎ R i x p → NumberedBelow R xs (i + 1) p
      to p = ⊎_elim (λ a. (a.0, a.1, (let l = a.2 in omega arith), a.3, a.4)) (λ b. (i, x, omega arith, is, b))

      here : (n : ℕ) (y : X) (p : ℕ) → n ≡ i → slice_get xs n ≡ Some y → R n y p → R i x p
      here n y p same at r =
          let e : Some y ≡ Some x = sym at ∙ ap (slice_get xs) same ∙ is in
          subst (λ (m : ℕ). R m x p) same (subst (λ (z : X). R n z p) (some_same y x e) r)
        where
          some_same : (a b : X) → Some a ≡ Some b → a ≡ b
          some_same a b e = cc

      from : (p : ℕ) → NumberedBelow R xs (i + 1) p → NumberedBelow R xs i p ⊎ R i x p
      from p a = elim (cases_order a.0 i) [
        | inl same ↦ inr (here a.0 a.1 p same a.3 a.4)
        | inr (inl less) ↦ inl (a.0, a.1, less, a.3, a.4)
        | inr (inr more) ↦ absurd (let l = a.2 in omega arith)
      ]

  -- all of them
  pub numbered_all : (i : ℕ) (least : Option ℕ) → length xs ≤ i → IsLeastOf (NumberedBelow R xs i) least → IsLeastOf (NumberedAt R xs) least
  numbered_all i least past h =
      least_same (NumberedBelow R xs i) (NumberedAt R xs) least (λ p a. (a.0, a.1, a.3, a.4))
      (λ p a. (a.0, a.1, (let l = slice_get_within xs a.0 a.1 a.2 in omega arith), a.2, a.3)) h

-- behind references
pub numbered_behind : {X : Type 0} (R : ℕ → X → ℕ → Type 0) (items : List (Bor X)) (xs : List X) (i : ℕ) (least : Option ℕ) → length items ≤ i → map (λ y. y.now) items ≡ xs → IsLeastOf (NumberedBelow R xs i) least → IsLeastOf (NumberedAt R xs) least
numbered_behind {X} R items xs i least past same h =
    numbered_all R xs i least (let e : length xs ≡ length items = sym (ap length same) ∙ length-map items (λ (y : Bor X). y.now) in omega arith) h
