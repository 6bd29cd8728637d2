-- The least of the places of some elements, one after another.
use Rattle.std.proofs.Common.{◌≡◌, ℕ, Bool, true, false, ◌+◌, ◌<◌, ◌≤◌, min, List, [], ◌∷◌, ◌++◌, length, get_or, take, map, Option, Some, None, Bor, refl, sym, ap, subst, ◌∙◌, inl, inr, ⊎_elim, ◌⊎◌, arith}
use Rattle.std.specs.Prelude.{◌||◌}
use Rattle.std.specs.List.{list_any}
use Rattle.std.proofs.lemmas.Bool.{cases_lt}
use Rattle.std.proofs.lemmas.List.{take_more, take_all, take-map, map-append}
use Rattle.text_graphs.specs.Places.{IsLeastOf, AnyAt, PairAt, lesser_of}

-- ---- tests

-- a test that one more element passes or does not
pub any_last : {X : Type 0} (test : X → Bool) (xs : List X) (x : X) → list_any test (xs ++ x ∷ []) ≡ (list_any test xs || test x)
any_last test [] x = elim (test x) as (λ b. (b || false) ≡ b) [ true ↦ refl | false ↦ refl ]
any_last test (y ∷ xs) x = ap (λ (b : Bool). test y || b) (any_last test xs x) ∙ elim (test y) as (λ b. (b || (list_any test xs || test x)) ≡ ((b || list_any test xs) || test x)) [ true ↦ refl | false ↦ refl ]

-- ---- the least of places

-- places that are the same have the same least one
pub least_same : (A B : ℕ → Type 0) (found : Option ℕ) → ((p : ℕ) → A p → B p) → ((p : ℕ) → B p → A p) → IsLeastOf A found → IsLeastOf B found
least_same A B None to from h = λ p b. h p (from p b)
least_same A B (Some n) to from h = (to n h.0, λ q b. h.1 q (from q b))

-- the least of two kinds of places
pub least_either : (A B : ℕ → Type 0) (a b : Option ℕ) → IsLeastOf A a → IsLeastOf B b → IsLeastOf (λ p. A p ⊎ B p) (lesser_of a b)
least_either A B None None h k = λ p. ⊎_elim (h p) (k p)
least_either A B None (Some b) h k = (inr k.0, λ q. ⊎_elim (λ x. absurd (h q x)) (k.1 q))
least_either A B (Some a) None h k = (inl h.0, λ q. ⊎_elim (h.1 q) (λ y. absurd (k q y)))
least_either A B (Some a) (Some b) h k =
    ⊎_elim
    (λ (less : a < b). (let same : min a b ≡ a = omega arith in inl (subst A (sym same) h.0), λ q. ⊎_elim (λ x. let le = h.1 q x in omega arith) (λ y. let le = k.1 q y in omega arith)))
    (λ (le : b ≤ a). (let same : min a b ≡ b = omega arith in inr (subst B (sym same) k.0), λ q. ⊎_elim (λ x. let less = h.1 q x in omega arith) (λ y. let less = k.1 q y in omega arith)))
    (cases_lt a b)

-- what is found is the same
pub least_is : (A : ℕ → Type 0) (found next : Option ℕ) → next ≡ found → IsLeastOf A found → IsLeastOf A next
least_is A found next same h = subst (IsLeastOf A) (sym same) h

-- ---- the places of elements

pub taken_more : {X : Type 0} (xs : List X) (i : ℕ) (x : X) → i < length xs → x ≡ get_or xs i x → take i xs ++ x ∷ [] ≡ take (i + 1) xs
taken_more {X} xs i x less is = ap (λ (y : X). take i xs ++ y ∷ []) is ∙ sym (take_more xs i x less)

pub taken_behind : {X : Type 0} (items : List (Bor X)) (i : ℕ) (x : Bor X) → i < length items → x ≡ get_or items i x → take i (map (λ y. y.now) items) ++ x.now ∷ [] ≡ take (i + 1) (map (λ y. y.now) items)
taken_behind {X} items i x less is =
    let f = λ (y : Bor X). y.now in
    ap (λ (ys : List X). ys ++ x.now ∷ []) (take-map f i items) ∙ sym (map-append f (take i items) (x ∷ [])) ∙ ap (map f) (taken_more items i x less is) ∙ sym (take-map f (i + 1) items)

module _ {X : Type 0} (R : X → ℕ → Type 0) where
  pub any_append : (xs ys : List X) (p : ℕ) → AnyAt R xs p ⊎ AnyAt R ys p → AnyAt R (xs ++ ys) p
  any_append [] ys p h = ⊎_elim (λ none. absurd none) (λ y. y) h
  any_append (x ∷ xs) ys p h = ⊎_elim (⊎_elim (λ here. inl here) (λ there. inr (any_append xs ys p (inl there)))) (λ y. inr (any_append xs ys p (inr y))) h

  pub any_cases : (xs ys : List X) (p : ℕ) → AnyAt R (xs ++ ys) p → AnyAt R xs p ⊎ AnyAt R ys p
  any_cases [] ys p h = inr h
  any_cases (x ∷ xs) ys p h = ⊎_elim (λ here. inl (inl here)) (λ there. ⊎_elim (λ a. inl (inr a)) (λ b. inr b) (any_cases xs ys p there)) h

  pub any_push : (xs : List X) (x : X) (p : ℕ) → AnyAt R xs p ⊎ R x p → AnyAt R (xs ++ x ∷ []) p
  any_push xs x p h = any_append xs (x ∷ []) p (⊎_elim (λ a. inl a) (λ b. inr (inl b)) h)

  pub any_push_cases : (xs : List X) (x : X) (p : ℕ) → AnyAt R (xs ++ x ∷ []) p → AnyAt R xs p ⊎ R x p
  any_push_cases xs x p h = ⊎_elim (λ a. inl a) (⊎_elim (λ b. inr b) (λ none. absurd none)) (any_cases xs (x ∷ []) p h)

  -- one more element
  pub least_push : (xs : List X) (x : X) (least found next : Option ℕ) → next ≡ lesser_of least found → IsLeastOf (AnyAt R xs) least → IsLeastOf (R x) found → IsLeastOf (AnyAt R (xs ++ x ∷ [])) next
  least_push xs x least found next is h k =
      least_is (AnyAt R (xs ++ x ∷ [])) (lesser_of least found) next is
      (least_same (λ p. AnyAt R xs p ⊎ R x p) (AnyAt R (xs ++ x ∷ [])) (lesser_of least found) (any_push xs x) (any_push_cases xs x) (least_either (AnyAt R xs) (R x) least found h k))

  -- in a loop
  pub least_more : (xs : List X) (i : ℕ) (x : X) (least found next : Option ℕ) → i < length xs → x ≡ get_or xs i x → next ≡ lesser_of least found → IsLeastOf (AnyAt R (take i xs)) least → IsLeastOf (R x) found
      → IsLeastOf (AnyAt R (take (i + 1) xs)) next
  least_more xs i x least found next less is now h k = subst (λ ys. IsLeastOf (AnyAt R ys) next) (taken_more xs i x less is) (least_push (take i xs) x least found next now h k)

  -- and behind it
  pub least_all : (xs : List X) (i : ℕ) (least : Option ℕ) → length xs ≤ i → IsLeastOf (AnyAt R (take i xs)) least → IsLeastOf (AnyAt R xs) least
  least_all xs i least past h = subst (λ ys. IsLeastOf (AnyAt R ys) least) (take_all i xs past) h

  -- elements that are told by others
  pub any_map : {Y : Type 0} (f : Y → X) (ys : List Y) (p : ℕ) → AnyAt (λ y. R (f y)) ys p → AnyAt R (map f ys) p
  any_map f [] p h = h
  any_map f (y ∷ ys) p h = ⊎_elim (λ here. inl here) (λ there. inr (any_map f ys p there)) h

  pub any_unmap : {Y : Type 0} (f : Y → X) (ys : List Y) (p : ℕ) → AnyAt R (map f ys) p → AnyAt (λ y. R (f y)) ys p
  any_unmap f [] p h = h
  any_unmap f (y ∷ ys) p h = ⊎_elim (λ here. inl here) (λ there. inr (any_unmap f ys p there)) h

  pub least_map : {Y : Type 0} (f : Y → X) (ys : List Y) (xs : List X) (least : Option ℕ) → map f ys ≡ xs → IsLeastOf (AnyAt (λ y. R (f y)) ys) least → IsLeastOf (AnyAt R xs) least
  least_map f ys xs least is h = subst (λ zs. IsLeastOf (AnyAt R zs) least) is (least_same (AnyAt (λ y. R (f y)) ys) (AnyAt R (map f ys)) least (any_map f ys) (any_unmap f ys) h)

  -- elements behind references
  pub least_behind : (items : List (Bor X)) (i : ℕ) (xs : List X) (least : Option ℕ) → length items ≤ i → map (λ x. x.now) items ≡ xs → IsLeastOf (AnyAt (λ (x : Bor X). R x.now) (take i items)) least → IsLeastOf (AnyAt R xs) least
  least_behind items i xs least past is h = least_map (λ (x : Bor X). x.now) items xs least is (subst (λ ys. IsLeastOf (AnyAt (λ (x : Bor X). R x.now) ys) least) (take_all i items past) h)

-- where each place of one is one of the other
pub any_to : {X : Type 0} (R S : X → ℕ → Type 0) (xs : List X) (p : ℕ) → ((x : X) → R x p → S x p) → AnyAt R xs p → AnyAt S xs p
any_to R S [] p to h = h
any_to R S (x ∷ xs) p to h = ⊎_elim (λ here. inl (to x here)) (λ there. inr (any_to R S xs p to there)) h

-- one behind the others
module _ {X : Type 0} (R : X → X → ℕ → Type 0) where
  pub pair_push : (xs : List X) (y : X) (p : ℕ) → PairAt R xs p ⊎ AnyAt (λ x. R x y) xs p → PairAt R (xs ++ y ∷ []) p
  pair_push [] y p h = ⊎_elim (λ none. absurd none) (λ none. absurd none) h
  pair_push (x ∷ xs) y p h =
      ⊎_elim
      (⊎_elim (λ a. inl (any_push (R x) xs y p (inl a))) (λ b. inr (pair_push xs y p (inl b))))
      (⊎_elim (λ here. inl (any_push (R x) xs y p (inr here))) (λ there. inr (pair_push xs y p (inr there))))
      h

  pub pair_push_cases : (xs : List X) (y : X) (p : ℕ) → PairAt R (xs ++ y ∷ []) p → PairAt R xs p ⊎ AnyAt (λ x. R x y) xs p
  pair_push_cases [] y p h = ⊎_elim (λ none. absurd none) (λ none. absurd none) h
  pair_push_cases (x ∷ xs) y p h =
      ⊎_elim
      (λ a. ⊎_elim (λ b. inl (inl b)) (λ here. inr (inl here)) (any_push_cases (R x) xs y p a))
      (λ c. ⊎_elim (λ d. inl (inr d)) (λ there. inr (inr there)) (pair_push_cases xs y p c))
      h

-- one more element, and those before it
pub pairs_next : {X : Type 0} (R : X → X → ℕ → Type 0) (xs : List X) (x : X) (least found next : Option ℕ) → next ≡ lesser_of least found → IsLeastOf (PairAt R xs) least → IsLeastOf (AnyAt (λ y. R y x) xs) found
    → IsLeastOf (PairAt R (xs ++ x ∷ [])) next
pairs_next R xs x least found next now h k =
    least_is (PairAt R (xs ++ x ∷ [])) (lesser_of least found) next now
    (least_same (λ p. PairAt R xs p ⊎ AnyAt (λ y. R y x) xs p) (PairAt R (xs ++ x ∷ [])) (lesser_of least found) (pair_push R xs x) (pair_push_cases R xs x)
    (least_either (PairAt R xs) (AnyAt (λ y. R y x) xs) least found h k))

pub lesser_none : (least : Option ℕ) → least ≡ lesser_of least None
lesser_none None = refl
lesser_none (Some a) = refl
