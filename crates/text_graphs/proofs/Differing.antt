-- Lists of which no two elements are the same.
use Rattle.std.proofs.Common.{◌≡◌, ℕ, suc, ◌<◌, ◌≤◌, List, [], ◌∷◌, length, get_or, map, filter_map, Option, Some, None, sym, ap, ◌∙◌, inl, inr, arith}
use Rattle.std.specs.Prelude.{◌==◌, ◌&&◌, slice_get}
use Rattle.std.specs.Bool.{Decides}
use Rattle.std.specs.List.{cons_option}
use Rattle.std.proofs.lemmas.Bool.{cases_order}
use Rattle.std.proofs.lemmas.Bool.Decides.{Decides-and, Decides-eqb, Decides-like}
use Rattle.std.proofs.lemmas.List.{get_or-map, length-map}
use Rattle.std.proofs.lemmas.Option.{get_or_from_slice_get, slice_get_within}
use Rattle.text_graphs.specs.Texts.{AllDiffer}

-- two pairs are the same where their parts are
pub pairs_decide : (x y : ℕ × ℕ) → Decides ((x.0 == y.0) && (x.1 == y.1)) (x ≡ y)
pairs_decide x y =
    Decides-like ((x.0 == y.0) && (x.1 == y.1)) (λ (e : (x.0 ≡ y.0) × (x.1 ≡ y.1)) j. (e.0 j, e.1 j)) (λ (e : x ≡ y). (ap (λ (z : ℕ × ℕ). z.0) e, ap (λ (z : ℕ × ℕ). z.1) e))
    (Decides-and (x.0 == y.0) (x.1 == y.1) (Decides-eqb x.0 y.0) (Decides-eqb x.1 y.1))

pub none_differ : {X : Type 0} → AllDiffer {X = X} []
none_differ i j d less within = absurd (omega arith)

-- all but the first
pub rest_differ : {X : Type 0} (x : X) (xs : List X) → AllDiffer (x ∷ xs) → AllDiffer xs
rest_differ x xs all i j d less within same = all (suc i) (suc j) d (omega arith) (omega arith) same

-- of two places with the same element there is one
pub one_place : {X Y : Type 0} (f : X → Y) (xs : List X) (a b : ℕ) (x y : X) → AllDiffer (map f xs) → slice_get xs a ≡ Some x → slice_get xs b ≡ Some y → f x ≡ f y → a ≡ b
one_place {X} {Y} f xs a b x y all at_a at_b same =
    let within_a : a < length (map f xs) = omega (arith, length-map xs f, slice_get_within xs a x at_a) in
    let within_b : b < length (map f xs) = omega (arith, length-map xs f, slice_get_within xs b y at_b) in
    let here : get_or (map f xs) a (f x) ≡ f x = get_or-map f xs a x (f x) (slice_get_within xs a x at_a) ∙ ap f (get_or_from_slice_get xs a x x at_a) in
    let there : get_or (map f xs) b (f x) ≡ f y = get_or-map f xs b x (f x) (slice_get_within xs b y at_b) ∙ ap f (get_or_from_slice_get xs b y x at_b) in
    elim (cases_order a b) [
      | inl e ↦ e
      | inr (inl less) ↦ absurd (all a b (f x) less within_b (here ∙ same ∙ sym there))
      | inr (inr less) ↦ absurd (all b a (f x) less within_a (there ∙ sym same ∙ sym here))
    ]

-- what is chosen of a list is no longer than the list
pub chosen_short : {X Y : Type 0} (h : X → Option Y) (xs : List X) → length (filter_map h xs) ≤ length xs
chosen_short h [] = omega arith
chosen_short {X} {Y} h (x ∷ xs) = go (h x) (chosen_short h xs)
  where
    go : (o : Option Y) → length (filter_map h xs) ≤ length xs → length (cons_option o (filter_map h xs)) ≤ suc (length xs)
    go None rest = omega arith
    go (Some y) rest = omega arith
