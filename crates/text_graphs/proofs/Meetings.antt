-- The names that were met so far, in a loop.
use Rattle.std.proofs.Common.{◌≡◌, ℕ, ◌+◌, ◌<◌, ◌≤◌, List, [], ◌∷◌, ◌++◌, length, get_or, take, map, Option, Some, None, Bor, refl, sym, ap, subst, ◌∙◌, append-nil}
use Rattle.std.specs.List.{filter_map, cons_option}
use Rattle.std.proofs.lemmas.List.{take_more, take_all, map-append}
use Rattle.flow_model.specs.declared.trees.NameAt.{NameAt}
use Rattle.text_graphs.specs.Meeting.{AreMet, IsAgainAt}
use Rattle.text_graphs.specs.Places.{IsLeastOf, PairAt}
use Rattle.text_graphs.specs.declared.least.Repeats.{Repeats}
use Rattle.text_graphs.proofs.Sorting.{one_more}

-- elements of a kind
module _ {X Y : Type 0} (of : X → Option Y) (name_of : Y → NameAt) (items : List X) (i : ℕ) (x : X) (less : i < length items) (is : x ≡ get_or items i x) where
  pub names_past : (repeats : Repeats) → of x ≡ None → AreMet repeats (map name_of (filter_map of (take i items))) → AreMet repeats (map name_of (filter_map of (take (i + 1) items)))
  names_past repeats none met =
      subst (λ ys. AreMet repeats (map name_of ys))
      (sym (one_more of items i x less is ∙ ap (λ (o : Option Y). filter_map of (take i items) ++ cons_option o []) none ∙ append-nil (filter_map of (take i items)))) met

  pub names_next : (repeats : Repeats) (y : Y) → of x ≡ Some y → AreMet repeats (map name_of (filter_map of (take i items)) ++ name_of y ∷ []) → AreMet repeats (map name_of (filter_map of (take (i + 1) items)))
  names_next repeats y some met =
      subst (AreMet repeats)
      (sym (ap (map name_of) (one_more of items i x less is ∙ ap (λ (o : Option Y). filter_map of (take i items) ++ cons_option o []) some) ∙ map-append name_of (filter_map of (take i items)) (y ∷ []))) met

-- all elements
pub name_next : {X : Type 0} (name_of : X → NameAt) (items : List X) (i : ℕ) (x : X) → i < length items → x ≡ get_or items i x → (repeats : Repeats) → AreMet repeats (map name_of (take i items) ++ name_of x ∷ [])
    → AreMet repeats (map name_of (take (i + 1) items))
name_next {X} name_of items i x less is repeats met =
    subst (AreMet repeats) (sym (ap (map name_of) (take_more items i x less ∙ ap (λ (y : X). take i items ++ y ∷ []) (sym is)) ∙ map-append name_of (take i items) (x ∷ []))) met

pub names_all : {X : Type 0} (name_of : X → NameAt) (items : List X) (i : ℕ) (repeats : Repeats) (found : Option ℕ) → length items ≤ i → found ≡ repeats.first → AreMet repeats (map name_of (take i items)) → IsLeastOf (PairAt IsAgainAt (map name_of items)) found
names_all {X} name_of items i repeats found past is met =
    subst (IsLeastOf (PairAt IsAgainAt (map name_of items))) (sym is)
    (subst (λ ns. IsLeastOf (PairAt IsAgainAt ns) repeats.first) (ap (map name_of) (take_all i items past)) met.least)

pub names_behind : {X : Type 0} (name_of : X → NameAt) (items : List (Bor X)) → map (λ x. name_of x.now) items ≡ map name_of (map (λ x. x.now) items)
names_behind name_of [] = refl
names_behind name_of (x ∷ items) = ap (λ (ns : List NameAt). name_of x.now ∷ ns) (names_behind name_of items)
