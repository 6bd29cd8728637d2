-- Elements are sorted by kind, one by one.
use Rattle.std.proofs.Common.{◌≡◌, ℕ, ◌+◌, ◌<◌, List, [], ◌∷◌, ◌++◌, length, get_or, take, map, Option, Some, None, Bor, sym, ap, ◌∙◌, append-nil}
use Rattle.std.specs.List.{All, filter_map, cons_option}
use Rattle.std.proofs.Math.ListN.{get_or-map}
use Rattle.std.proofs.lemmas.List.{take_more, map-append, length-map}
use Rattle.std.proofs.lemmas.List.Elements.{filter_map-append, All-same, All-push}

module _ {X Y : Type 0} (h : X → Option Y) (items : List X) (i : ℕ) (x : X) (less : i < length items) (is : x ≡ get_or items i x) where
  pub one_more : filter_map h (take (i + 1) items) ≡ filter_map h (take i items) ++ cons_option (h x) []
  one_more =
      ap (filter_map h) (take_more items i x less)
      ∙ filter_map-append h (take i items) (get_or items i x ∷ [])
      ∙ ap (λ (y : X). filter_map h (take i items) ++ cons_option (h y) []) (sym is)

  pub all_past : (P : Y → Type 0) → h x ≡ None → All P (filter_map h (take i items)) → All P (filter_map h (take (i + 1) items))
  all_past P none all = All-same P (filter_map h (take (i + 1) items)) (filter_map h (take i items)) (one_more ∙ ap (λ (o : Option Y). filter_map h (take i items) ++ cons_option o []) none ∙ append-nil (filter_map h (take i items))) all

  pub all_next : (P : Y → Type 0) (y : Y) → h x ≡ Some y → All P (filter_map h (take i items)) → P y → All P (filter_map h (take (i + 1) items))
  all_next P y some all here =
      All-same P (filter_map h (take (i + 1) items)) (filter_map h (take i items) ++ y ∷ []) (one_more ∙ ap (λ (o : Option Y). filter_map h (take i items) ++ cons_option o []) some) (All-push P (filter_map h (take i items)) y all here)

  -- an element of another kind
  pub sorted_past : (found : List (Bor Y)) → h x ≡ None → map (λ y. y.now) found ≡ filter_map h (take i items) → map (λ y. y.now) found ≡ filter_map h (take (i + 1) items)
  sorted_past found none so_far = so_far ∙ sym (one_more ∙ ap (λ (o : Option Y). filter_map h (take i items) ++ cons_option o []) none ∙ append-nil (filter_map h (take i items)))

  -- an element of this kind
  pub sorted_next : (found next : List (Bor Y)) (y : Bor Y) → h x ≡ Some y.now → next ≡ found ++ y ∷ [] → map (λ y. y.now) found ≡ filter_map h (take i items)
      → map (λ y. y.now) next ≡ filter_map h (take (i + 1) items)
  sorted_next found next y some now so_far =
      ap (map (λ (z : Bor Y). z.now)) now ∙ map-append (λ (z : Bor Y). z.now) found (y ∷ []) ∙ ap (λ (ys : List Y). ys ++ y.now ∷ []) so_far
      ∙ sym (one_more ∙ ap (λ (o : Option Y). filter_map h (take i items) ++ cons_option o []) some)

-- the same of elements behind references
module _ {X Y : Type 0} (h : X → Option Y) (items : List (Bor X)) (i : ℕ) (x : Bor X) (less : i < length items) (is : x ≡ get_or items i x) where
  more_seen : filter_map h (take (i + 1) (map (λ y. y.now) items)) ≡ filter_map h (take i (map (λ y. y.now) items)) ++ cons_option (h x.now) []
  more_seen = one_more h (map (λ y. y.now) items) i x.now (rw length-map less) (ap (λ (y : Bor X). y.now) is ∙ sym (get_or-map (λ (y : Bor X). y.now) items i x))

  pub chosen_past : (found : List Y) → h x.now ≡ None → found ≡ filter_map h (take i (map (λ y. y.now) items)) → found ≡ filter_map h (take (i + 1) (map (λ y. y.now) items))
  chosen_past found none so_far = so_far ∙ sym (more_seen ∙ ap (λ (o : Option Y). filter_map h (take i (map (λ y. y.now) items)) ++ cons_option o []) none ∙ append-nil (filter_map h (take i (map (λ y. y.now) items))))

  pub chosen_next : (found next : List Y) (y : Y) → h x.now ≡ Some y → next ≡ found ++ y ∷ [] → found ≡ filter_map h (take i (map (λ y. y.now) items)) → next ≡ filter_map h (take (i + 1) (map (λ y. y.now) items))
  chosen_next found next y some now so_far =
      now ∙ ap (λ (ys : List Y). ys ++ y ∷ []) so_far ∙ sym (more_seen ∙ ap (λ (o : Option Y). filter_map h (take i (map (λ y. y.now) items)) ++ cons_option o []) some)
