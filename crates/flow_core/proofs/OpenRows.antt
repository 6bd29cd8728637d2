-- What the rows so far leave open, and what the next row does.
use Rattle.std.proofs.Common.{◌≡◌, ◌∙◌, sym, ap, Option, Some, None, List, [], ◌∷◌, ◌++◌, map}
use Rattle.std.specs.List.{filter_map, cons_option}
use Rattle.std.proofs.lemmas.List.{append_assoc, append-nil, map-append}
use Rattle.std.proofs.lemmas.List.Elements.{filter_map-append}

module _ {X Y Z : Type 0} (told : Y → Z) (f : X → Option Z) where
  behind : (before : List Z) (rows : List X) (row : X) → before ++ filter_map f (rows ++ row ∷ []) ≡ (before ++ filter_map f rows) ++ cons_option (f row) []
  behind before rows row = ap (λ l. before ++ l) (filter_map-append f rows (row ∷ [])) ∙ sym (append_assoc before (filter_map f rows) (cons_option (f row) []))

  -- it leaves an item open, which is put behind those so far
  pub leaves_one : (before : List Z) (found : List Y) (rows : List X) (row : X) (y : Y) → map told found ≡ before ++ filter_map f rows → Some (told y) ≡ f row → map told (found ++ y ∷ []) ≡ before ++ filter_map f (rows ++ row ∷ [])
  leaves_one before found rows row y so_far is =
      map-append told found (y ∷ []) ∙ ap (λ l. l ++ told y ∷ []) so_far ∙ ap (λ o. (before ++ filter_map f rows) ++ cons_option o []) is ∙ sym (behind before rows row)

  -- it leaves none
  pub leaves_none : (before : List Z) (found : List Y) (rows : List X) (row : X) → map told found ≡ before ++ filter_map f rows → None ≡ f row → map told found ≡ before ++ filter_map f (rows ++ row ∷ [])
  leaves_none before found rows row so_far is =
      so_far ∙ sym (append-nil (before ++ filter_map f rows)) ∙ ap (λ o. (before ++ filter_map f rows) ++ cons_option o []) is ∙ sym (behind before rows row)
