use Rattle.std.proofs.Common.{◌≡◌, ◌∙◌, sym, ap, ℕ, ◌+◌, Some, List, ◌∷◌, ◌++◌, drop, slice_get}
use Rattle.std.specs.List.{flat_map}
use Rattle.std.proofs.lemmas.List.{append_assoc, drop_more}
use Rattle.std.proofs.lemmas.List.Concat.{flat_map-cons}
use Rattle.std.proofs.lemmas.Option.{slice_get_within, get_or_from_slice_get}

next_of : {X : Type 0} (xs : List X) (i : ℕ) (x : X) → slice_get xs i ≡ Some x → drop i xs ≡ x ∷ drop (i + 1) xs
next_of xs i x is = drop_more xs i x (slice_get_within xs i x is) ∙ ap (λ y. y ∷ drop (i + 1) xs) (get_or_from_slice_get xs i x x is)

-- the line of the next element is put behind those so far
pub put_next : {X : Type 0} (line : X → List ℕ) (xs : List X) (i : ℕ) (x : X) (so_far longer whole : List ℕ) → slice_get xs i ≡ Some x → longer ≡ so_far ++ line x → so_far ++ flat_map line (drop i xs) ≡ whole → longer ++ flat_map line (drop (i + 1) xs) ≡ whole
put_next line xs i x so_far longer whole is put ends =
    let rest = drop (i + 1) xs in
    ap (λ o. o ++ flat_map line rest) put
    ∙ append_assoc so_far (line x) (flat_map line rest)
    ∙ ap (λ l. so_far ++ l) (sym (ap (flat_map line) (next_of xs i x is) ∙ flat_map-cons line x rest))
    ∙ ends

-- two texts are put behind those so far, one after the other
pub and_then : {longer whole : List ℕ} (so_far first second : List ℕ) → longer ≡ so_far ++ first → whole ≡ longer ++ second → whole ≡ so_far ++ (first ++ second)
and_then so_far first second one other = other ∙ ap (λ o. o ++ second) one ∙ append_assoc so_far first second
