-- Eight bytes as a number.
use Rattle.std.proofs.Common.{◌≡◌, ℕ, ◌+◌, ◌<◌, List, [], ◌∷◌, take, drop, get_or, refl, ◌∙◌, arith}
use Rattle.std.proofs.lemmas.List.{get_or-take, get_or-drop}
use Rattle.std.specs.Int.{w64, from_be_bytes}

eighth : (bytes : List ℕ) (at i : ℕ) → i < 8 → get_or (take 8 (drop at bytes)) i 0 ≡ get_or bytes (at + i) 0
eighth bytes at i lt = get_or-take 8 (drop at bytes) i 0 lt ∙ get_or-drop at bytes i 0

pub eight_bytes : (bytes : List ℕ) (at : ℕ) →
    from_be_bytes w64 (get_or bytes at 0 ∷ get_or bytes (at + 1) 0 ∷ get_or bytes (at + 2) 0 ∷ get_or bytes (at + 3) 0 ∷ get_or bytes (at + 4) 0 ∷ get_or bytes (at + 5) 0 ∷ get_or bytes (at + 6) 0 ∷ get_or bytes (at + 7) 0 ∷ [])
    ≡ from_be_bytes w64 (take 8 (drop at bytes))
eight_bytes bytes at =
    let zero_on : at + 0 ≡ at = omega arith in
    let e0 : get_or (take 8 (drop at bytes)) 0 0 ≡ get_or bytes at 0 = eighth bytes at 0 (omega arith) ∙ (rw zero_on refl) in
    let e1 : get_or (take 8 (drop at bytes)) 1 0 ≡ get_or bytes (at + 1) 0 = eighth bytes at 1 (omega arith) in
    let e2 : get_or (take 8 (drop at bytes)) 2 0 ≡ get_or bytes (at + 2) 0 = eighth bytes at 2 (omega arith) in
    let e3 : get_or (take 8 (drop at bytes)) 3 0 ≡ get_or bytes (at + 3) 0 = eighth bytes at 3 (omega arith) in
    let e4 : get_or (take 8 (drop at bytes)) 4 0 ≡ get_or bytes (at + 4) 0 = eighth bytes at 4 (omega arith) in
    let e5 : get_or (take 8 (drop at bytes)) 5 0 ≡ get_or bytes (at + 5) 0 = eighth bytes at 5 (omega arith) in
    let e6 : get_or (take 8 (drop at bytes)) 6 0 ≡ get_or bytes (at + 6) 0 = eighth bytes at 6 (omega arith) in
    let e7 : get_or (take 8 (drop at bytes)) 7 0 ≡ get_or bytes (at + 7) 0 = eighth bytes at 7 (omega arith) in
    rw (e0, e1, e2, e3, e4, e5, e6, e7) refl
