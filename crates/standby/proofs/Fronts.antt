-- The bytes at the front of a stream, read.
use Rattle.std.proofs.Common.{◌≡◌, ◌∙◌, ℕ, List, ◌∷◌, ◌++◌, length, get_or, take, drop, inl, inr, ap, sym, subst, arith, drop-cons, drop-drop, take_all, take-append-drop}
use Rattle.std.specs.Int.{w64, to_be_bytes}
use Rattle.std.proofs.lemmas.List.{length-drop}
use Rattle.standby.specs.declared.frames.Front.{Front}
use Rattle.standby.specs.Fronts.{Agrees, magic}
use Rattle.standby.specs.Streams.{front_bytes}

-- behind the magic there is a byte, and twice eight bytes
pub behind_magic : (bytes limit from : List ℕ) → length bytes ≡ 25 → limit ≡ take 8 (drop 9 bytes) → from ≡ take 8 (drop 17 bytes) → drop 8 bytes ≡ get_or bytes 8 0 ∷ limit ++ from
behind_magic bytes limit from len is is' =
    let last : drop 8 (drop 9 bytes) ≡ from = drop-drop 8 9 bytes ∙ sym (take_all 8 (drop 17 bytes) (omega (arith, len, length-drop 17 bytes))) ∙ sym is' in
    drop-cons bytes 8 0 (omega (arith, len))
    ∙ ap (λ (xs : List ℕ). get_or bytes 8 0 ∷ xs) (sym (take-append-drop 8 (drop 9 bytes)) ∙ ap (λ (xs : List ℕ). xs ++ drop 8 (drop 9 bytes)) (sym is) ∙ ap (λ (xs : List ℕ). limit ++ xs) last)

-- a front that is whole
pub whole_front : (bytes : List ℕ) (front : Front) → Agrees bytes → length bytes ≡ 25 → drop 8 bytes ≡ front.queues ∷ to_be_bytes w64 front.limit ++ to_be_bytes w64 front.from → bytes ≡ front_bytes front
whole_front bytes front (inl begins) len rest = sym (take-append-drop 8 bytes) ∙ ap (λ (xs : List ℕ). xs ++ drop 8 bytes) begins ∙ ap (λ (xs : List ℕ). magic ++ xs) rest
whole_front bytes front (inr part) len rest =
    let e : magic ≡ bytes = subst (λ (n : ℕ). take n magic ≡ bytes) len part in
    let e' : 8 ≡ length bytes = ap (λ (xs : List ℕ). length xs) e in
    absurd (omega (arith, len, e'))
