-- A place of an element is one of its list, and an element that is read is in its list.
use Rattle.std.proofs.Common.{◌∙◌, ap, map, Bor, ◌≡◌, ℕ, zero, suc, ◌<◌, List, [], ◌∷◌, length, get_or, sym, subst, inl, inr, arith}
use Rattle.std.specs.List.{Contains}
use Rattle.std.proofs.lemmas.List.{length-map, get_or-map}
use Rattle.text_graphs.specs.Places.{AnyAt}

pub contained : {X : Type 0} (R : X → ℕ → Type 0) (xs : List X) (x : X) (p : ℕ) → Contains xs x → R x p → AnyAt R xs p
contained R [] x p has r = absurd (omega (arith, has.1))
contained {X} R (y ∷ xs) x p has r = go has.0 has.1 has.2 (λ h. contained R xs x p h r)
  where
    go : (k : ℕ) → k < suc (length xs) → get_or (y ∷ xs) k x ≡ x → (Contains xs x → AnyAt R xs p) → AnyAt R (y ∷ xs) p
    go zero less is rest = inl (subst (λ (z : X). R z p) (sym is) r)
    go (suc k) less is rest = inr (rest (k, omega arith, is))

-- the one that was read behind a reference
pub contains_read : {X : Type 0} (items : List (Bor X)) (xs : List X) (i : ℕ) (x : Bor X) → map (λ y. y.now) items ≡ xs → i < length items → x ≡ get_or items i x → Contains xs x.now
contains_read {X} items xs i x same less is =
    let f = λ (y : Bor X). y.now in
    subst (λ (zs : List X). Contains zs x.now) same (i, rw length-map less, get_or-map f items i x x.now less ∙ sym (ap f is))
