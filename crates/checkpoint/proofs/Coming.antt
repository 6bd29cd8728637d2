-- Payloads that come one after the other: those that came, and those that are left.
use Rattle.std.proofs.Common.{◌≡◌, ℕ, zero, suc, ◌+◌, ◌<◌, ◌≤◌, Option, Some, None, List, [], ◌∷◌, ◌++◌, length, take, drop, refl, sym, ap, subst, ◌∙◌, arith}
use Rattle.std.specs.Prelude.{MatchOption}
use Rattle.std.specs.List.{All}
use Rattle.std.specs.Global.{Vec}

-- what is known of the next one, where there is one, and where there is none
pub next_some : (left left' : List (List ℕ)) (next : Option (Vec ℕ)) (payload : Vec ℕ)
    → MatchOption next (left ≡ []) (λ p. left ≡ p.items ∷ left') → next ≡ Some payload → left ≡ payload.items ∷ left'
next_some left left' None payload given is = cc
next_some left left' (Some p) payload given is = let same : p ≡ payload = cc in given ∙ ap (λ (q : Vec ℕ). q.items ∷ left') same

pub next_none : (left left' : List (List ℕ)) (next : Option (Vec ℕ))
    → MatchOption next (left ≡ []) (λ p. left ≡ p.items ∷ left') → ((payload : Vec ℕ) → next ≡ Some payload → ⊥) → left ≡ []
next_none left left' None given none = given
next_none left left' (Some p) given none = absurd (none p refl)

-- where this one is the first of those that are left: it is one of them, and behind it are the others
split_at : (ps : List (List ℕ)) (n : ℕ) (p : List ℕ) (rest : List (List ℕ)) → drop n ps ≡ p ∷ rest → (n < length ps) × (rest ≡ drop (suc n) ps) × (take (suc n) ps ≡ take n ps ++ p ∷ [])
split_at [] zero p rest is = cc
split_at [] (suc n) p rest is = cc
split_at (q ∷ ps) zero p rest is =
    let same : q ≡ p = cc in
    let tail : ps ≡ rest = cc in
    (omega arith, sym tail, ap (λ (x : List ℕ). x ∷ []) same)
split_at (q ∷ ps) (suc n) p rest is =
    let h = split_at ps n p rest is in
    (omega (arith, h.0), h.1, ap (λ (l : List (List ℕ)). q ∷ l) h.2)

pub comes : (ps : List (List ℕ)) (n : ℕ) (p : List ℕ) (rest : List (List ℕ)) → drop n ps ≡ p ∷ rest → (n < length ps) × (rest ≡ drop (n + 1) ps) × (take (n + 1) ps ≡ take n ps ++ p ∷ [])
comes ps n p rest is =
    let next : suc n ≡ n + 1 = omega arith in
    subst (λ (m : ℕ). (n < length ps) × (rest ≡ drop m ps) × (take m ps ≡ take n ps ++ p ∷ [])) next (split_at ps n p rest is)

-- where none is left, all came
pub all_came : (ps : List (List ℕ)) (n : ℕ) → n ≤ length ps → drop n ps ≡ [] → (n ≡ length ps) × (take n ps ≡ ps)
all_came [] zero le is = (refl, refl)
all_came [] (suc n) le is = absurd (omega (arith, le))
all_came (q ∷ ps) zero le is = cc
all_came (q ∷ ps) (suc n) le is =
    let h = all_came ps n (omega (arith, le)) is in
    (ap suc h.0, ap (λ (l : List (List ℕ)). q ∷ l) h.1)

-- what holds of all holds of the first of those that are left
pub of_first : (P : List ℕ → Type 0) (ps : List (List ℕ)) (n : ℕ) (p : List ℕ) (rest : List (List ℕ)) → All P ps → drop n ps ≡ p ∷ rest → P p
of_first P [] zero p rest all is = cc
of_first P [] (suc n) p rest all is = cc
of_first P (q ∷ ps) zero p rest all is = let same : q ≡ p = cc in subst P same (all 0 q (omega arith))
of_first P (q ∷ ps) (suc n) p rest all is = of_first P ps n p rest (λ k x lt. all (suc k) x (omega (arith, lt))) is
