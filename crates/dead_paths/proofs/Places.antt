-- What stands at the places of the elements that pass a test: these elements.
use Rattle.std.proofs.Common.{◌≡◌, ℕ, ◌+◌, Bool, true, false, ◌||◌, ◌&&◌, List, [], ◌∷◌, ◌++◌, length, Option, Some, None, cond, refl, ap, sym, ◌∙◌, arith, append_assoc, length-append}
use Rattle.std.specs.Prelude.{slice_get}
use Rattle.std.specs.List.{filter, filter_map, cons_option, list_any}
use Rattle.std.specs.Prelude.{option_and_then}
use Rattle.std.specs.Option.{option_map_or}
use Rattle.std.proofs.Math.Seq.{get_or-append_seam}
use Rattle.std.proofs.lemmas.Option.{slice_get-get_or}
use Rattle.flow_model.specs.Wiring.{places, at_places}

-- what stands at a seam
pub here : {X : Type 0} (ys : List X) (z : X) (zs : List X) (n : ℕ) → length ys ≡ n → slice_get (ys ++ z ∷ zs) n ≡ Some z
here ys z zs n long =
    rw (← long) (slice_get-get_or (ys ++ z ∷ zs) (length ys) z (omega (arith, length-append ys (z ∷ zs))) ∙ ap Some (get_or-append_seam ys z zs z))

chosen : {X : Type 0} (test : X → Bool) (b : Bool) (n : ℕ) (ps : List ℕ) (z : X) (zs : List X) (get : ℕ → Option X)
    → get n ≡ Some z → filter_map get ps ≡ zs → filter_map get (cond b (n ∷ ps) ps) ≡ cond b (z ∷ zs) zs
chosen test true n ps z zs get is rest = rw (is, rest) refl
chosen test false n ps z zs get is rest = rest

from_place : {X : Type 0} (test : X → Bool) (ys zs : List X) (n : ℕ) → length ys ≡ n
    → filter_map (slice_get (ys ++ zs)) (places test n zs) ≡ filter test zs
from_place test ys [] n long = refl
from_place test ys (z ∷ zs) n long =
    let rest = from_place test (ys ++ z ∷ []) zs (n + 1) (omega (arith, length-append ys (z ∷ []))) in
    chosen test (test z) n (places test (n + 1) zs) z (filter test zs) (slice_get (ys ++ z ∷ zs)) (here ys z zs n long) (rw append_assoc at rest)

-- the rows of a graph name the elements that pass the test
pub at_places_are : {X : Type 0} (test : X → Bool) (xs : List X) → at_places xs (places test 0 xs) ≡ filter test xs
at_places_are test xs = from_place test [] xs 0 refl

any_cons : {X : Type 0} (f : X → Bool) (o : Option X) (xs : List X) → list_any f (cons_option o xs) ≡ (option_map_or f o false || list_any f xs)
any_cons f None xs = refl
any_cons f (Some x) xs = refl

-- a test of what stands at some places, place by place
pub any_at : {X : Type 0} (f : X → Bool) (xs : List X) (ps : List ℕ)
    → list_any (λ p. option_map_or f (slice_get xs p) false) ps ≡ list_any f (at_places xs ps)
any_at f xs [] = refl
any_at f xs (p ∷ ps) =
    ap (λ (b : Bool). option_map_or f (slice_get xs p) false || b) (any_at f xs ps) ∙ sym (any_cons f (slice_get xs p) (at_places xs ps))

any_cond : {X : Type 0} (f : X → Bool) (b : Bool) (x : X) (xs : List X) → list_any f (cond b (x ∷ xs) xs) ≡ ((b && f x) || list_any f xs)
any_cond f true x xs = refl
any_cond f false x xs = refl

pub any_filter : {X : Type 0} (test f : X → Bool) (xs : List X) → list_any f (filter test xs) ≡ list_any (λ x. test x && f x) xs
any_filter test f [] = refl
any_filter test f (x ∷ xs) = any_cond f (test x) x (filter test xs) ∙ ap (λ (b : Bool). (test x && f x) || b) (any_filter test f xs)

found_cons : {X Y : Type 0} (h : X → Option Y) (o : Option X) (xs : List X) → filter_map h (cons_option o xs) ≡ cons_option (option_and_then h o) (filter_map h xs)
found_cons h None xs = refl
found_cons h (Some x) xs = refl

-- what comes of what stands at some places, place by place
pub found_at : {X Y : Type 0} (h : X → Option Y) (xs : List X) (ps : List ℕ)
    → filter_map (λ p. option_and_then h (slice_get xs p)) ps ≡ filter_map h (at_places xs ps)
found_at h xs [] = refl
found_at h xs (p ∷ ps) =
    ap (cons_option (option_and_then h (slice_get xs p))) (found_at h xs ps) ∙ sym (found_cons h (slice_get xs p) (at_places xs ps))
