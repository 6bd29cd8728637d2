-- The connectors that lead to each activity, counted one by one.
use Rattle.std.proofs.Common.{◌≡◌, ℕ, ◌+◌, ◌-◌, ◌^◌, ◌<◌, ◌≤◌, Bool, cond, List, [], ◌∷◌, length, get_or, take, map, Bor, refl, sym, ap, ◌∙◌, arith}
use Rattle.std.specs.List.{count_by}
use Rattle.std.proofs.lemmas.List.{length-take, take_all}
use Rattle.std.proofs.lemmas.List.Sums.{count_by-le-length, sum_by-cons, sum_by_more}

-- a count of some has room for one more
pub counted_room : {X : Type 0} (p : X → Bool) (xs : List X) (i count : ℕ) → count ≡ count_by p (take i xs) → i < length xs → length xs < 2 ^ 63 → count < 2 ^ 64 - 1
counted_room p xs i count is less few = let le = count_by-le-length p (take i xs) in let short = length-take i xs in omega arith

-- one more
pub counted_more : {X : Type 0} (p : X → Bool) (xs : List X) (i : ℕ) (x : X) (old new : ℕ) → i < length xs → x ≡ get_or xs i x → new ≡ old + cond (p x) 1 0 → old ≡ count_by p (take i xs) → new ≡ count_by p (take (i + 1) xs)
counted_more {X} p xs i x old new less is now so_far =
    now ∙ ap (λ (n : ℕ). n + cond (p x) 1 0) so_far ∙ ap (λ (y : X). count_by p (take i xs) + cond (p y) 1 0) is ∙ sym (sum_by_more (λ (y : X). cond (p y) 1 0) xs i x less)

-- all of them, behind references
behind : {X : Type 0} (p : X → Bool) (items : List (Bor X)) → count_by (λ (x : Bor X). p x.now) items ≡ count_by p (map (λ (x : Bor X). x.now) items)
behind p [] = refl
behind {X} p (x ∷ items) =
    sum_by-cons (λ (y : Bor X). cond (p y.now) 1 0) x items ∙ ap (λ (n : ℕ). cond (p x.now) 1 0 + n) (behind p items) ∙ sym (sum_by-cons (λ (y : X). cond (p y) 1 0) x.now (map (λ (y : Bor X). y.now) items))

pub counted_all : {X : Type 0} (p : X → Bool) (items : List (Bor X)) (i : ℕ) (xs : List X) (count : ℕ) → length items ≤ i → map (λ x. x.now) items ≡ xs → count ≡ count_by (λ (x : Bor X). p x.now) (take i items) → count ≡ count_by p xs
counted_all {X} p items i xs count past same is = is ∙ ap (count_by (λ (x : Bor X). p x.now)) (take_all i items past) ∙ behind p items ∙ ap (count_by p) same
