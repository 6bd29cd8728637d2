-- Joins by counts.
use Rattle.std.proofs.Common.{◌≡◌, ◌≢◌, ℕ, suc, ◌+◌, ◌-◌, ◌<◌, ◌≤◌, Bool, true, false, ◌||◌, ◌&&◌, List, [], ◌∷◌, ◌++◌, length, Option, Some, None, cond, refl, ap, sym, ◌∙◌, arith, length-append}
use Rattle.std.specs.Prelude.{◌==◌, nat_lt, is_none, count_by}
use Rattle.std.specs.List.{list_any, list_all}
use Rattle.std.proofs.lemmas.Bool.Decides.{nat_tests}
use Rattle.std.proofs.lemmas.List.Sums.{sum_by-cons, sum_by-append, count_by-le-length}
use mir.Val.{bool_byte}
use Rattle.flow_model.specs.Fates.{is_yes, joined, asks}
use Rattle.flow_model.specs.declared.graphs.Join.{Join}
use Rattle.flow_model.specs.declared.graphs.Join.TheVariants.{All, AtLeastOne}
use Rattle.dead_paths.specs.declared.joins.Tally.{Tally}
use Rattle.dead_paths.specs.Tallies.{Counts}

some_step : (b r : Bool) (n : ℕ) → r ≡ nat_lt 0 n → (b || r) ≡ nat_lt 0 (cond b 1 0 + n)
some_step true r n is = grind (arith, nat_tests)
some_step false r n is = grind (arith, nat_tests)

-- some value passes a test where the count of those that do isn't 0
pub some_counted : {X : Type 0} (p : X → Bool) (xs : List X) → list_any p xs ≡ nat_lt 0 (count_by p xs)
some_counted p [] = refl
some_counted p (x ∷ xs) = some_step (p x) (list_any p xs) (count_by p xs) (some_counted p xs) ∙ sym (ap (nat_lt 0) (sum_by-cons (λ y. cond (p y) 1 0) x xs))

each_step : (b r : Bool) (n m : ℕ) → n ≤ m → r ≡ (n == m) → (b && r) ≡ ((cond b 1 0 + n) == suc m)
each_step true r n m less is = grind (arith, nat_tests)
each_step false r n m less is = grind (arith, nat_tests)

-- each value passes a test where as many do as there are
pub each_counted : {X : Type 0} (p : X → Bool) (xs : List X) → list_all p xs ≡ (count_by p xs == length xs)
each_counted p [] = refl
each_counted p (x ∷ xs) =
    each_step (p x) (list_all p xs) (count_by p xs) (length xs) (count_by-le-length p xs) (each_counted p xs)
    ∙ sym (ap (λ n. n == suc (length xs)) (sum_by-cons (λ y. cond (p y) 1 0) x xs))

two_step : (v : Option Bool) → cond (is_none v) 1 0 + cond (is_yes v) 1 0 ≤ 1
two_step None = omega arith
two_step (Some true) = omega arith
two_step (Some false) = omega arith

-- no value is both unknown and true
pub unknown_or_true : (vs : List (Option Bool)) → count_by is_none vs + count_by is_yes vs ≤ length vs
unknown_or_true [] = omega arith
unknown_or_true (v ∷ vs) =
    let n = sum_by-cons (λ w. cond (is_none w) 1 0) v vs in
    let y = sum_by-cons (λ w. cond (is_yes w) 1 0) v vs in
    omega (arith, n, y, two_step v, unknown_or_true vs)

-- the count of a value among others
pub counted_at : {X : Type 0} (p : X → Bool) (xs ys : List X) (x : X) → count_by p (xs ++ x ∷ ys) ≡ count_by p xs + (cond (p x) 1 0 + count_by p ys)
counted_at p xs ys x = sum_by-append (λ y. cond (p y) 1 0) xs (x ∷ ys) ∙ ap (λ n. count_by p xs + n) (sum_by-cons (λ y. cond (p y) 1 0) x ys)

module _ (t : Tally) (vs : List (Option Bool)) (counts : Counts t vs) where
  pub asks_each : (t.trues == t.total) ≡ asks All vs
  asks_each = rw (counts.trues, counts.total) (sym (each_counted is_yes vs))

  pub asks_some : t.total ≢ 0 → nat_lt 0 t.trues ≡ asks AtLeastOne vs
  asks_some more = let e = some_counted is_yes vs in grind (arith, nat_tests, e, counts.trues, counts.total)

  pub waits : (rule : Join) → 0 < t.missing → None ≡ joined rule vs
  waits rule more = let e = some_counted is_none vs in grind (arith, nat_tests, e, counts.missing)

  pub known : (rule : Join) → t.missing ≤ 0 → Some (asks rule vs) ≡ joined rule vs
  known rule no_more = let e = some_counted is_none vs in grind (arith, nat_tests, e, counts.missing)

-- one more value that is known, among the others
pub one_known : (t : Tally) (value : Bool) (xs ys : List (Option Bool)) → Counts t (xs ++ None ∷ ys)
    → Counts (record { total = t.total; missing = t.missing - 1; trues = t.trues + cond value 1 0 }) (xs ++ Some value ∷ ys)
one_known t value xs ys counts = record {
  total = omega (arith, counts.total, length-append xs (None ∷ ys), length-append xs (Some value ∷ ys));
  missing = omega (arith, counts.missing, counted_at is_none xs ys None, counted_at is_none xs ys (Some value));
  trues = omega (arith, counts.trues, counted_at is_yes xs ys None, counted_at is_yes xs ys (Some value));
}

-- there is room for it among those that are true
pub one_missing : (t : Tally) (xs ys : List (Option Bool)) → Counts t (xs ++ None ∷ ys) → t.trues + 1 ≤ t.total
one_missing t xs ys counts =
    omega (arith, counts.total, counts.trues, counted_at is_none xs ys None, unknown_or_true (xs ++ None ∷ ys))

-- a truth value as a number
pub bit_of : (b : Bool) → bool_byte b ≡ cond b 1 0
bit_of true = refl
bit_of false = refl
