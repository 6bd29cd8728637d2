-- What a tally says, by the values that it counts.
use Rattle.std.proofs.Common.{◌≡◌, ℕ, zero, suc, ◌+◌, ◌-◌, Bool, true, false, ◌||◌, List, ◌∷◌, ◌++◌}
use Rattle.std.proofs.Common.{length, replicate, Option, Some, None, cond, refl, ap, sym, ◌∙◌, arith}
use Rattle.std.specs.Prelude.{◌==◌, nat_lt, is_none, count_by, if◌then◌else◌}
use Rattle.std.proofs.lemmas.List.{length-replicate}
use Rattle.std.proofs.lemmas.List.Sums.{sum_by-cons}
use Rattle.dead_paths.specs.Tallies.{Counts}
use Rattle.dead_paths.specs.declared.joins.Tally.{Tally}
use Rattle.dead_paths.proofs.Counting.{some_counted, each_counted, one_known}
use Rattle.flow_model.specs.Fates.{is_yes, joined, asks}
use Rattle.flow_model.specs.declared.graphs.Join.{Join}
use Rattle.flow_model.specs.declared.graphs.Join.TheVariants.{All, AtLeastOne, AtLeast}
use Rattle.machine.specs.Moves.{asks_by, joined_by, one_if, with_value}
use Rattle.machine.specs.Rows.{fresh_tally}

-- a tally is what it counts
pub tally_is : (t u : Tally) → t.total ≡ u.total → t.missing ≡ u.missing → t.trues ≡ u.trues → t ≡ u
tally_is t u a b c = λ i. record { total = a i; missing = b i; trues = c i }

pub tallies_are : (t u : Tally) (vs : List (Option Bool)) → Counts t vs → Counts u vs → t ≡ u
tallies_are t u vs a b = tally_is t u (a.total ∙ sym b.total) (a.missing ∙ sym b.missing) (a.trues ∙ sym b.trues)

module _ (t : Tally) (vs : List (Option Bool)) (counts : Counts t vs) where
  asks_so : (join : Join) → asks_by join t ≡ asks join vs
  asks_so All = rw (counts.trues, counts.total) (sym (each_counted is_yes vs))
  asks_so AtLeastOne = rw (counts.trues, counts.total) (ap (λ b. (length vs == 0) || b) (sym (some_counted is_yes vs)))
  asks_so (AtLeast n) = rw (counts.trues, counts.total) refl

  if_asked : (join : Join) (b : Bool) → (if b then None else Some (asks_by join t))
      ≡ (if b then None else Some (asks join vs))
  if_asked join true = refl
  if_asked join false = ap Some (asks_so join)

  pub joined_so : (join : Join) → joined_by join t ≡ joined join vs
  joined_so join =
      if_asked join (nat_lt 0 t.missing)
      ∙ ap (λ b. if b then None else Some (asks join vs)) (ap (nat_lt 0) counts.missing ∙ sym (some_counted is_none vs))

one_is : (v : Bool) → one_if v ≡ cond v 1 0
one_is true = refl
one_is false = refl

-- the tally with one more value known
pub valued : (t u : Tally) (v : Bool) (xs ys : List (Option Bool)) → Counts t (xs ++ None ∷ ys)
    → Counts u (xs ++ Some v ∷ ys) → u ≡ with_value v t
valued t u v xs ys counts is =
    let known = one_known t v xs ys counts in
    tally_is u (with_value v t) (is.total ∙ sym known.total) (is.missing ∙ sym known.missing)
    (is.trues ∙ sym known.trues ∙ ap (λ n. t.trues + n) (sym (one_is v)))

abbrev unknown : ℕ → List (Option Bool)
unknown n = replicate n None

none_missing : (n : ℕ) → count_by is_none (unknown n) ≡ n
none_missing zero = refl
none_missing (suc n) =
    sum_by-cons (λ (w : Option Bool). cond (is_none w) 1 0) None (unknown n)
    ∙ (let more = none_missing n in omega (arith, more))

none_true : (n : ℕ) → count_by is_yes (unknown n) ≡ 0
none_true zero = refl
none_true (suc n) =
    sum_by-cons (λ (w : Option Bool). cond (is_yes w) 1 0) None (unknown n)
    ∙ (let more = none_true n in omega (arith, more))

-- the tally of an activity of which no value is known
pub tally_fresh : (t : Tally) (n : ℕ) → Counts t (replicate n None) → t ≡ fresh_tally n
tally_fresh t n counts =
    tally_is t (fresh_tally n) (counts.total ∙ length-replicate n None) (counts.missing ∙ none_missing n)
    (counts.trues ∙ none_true n)
