-- What a join asks, in words.
use Rattle.std.proofs.Common.{◌≡◌, ℕ, suc, ◌≤◌, ◌==◌, Bool, true, false, ◌||◌, ◌↔◌, ◌⊎◌, List, [], ◌∷◌, length, refl, sym, ◌∙◌, Option, Some, None, arith, inl, inr}
use Rattle.std.proofs.lemmas.Bool.{leb-true, le-leb}
use Rattle.std.proofs.lemmas.Bool.Decides.{eqb_tells}
use Rattle.std.proofs.lemmas.List.Elements.{All-cons, All-contains, All-weaker}
use Rattle.std.specs.List.{list_any, list_all, All, Contains}
use Rattle.std.specs.Prelude.{◌≢◌, is_none, nat_le, count_by}
use Rattle.flow_model.specs.declared.graphs.Join.{Join}
use Rattle.flow_model.specs.declared.graphs.Join.TheVariants as join
use Rattle.flow_model.specs.Fates.{asks, is_yes, joined}
use Rattle.fate_laws.specs.Equations.{AreJoins}
use Rattle.fate_laws.proofs.Connectors.{each_false, any_false}
use Rattle.fate_laws.proofs.Extends.{and_true}

-- ---- one value

not_none : (v : Option Bool) → is_none v ≡ false → v ≢ None
not_none None h is = cc
not_none (Some b) h is = cc

none_not : (v : Option Bool) → v ≢ None → is_none v ≡ false
none_not None h = absurd (h refl)
none_not (Some b) h = refl

yes_some : (v : Option Bool) → is_yes v ≡ true → v ≡ Some true
yes_some None h = cc
yes_some (Some true) h = refl
yes_some (Some false) h = cc

-- ---- all values

each_true : {X : Type 0} (p : X → Bool) (xs : List X) → list_all p xs ≡ true → All (λ x. p x ≡ true) xs
each_true p [] h = λ i d less. absurd (omega arith)
each_true p (x ∷ xs) h =
    let both = and_true (p x) (list_all p xs) h in
    All-cons (λ y. p y ≡ true) x xs both.0 (each_true p xs both.1)

all_true : {X : Type 0} (p : X → Bool) (xs : List X) → All (λ x. p x ≡ true) xs → list_all p xs ≡ true
all_true p [] h = refl
all_true p (x ∷ xs) h = rw (h 0 x (omega arith)) (all_true p xs (λ i d less. h (suc i) d (omega arith)))

-- a value that a test finds, where the test holds of it alone
found : (p : Option Bool → Bool) (w : Option Bool) → ((v : Option Bool) → p v ≡ true → v ≡ w) → (vs : List (Option Bool)) → list_any p vs ≡ true → Contains vs w
found p w only [] h = absurd (no_end h)
  where
    no_end : false ≡ true → ⊥
    no_end h = cc
found p w only (v ∷ vs) h = go (p v) refl (found p w only vs)
  where
    go : (b : Bool) → p v ≡ b → (list_any p vs ≡ true → Contains vs w) → Contains (v ∷ vs) w
    go true is rest = (0, omega arith, only v is)
    go false is rest = let r = rest (rw is at h) in (suc r.0, omega (arith, r.1), r.2)

finds : (p : Option Bool → Bool) (w : Option Bool) → p w ≡ true → (vs : List (Option Bool)) → Contains vs w → list_any p vs ≡ true
finds p w is vs there = go (list_any p vs) refl
  where
    go : (b : Bool) → list_any p vs ≡ b → list_any p vs ≡ true
    go true all = all
    go false none =
        let fails : p w ≡ false = All-contains (λ v. p v ≡ false) vs w (each_false p vs none) there in
        let wrong : true ≡ false = sym is ∙ fails in
        cc

none_only : (v : Option Bool) → is_none v ≡ true → v ≡ None
none_only None h = refl
none_only (Some b) h = cc

known_values : (vs : List (Option Bool)) → list_any is_none vs ≡ false → All (λ v. v ≢ None) vs
known_values vs h = All-weaker (λ v. is_none v ≡ false) (λ v. v ≢ None) not_none vs (each_false is_none vs h)

values_known : (vs : List (Option Bool)) → All (λ v. v ≢ None) vs → list_any is_none vs ≡ false
values_known vs h = any_false is_none vs (All-weaker (λ v. v ≢ None) (λ v. is_none v ≡ false) none_not vs h)

-- ---- a join

unknown_join : (rule : Join) (vs : List (Option Bool)) → (joined rule vs ≡ None) ↔ Contains vs None
unknown_join rule vs = (λ h. to (list_any is_none vs) refl h, λ there. rw (finds is_none None refl vs there) refl)
  where
    to : (b : Bool) → list_any is_none vs ≡ b → joined rule vs ≡ None → Contains vs None
    to true is h = found is_none None none_only vs is
    to false is h = let wrong : Some (asks rule vs) ≡ None = rw is at h in let n : ⊥ = cc in absurd n

-- a join that is true has known values and what it asks for
true_join : (rule : Join) (vs : List (Option Bool)) → joined rule vs ≡ Some true → (list_any is_none vs ≡ false) × (asks rule vs ≡ true)
true_join rule vs h = go (list_any is_none vs) refl
  where
    go : (b : Bool) → list_any is_none vs ≡ b → (list_any is_none vs ≡ false) × (asks rule vs ≡ true)
    go true is = let wrong : None ≡ Some true = rw is at h in let n : ⊥ = cc in absurd n
    go false is = let told : Some (asks rule vs) ≡ Some true = rw is at h in let a : asks rule vs ≡ true = cc in (is, a)

join_true : (rule : Join) (vs : List (Option Bool)) → list_any is_none vs ≡ false → asks rule vs ≡ true → joined rule vs ≡ Some true
join_true rule vs known asked = rw (known, asked) refl

all_join : (vs : List (Option Bool)) → (joined join.All vs ≡ Some true) ↔ All (λ v. v ≡ Some true) vs
all_join vs = (to, back)
  where
    to : joined join.All vs ≡ Some true → All (λ v. v ≡ Some true) vs
    to h = All-weaker (λ v. is_yes v ≡ true) (λ v. v ≡ Some true) yes_some vs (each_true is_yes vs (true_join join.All vs h).1)

    yes_of : (v : Option Bool) → v ≡ Some true → is_yes v ≡ true
    yes_of v is = rw is refl

    known_of : (v : Option Bool) → v ≡ Some true → is_none v ≡ false
    known_of v is = rw is refl

    back : All (λ v. v ≡ Some true) vs → joined join.All vs ≡ Some true
    back h = join_true join.All vs (any_false is_none vs (All-weaker (λ v. v ≡ Some true) (λ v. is_none v ≡ false) known_of vs h))
        (all_true is_yes vs (All-weaker (λ v. v ≡ Some true) (λ v. is_yes v ≡ true) yes_of vs h))

more : (v : Option Bool) (vs : List (Option Bool)) → (length (v ∷ vs) == 0) ≡ false
more v vs = elim (eqb_tells (length (v ∷ vs)) 0) [ inl is ↦ absurd (some is.1) | inr other ↦ other.0 ]
  where
    some : length (v ∷ vs) ≡ 0 → ⊥
    some h = omega arith

-- with no value, or as the test says
free_or : (test : Bool) (vs : List (Option Bool)) → ((length vs == 0) || test) ≡ true → (vs ≡ []) ⊎ (test ≡ true)
free_or test [] h = inl refl
free_or test (v ∷ vs) h = inr (rw (more v vs) at h)

or_free : (test : Bool) (vs : List (Option Bool)) → (vs ≡ []) ⊎ (test ≡ true) → ((length vs == 0) || test) ≡ true
or_free test [] h = refl
or_free test (v ∷ vs) (inl h) = let n : ⊥ = cc in absurd n
or_free test (v ∷ vs) (inr h) = rw (more v vs) h

one_join : (vs : List (Option Bool)) → (joined join.AtLeastOne vs ≡ Some true) ↔ (All (λ v. v ≢ None) vs × ((vs ≡ []) ⊎ Contains vs (Some true)))
one_join vs = (to, λ h. join_true join.AtLeastOne vs (values_known vs h.0) (or_free (list_any is_yes vs) vs (test h.1)))
  where
    some : (vs ≡ []) ⊎ (list_any is_yes vs ≡ true) → (vs ≡ []) ⊎ Contains vs (Some true)
    some (inl h) = inl h
    some (inr h) = inr (found is_yes (Some true) yes_some vs h)

    test : (vs ≡ []) ⊎ Contains vs (Some true) → (vs ≡ []) ⊎ (list_any is_yes vs ≡ true)
    test (inl h) = inl h
    test (inr h) = inr (finds is_yes (Some true) refl vs h)

    to : joined join.AtLeastOne vs ≡ Some true → All (λ v. v ≢ None) vs × ((vs ≡ []) ⊎ Contains vs (Some true))
    to h =
        let both = true_join join.AtLeastOne vs h in
        (known_values vs both.0, some (free_or (list_any is_yes vs) vs both.1))

count_join : (n : ℕ) (vs : List (Option Bool)) → (joined (join.AtLeast n) vs ≡ Some true) ↔ (All (λ v. v ≢ None) vs × ((vs ≡ []) ⊎ (n ≤ count_by is_yes vs)))
count_join n vs = (to, λ h. join_true (join.AtLeast n) vs (values_known vs h.0) (or_free (nat_le n (count_by is_yes vs)) vs (test h.1)))
  where
    some : (vs ≡ []) ⊎ (nat_le n (count_by is_yes vs) ≡ true) → (vs ≡ []) ⊎ (n ≤ count_by is_yes vs)
    some (inl h) = inl h
    some (inr h) = inr (leb-true n (count_by is_yes vs) h)

    test : (vs ≡ []) ⊎ (n ≤ count_by is_yes vs) → (vs ≡ []) ⊎ (nat_le n (count_by is_yes vs) ≡ true)
    test (inl h) = inl h
    test (inr h) = inr (le-leb n (count_by is_yes vs) h)

    to : joined (join.AtLeast n) vs ≡ Some true → All (λ v. v ≢ None) vs × ((vs ≡ []) ⊎ (n ≤ count_by is_yes vs))
    to h =
        let both = true_join (join.AtLeast n) vs h in
        (known_values vs both.0, some (free_or (nat_le n (count_by is_yes vs)) vs both.1))

pub joins : (vs : List (Option Bool)) → AreJoins vs
joins vs = record {
  unknown = λ rule. unknown_join rule vs;
  all = all_join vs;
  at_least_one = one_join vs;
  at_least = λ n. count_join n vs;
}
