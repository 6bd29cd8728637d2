-- Two lists of the same elements, in the strict order of one key, are one; so a worklist is.
use Rattle.std.proofs.Common.{◌≡◌, ◌⊎◌, inl, inr, ℕ, zero, suc, List, [], ◌∷◌, Option, Some, map, refl, sym, ap, ap₂}
use Rattle.std.proofs.Common.{subst, ◌∙◌}
use Rattle.std.specs.Prelude.{slice_get}
use Rattle.std.specs.Cmp.Lexicographic.{slice_cmp, nat_list_cmp_total}
use Rattle.std.specs.List.{Contains, AllByRecursion}
use Rattle.std.specs.List.Sorted.{IsStrictlySortedBy}
use Rattle.std.specs.Ordering.{nat_cmp, ordering_reverse}
use Rattle.std.specs.declared.cmp.Ordering.{Ordering}
use Rattle.std.specs.declared.cmp.Ordering.TheVariants.{Less}
use Rattle.std.proofs.lemmas.Option.{none-some, slice_get_read, slice_get_within, get_or_from_slice_get}
use Rattle.flow_model.specs.declared.graphs.PersonDef.{PersonDef}
use Rattle.flow_model.specs.declared.instances.WorkLine.{WorkLine}
use Rattle.machine.specs.States.{State}
use Rattle.machine.specs.Answers.{IsWorklist, rank_of}

-- an element of a list, at a place
abbrev Has : {X : Type 0} → List X → X → Type 0
Has xs x = (i : ℕ) × (slice_get xs i ≡ Some x)

contains : {X : Type 0} (xs : List X) (x : X) → Has xs x → Contains xs x
contains xs x has = (has.0, slice_get_within xs has.0 x has.1, get_or_from_slice_get xs has.0 x x has.1)

has_it : {X : Type 0} (xs : List X) (x : X) → Contains xs x → Has xs x
has_it xs x there = (there.0, slice_get_read xs _ there.0 x refl there.1 (sym there.2))

module _ {X K : Type 0} (c : K → K → Ordering) (never : (k l : K) → c k l ≡ Less → c l k ≡ Less → ⊥)
    (r : X → Option K) where
  rising : (k : K) (ks : List K) → IsStrictlySortedBy c (k ∷ ks)
      → AllByRecursion (λ l. c k l ≡ Less) ks × IsStrictlySortedBy c ks
  unfolding IsStrictlySortedBy
  rising k ks sorted = sorted

  first_key : (x : X) (xs : List X) (k : K) (ks : List K) → map r (x ∷ xs) ≡ map Some (k ∷ ks) → r x ≡ Some k
  first_key x xs k ks same = cc

  other_keys : (x : X) (xs : List X) (k : K) (ks : List K) → map r (x ∷ xs) ≡ map Some (k ∷ ks)
      → map r xs ≡ map Some ks
  other_keys x xs k ks same = cc

  -- an element with a key of those above this one has a greater key
  above : (xs : List X) (ks : List K) (k l : K) → map r xs ≡ map Some ks → AllByRecursion (λ m. c k m ≡ Less) ks
      → (x : X) → Has xs x → r x ≡ Some l → c k l ≡ Less
  above [] ks k l same all x has key = absurd (none-some x has.1)
  above (y ∷ xs) [] k l same all x has key = let e : ⊥ = cc in absurd e
  above (y ∷ xs) (m ∷ ks) k l same all x (zero, at) key =
      let is : y ≡ x = cc in
      let both : Some m ≡ Some l = sym (first_key y xs m ks same) ∙ ap r is ∙ key in
      let equal : m ≡ l = cc in
      subst (λ n. c k n ≡ Less) equal all.0
  above (y ∷ xs) (m ∷ ks) k l same all x (suc i, at) key =
      above xs ks k l (other_keys y xs m ks same) all.1 x (i, at) key

  head_or_tail : (y : X) (ys : List X) (x : X) → Has (y ∷ ys) x → (y ≡ x) ⊎ Has ys x
  head_or_tail y ys x (zero, at) = inl (let is : y ≡ x = cc in is)
  head_or_tail y ys x (suc i, at) = inr (i, at)

  heads_one : (x y : X) (xs ys : List X) (k l : K) → r x ≡ Some k → r y ≡ Some l
      → ((z : X) → Has xs z → r z ≡ Some l → c k l ≡ Less) → ((z : X) → Has ys z → r z ≡ Some k → c l k ≡ Less)
      → (y ≡ x) ⊎ Has ys x → (x ≡ y) ⊎ Has xs y → x ≡ y
  heads_one x y xs ys k l kx ly up down (inl one) other = sym one
  heads_one x y xs ys k l kx ly up down (inr on) (inl one) = one
  heads_one x y xs ys k l kx ly up down (inr on) (inr on') = absurd (never k l (up y on' ly) (down x on kx))

  tail_in : (x y : X) (xs ys : List X) (k : K) (ks : List K) → x ≡ y → r x ≡ Some k → map r xs ≡ map Some ks
      → AllByRecursion (λ m. c k m ≡ Less) ks → (z : X) → Has xs z → (y ≡ z) ⊎ Has ys z → Has ys z
  tail_in x y xs ys k ks same key keys all z has (inl one) =
      let low = above xs ks k k keys all z has (ap r (sym (same ∙ one)) ∙ key) in
      absurd (never k k low low)
  tail_in x y xs ys k ks same key keys all z has (inr on) = on

  pub list_one : (xs ys : List X) (ks ls : List K) → map r xs ≡ map Some ks → map r ys ≡ map Some ls
      → IsStrictlySortedBy c ks → IsStrictlySortedBy c ls → ((x : X) → Has xs x → Has ys x)
      → ((x : X) → Has ys x → Has xs x) → xs ≡ ys
  list_one [] [] ks ls keys keys' sorted sorted' to back = refl
  list_one [] (y ∷ ys) ks ls keys keys' sorted sorted' to back = absurd (none-some y (back y (0, refl)).1)
  list_one (x ∷ xs) [] ks ls keys keys' sorted sorted' to back = absurd (none-some x (to x (0, refl)).1)
  list_one (x ∷ xs) (y ∷ ys) [] ls keys keys' sorted sorted' to back = let e : ⊥ = cc in absurd e
  list_one (x ∷ xs) (y ∷ ys) (k ∷ ks) [] keys keys' sorted sorted' to back = let e : ⊥ = cc in absurd e
  list_one (x ∷ xs) (y ∷ ys) (k ∷ ks) (l ∷ ls) keys keys' sorted sorted' to back =
      let kx = first_key x xs k ks keys in
      let ly = first_key y ys l ls keys' in
      let rest = other_keys x xs k ks keys in
      let rest' = other_keys y ys l ls keys' in
      let up = rising k ks sorted in
      let up' = rising l ls sorted' in
      let same : x ≡ y = heads_one x y xs ys k l kx ly (λ z has key. above xs ks k l rest up.0 z has key)
      (λ z has key. above ys ls l k rest' up'.0 z has key) (head_or_tail y ys x (to x (0, refl)))
      (head_or_tail x xs y (back y (0, refl))) in
      let on = list_one xs ys ks ls rest rest' up.1 up'.1
      (λ z has. tail_in x y xs ys k ks same kx rest up.0 z has
      (head_or_tail y ys z (let later = to z (suc has.0, has.1) in later)))
      (λ z has. tail_in y x ys xs l ls (sym same) ly rest' up'.0 z has
      (head_or_tail x xs z (let later = back z (suc has.0, has.1) in later))) in
      ap₂ (λ z zs. z ∷ zs) same on

ranks_never : (k l : List ℕ) → slice_cmp nat_cmp k l ≡ Less → slice_cmp nat_cmp l k ≡ Less → ⊥
ranks_never k l less back =
    let turned : Less ≡ ordering_reverse Less = sym back ∙ nat_list_cmp_total.antisymm l k ∙ ap ordering_reverse less in
    cc

pub worklist_one : (s : State) (person : PersonDef) (x y : List WorkLine) → IsWorklist s person x
    → IsWorklist s person y → x ≡ y
worklist_one s person x y a b =
    list_one (slice_cmp nat_cmp) ranks_never (λ line. rank_of s line.item) x y a.ranks b.ranks a.in_order b.in_order
    a.rising b.rising
    (λ line has. has_it y line ((b.exactly line.item line.held).1
    ((a.exactly line.item line.held).0 (contains x line has))))
    (λ line has. has_it x line ((a.exactly line.item line.held).1
    ((b.exactly line.item line.held).0 (contains y line has))))
