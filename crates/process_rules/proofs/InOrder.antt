-- The least place of a misfit among calls is that of the first one in the order of their places; and the calls of some graphs are gathered one by one.
use Rattle.std.proofs.Common.{◌≡◌, ◌⊎◌, inl, inr, ℕ, zero, suc, ◌+◌, ◌<◌, ◌≤◌, List, [], ◌∷◌, ◌++◌, length, get_or, take, map, Option, Some, None, Bor, refl, sym, ap, ◌∙◌, subst, ⊎_elim, append-nil, append_assoc, IsPermutation, arith}
use Rattle.std.specs.List.{AllWithin, Contains, cons_option, filter_map, flat_map}
use Rattle.std.specs.List.Sorted.{IsNonDecreasingBy}
use Rattle.std.specs.Option.{option_map}
use Rattle.std.proofs.Math.ListN.{get_or-map}
use Rattle.std.proofs.lemmas.Bool.{cases_lt}
use Rattle.std.proofs.lemmas.List.{get_or_default, length-map, map-append, take_all, flat_map_more}
use Rattle.std.proofs.lemmas.List.Folds.{flat_map-map}
use Rattle.std.proofs.lemmas.List.Sorted.{Contains-permutation, IsPermutation-sym}
use Rattle.flow_model.specs.declared.graphs.Library.{Library}
use Rattle.flow_model.specs.declared.trees.ActivityTree.{ActivityTree}
use Rattle.flow_model.specs.declared.trees.ProcessTree.{ProcessTree}
use Rattle.leaf_rules.specs.Leaves.{Leafing}
use Rattle.process_rules.specs.Callees.{Calls, IsMisfit, IsMisfitOf, HasMisfitBy, AreCallsInOrder, called, call_of, calls_in, calls_among, call_at}
use Rattle.process_rules.specs.declared.callees.Call.{Call}
use Rattle.process_rules.specs.declared.people.Callee.{Callee}
use Rattle.text_graphs.specs.Graphs.{GraphAt, graph_at, graphs_in}
use Rattle.text_graphs.specs.Places.{IsLeastOf, AnyAt}
use Rattle.text_graphs.specs.Texts.{activities_in}
use Rattle.text_graphs.specs.declared.scopes.Scope.{Scope}
use Rattle.text_graphs.proofs.Finding.{least_same, any_append, any_cases, any_map, any_unmap, taken_more}
use Rattle.text_graphs.proofs.Sorting.{one_more}

-- ---- elements and their places

module _ {X : Type 0} (R : X → ℕ → Type 0) where
  at_element : (xs : List X) (x : X) (p : ℕ) → Contains xs x → R x p → AnyAt R xs p
  at_element [] x p has r = absurd (omega (arith, has.1))
  at_element (y ∷ xs) x p has r = go has.0 has.1 has.2 (λ h. at_element xs x p h r)
    where
      go : (k : ℕ) → k < suc (length xs) → get_or (y ∷ xs) k x ≡ x → (Contains xs x → AnyAt R xs p) → AnyAt R (y ∷ xs) p
      go zero less is rest = inl (subst (λ (z : X). R z p) (sym is) r)
      go (suc k) less is rest = inr (rest (k, omega arith, is))

  element_at : (xs : List X) (p : ℕ) → AnyAt R xs p → (x : X) × Contains xs x × R x p
  element_at [] p h = absurd h
  element_at (x ∷ xs) p h =
      ⊎_elim
      (λ here. (x, (0, omega arith, refl), here))
      (λ there. let r = element_at xs p there in (r.0, (suc r.1.0, let l = r.1.1 in omega arith, r.1.2), r.2))
      h

  -- in another order
  pub any_moved : (xs ys : List X) (p : ℕ) → IsPermutation xs ys → AnyAt R xs p → AnyAt R ys p
  any_moved xs ys p moved h = let r = element_at xs p h in at_element ys r.0 p (Contains-permutation xs ys r.0 moved r.1) r.2

-- ---- the first in order

module _ {X : Type 0} (Fits : X → Type 0) (place : X → ℕ) where
  -- the first that doesn't fit, of those whose places rise
  pub first_least : (xs : List X) (i : ℕ) (x : X) → i < length xs → x ≡ get_or xs i x → IsNonDecreasingBy place xs → AllWithin Fits xs 0 i → (Fits x → ⊥) → IsLeastOf (AnyAt (λ y p. (Fits y → ⊥) × (place y ≡ p)) xs) (Some (place x))
  first_least xs i x less is rising fits unfit =
      let R = λ (y : X) (p : ℕ). (Fits y → ⊥) × (place y ≡ p) in (
        at_element R xs x (place x) (i, less, sym is) (unfit, refl),
        λ q h. let r = element_at R xs q h in behind r.0 q r.1.0 r.1.1 r.1.2 r.2.0 r.2.1,
      )
    where
      behind : (y : X) (q k : ℕ) → k < length xs → get_or xs k y ≡ y → (Fits y → ⊥) → place y ≡ q → place x ≤ q
      behind y q k within found unfit_ at =
          ⊎_elim
          (λ (before : k < i). absurd (unfit_ (subst Fits found (fits k y (omega arith) before))))
          (λ (after : i ≤ k). let le = rising i k y after within in subst (λ (n : ℕ). n ≤ q) (ap place (get_or_default xs i y x less ∙ sym is)) (subst (λ (n : ℕ). place (get_or xs i y) ≤ n) (ap place found ∙ at) le))
          (cases_lt k i)

  -- all of them fit
  pub none_least : (xs : List X) (i : ℕ) → length xs ≤ i → AllWithin Fits xs 0 i → IsLeastOf (AnyAt (λ y p. (Fits y → ⊥) × (place y ≡ p)) xs) None
  none_least xs i past fits = λ q h.
      let r = element_at (λ (y : X) (p : ℕ). (Fits y → ⊥) × (place y ≡ p)) xs q h in
      let within = r.1.1 in
      r.2.0 (subst Fits r.1.2 (fits r.1.0 r.0 (omega arith) (omega arith)))

-- ---- elements that others lead to

module _ {Y : Type 0} (R : Y → ℕ → Type 0) (p : ℕ) where
  of_either : (o : Option Y) (ys : List Y) → AnyAt R (cons_option o []) p ⊎ AnyAt R ys p → AnyAt R (cons_option o ys) p
  of_either None ys h = ⊎_elim (λ none. absurd none) (λ there. there) h
  of_either (Some y) ys h = ⊎_elim (⊎_elim (λ here. inl here) (λ none. absurd none)) (λ there. inr there) h

  either_of : (o : Option Y) (ys : List Y) → AnyAt R (cons_option o ys) p → AnyAt R (cons_option o []) p ⊎ AnyAt R ys p
  either_of None ys h = inr h
  either_of (Some y) ys h = ⊎_elim (λ here. inl (inl here)) (λ there. inr there) h

  module _ {X : Type 0} (S : X → ℕ → Type 0) where
    pub to_chosen : (f : X → Option Y) → ((x : X) → S x p → AnyAt R (cons_option (f x) []) p) → (xs : List X) → AnyAt S xs p → AnyAt R (filter_map f xs) p
    to_chosen f to [] h = h
    to_chosen f to (x ∷ xs) h = of_either (f x) (filter_map f xs) (⊎_elim (λ here. inl (to x here)) (λ there. inr (to_chosen f to xs there)) h)

    pub from_chosen : (f : X → Option Y) → ((x : X) → AnyAt R (cons_option (f x) []) p → S x p) → (xs : List X) → AnyAt R (filter_map f xs) p → AnyAt S xs p
    from_chosen f from [] h = h
    from_chosen f from (x ∷ xs) h = ⊎_elim (λ here. inl (from x here)) (λ there. inr (from_chosen f from xs there)) (either_of (f x) (filter_map f xs) h)

    pub to_joined : (f : X → List Y) → ((x : X) → S x p → AnyAt R (f x) p) → (xs : List X) → AnyAt S xs p → AnyAt R (flat_map f xs) p
    to_joined f to [] h = h
    to_joined f to (x ∷ xs) h = any_append R (f x) (flat_map f xs) p (⊎_elim (λ here. inl (to x here)) (λ there. inr (to_joined f to xs there)) h)

    pub from_joined : (f : X → List Y) → ((x : X) → AnyAt R (f x) p → S x p) → (xs : List X) → AnyAt R (flat_map f xs) p → AnyAt S xs p
    from_joined f from [] h = h
    from_joined f from (x ∷ xs) h = ⊎_elim (λ here. inl (from x here)) (λ there. inr (from_joined f from xs there)) (any_cases R (f x) (flat_map f xs) p h)

-- ---- gathered in a loop

-- one more element, which leads to one or to none, behind those that were there before
module _ {X Y Z : Type 0} (f : X → Option Y) (at : Z → Y) (before : List Y) (items : List (Bor X)) (i : ℕ) (x : Bor X) (less : i < length items) (is : x ≡ get_or items i x) where
  more_chosen : filter_map f (take (i + 1) (map (λ y. y.now) items)) ≡ filter_map f (take i (map (λ y. y.now) items)) ++ cons_option (f x.now) []
  more_chosen = one_more f (map (λ y. y.now) items) i x.now (rw length-map less) (ap (λ (y : Bor X). y.now) is ∙ sym (get_or-map (λ (y : Bor X). y.now) items i x))

  pub gathered_past : (found : List Z) → f x.now ≡ None → map at found ≡ before ++ filter_map f (take i (map (λ y. y.now) items)) → map at found ≡ before ++ filter_map f (take (i + 1) (map (λ y. y.now) items))
  gathered_past found none so_far =
      so_far ∙ ap (λ (ys : List Y). before ++ ys) (sym (more_chosen ∙ ap (λ (o : Option Y). filter_map f (take i (map (λ y. y.now) items)) ++ cons_option o []) none ∙ append-nil (filter_map f (take i (map (λ y. y.now) items)))))

  pub gathered_next : (found next : List Z) (z : Z) → f x.now ≡ Some (at z) → next ≡ found ++ z ∷ [] → map at found ≡ before ++ filter_map f (take i (map (λ y. y.now) items))
      → map at next ≡ before ++ filter_map f (take (i + 1) (map (λ y. y.now) items))
  gathered_next found next z some now so_far =
      let chosen = filter_map f (take i (map (λ (y : Bor X). y.now) items)) in
      ap (map at) now ∙ map-append at found (z ∷ []) ∙ ap (λ (ys : List Y). ys ++ at z ∷ []) so_far ∙ append_assoc before chosen (at z ∷ [])
      ∙ ap (λ (ys : List Y). before ++ ys) (sym (more_chosen ∙ ap (λ (o : Option Y). chosen ++ cons_option o []) some))

-- one more graph
pub joined_more : {X G Y : Type 0} (f : G → List Y) (at : X → G) (xs : List X) (i : ℕ) (x : X) (found next : List Y) → i < length xs → x ≡ get_or xs i x → next ≡ found ++ f (at x) → found ≡ flat_map f (map at (take i xs)) → next ≡ flat_map f (map at (take (i + 1) xs))
joined_more {X} {G} {Y} f at xs i x found next less is now so_far =
    let g = λ (y : X). f (at y) in
    now ∙ ap (λ (ys : List Y). ys ++ f (at x)) (so_far ∙ flat_map-map f at (take i xs)) ∙ flat_map_more g [] (take i xs) x ∙ ap (flat_map g) (taken_more xs i x less is) ∙ sym (flat_map-map f at (take (i + 1) xs))

-- all of them
pub joined_all : {X G Y : Type 0} (f : G → List Y) (at : X → G) (xs : List X) (i : ℕ) (found : List Y) → length xs ≤ i → found ≡ flat_map f (map at (take i xs)) → found ≡ flat_map f (map at xs)
joined_all {X} f at xs i found past so_far = so_far ∙ ap (λ (ys : List X). flat_map f (map at ys)) (take_all i xs past)

-- ---- the misfits of a text

module _ (calls : Calls) (leaves : Leafing) (library : Library) (processes : List ProcessTree) (p : ℕ) where
  to_call : (a : ActivityTree) (o : Option Callee) → IsMisfit leaves library processes a o p → AnyAt (IsMisfitOf leaves library processes) (cons_option (option_map (λ callee. (a, callee)) o) []) p
  to_call a None h = h
  to_call a (Some callee) h = inl h

  from_call : (a : ActivityTree) (o : Option Callee) → AnyAt (IsMisfitOf leaves library processes) (cons_option (option_map (λ callee. (a, callee)) o) []) p → IsMisfit leaves library processes a o p
  from_call a None h = h
  from_call a (Some callee) h = ⊎_elim (λ here. here) (λ none. absurd none) h

  to_calls : (graphs : List GraphAt) → AnyAt (HasMisfitBy calls leaves library processes) graphs p → AnyAt (IsMisfitOf leaves library processes) (calls_among calls graphs) p
  to_calls =
      to_joined (IsMisfitOf leaves library processes) p (HasMisfitBy calls leaves library processes) (calls_in calls)
      (λ g. to_chosen (IsMisfitOf leaves library processes) p (λ a. IsMisfit leaves library processes a (called calls g.process a.work)) (call_of calls g.process) (λ a. to_call a (called calls g.process a.work)) (activities_in g.elements))

  from_calls : (graphs : List GraphAt) → AnyAt (IsMisfitOf leaves library processes) (calls_among calls graphs) p → AnyAt (HasMisfitBy calls leaves library processes) graphs p
  from_calls =
      from_joined (IsMisfitOf leaves library processes) p (HasMisfitBy calls leaves library processes) (calls_in calls)
      (λ g. from_chosen (IsMisfitOf leaves library processes) p (λ a. IsMisfit leaves library processes a (called calls g.process a.work)) (call_of calls g.process) (λ a. from_call a (called calls g.process a.work)) (activities_in g.elements))

-- the least one of the calls in order is the least one of the graphs
pub least_of_graphs : (calls : Calls) (leaves : Leafing) (library : Library) (processes : List ProcessTree) (scopes : List Scope) (found : List Call) → AreCallsInOrder calls (graphs_in scopes) found
    → (least : Option ℕ) → IsLeastOf (AnyAt (λ c. IsMisfitOf leaves library processes (call_at c)) found) least → IsLeastOf (AnyAt (λ s. HasMisfitBy calls leaves library processes (graph_at s)) scopes) least
least_of_graphs calls leaves library processes scopes found order least =
    let R = IsMisfitOf leaves library processes in
    let S = HasMisfitBy calls leaves library processes in
    let all = calls_among calls (graphs_in scopes) in
    least_same (AnyAt (λ c. R (call_at c)) found) (AnyAt (λ s. S (graph_at s)) scopes) least
    (λ p h. any_unmap S graph_at scopes p (from_calls calls leaves library processes p (graphs_in scopes) (any_moved R (map call_at found) all p (IsPermutation-sym all (map call_at found) order.moved) (any_map R call_at found p h))))
    (λ p h. any_unmap R call_at found p (any_moved R all (map call_at found) p order.moved (to_calls calls leaves library processes p (graphs_in scopes) (any_map S graph_at scopes p h))))
