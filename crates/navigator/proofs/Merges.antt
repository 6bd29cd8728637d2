-- Lists that are made of an old list and of what was added to it, each in its order.
use Rattle.std.proofs.Common.{◌≡◌, ◌≢◌, ℕ, zero, suc, ◌+◌, ◌≤◌, ◌<◌, Bool, true, false, List, [], ◌∷◌, ◌++◌, map, Some, None, ◌⊎◌, refl, ap, sym, ◌∙◌, subst, arith, inl, inr}
use Rattle.std.specs.Prelude.{not, slice_get}
use Rattle.std.specs.List.{filter, flat_map}
use Rattle.std.proofs.Math.Arith.{lt_of_le-ne}
use Rattle.std.proofs.lemmas.Bool.Decides.{eqb_tells}
use Rattle.flow_model.specs.ScopeContainers.{up_to}
use Rattle.view_laws.proofs.Counting.{has_times, times_has}
use Rattle.view_laws.specs.Queues.{Engine, has, times}

-- the third list is made of the first and of what was added
abbrev pub Merges : {X : Type 0} → List X → List X → List X → Type 0
Merges olds adds [] = (olds ≡ []) × (adds ≡ [])
Merges {X} olds adds (n ∷ ns) = ((rest : List X) × (olds ≡ n ∷ rest) × Merges rest adds ns) ⊎ ((rest : List X) × (adds ≡ n ∷ rest) × Merges olds rest ns)

-- nothing was added
pub merges_same : {X : Type 0} (xs : List X) → Merges xs [] xs
merges_same [] = (refl, refl)
merges_same (x ∷ xs) = inl (xs, refl, merges_same xs)

-- all was added
pub merges_all : {X : Type 0} (xs : List X) → Merges [] xs xs
merges_all [] = (refl, refl)
merges_all (x ∷ xs) = inr (xs, refl, merges_all xs)

-- one list behind the other
pub merges_append : {X : Type 0} (olds adds ns olds' adds' ns' : List X) → Merges olds adds ns → Merges olds' adds' ns' → Merges (olds ++ olds') (adds ++ adds') (ns ++ ns')
merges_append olds adds [] olds' adds' ns' m m' = rw (m.0, m.1) m'
merges_append olds adds (n ∷ ns) olds' adds' ns' (inl m) m' = inl (m.0 ++ olds', ap (λ l. l ++ olds') m.1, merges_append m.0 adds ns olds' adds' ns' m.2 m')
merges_append olds adds (n ∷ ns) olds' adds' ns' (inr m) m' = inr (m.0 ++ adds', ap (λ l. l ++ adds') m.1, merges_append olds m.0 ns olds' adds' ns' m.2 m')

-- of each element something else
pub merges_map : {X Y : Type 0} (f : X → Y) (olds adds ns : List X) → Merges olds adds ns → Merges (map f olds) (map f adds) (map f ns)
merges_map f olds adds [] m = (ap (map f) m.0, ap (map f) m.1)
merges_map f olds adds (n ∷ ns) (inl m) = inl (map f m.0, ap (map f) m.1, merges_map f m.0 adds ns m.2)
merges_map f olds adds (n ∷ ns) (inr m) = inr (map f m.0, ap (map f) m.1, merges_map f olds m.0 ns m.2)

-- at each place
pub merges_flat : {X : Type 0} (F adds F' : ℕ → List X) (n j : ℕ) → ((a : ℕ) → j ≤ a → a < n + j → Merges (F a) (adds a) (F' a))
    → Merges (flat_map F (up_to n j)) (flat_map adds (up_to n j)) (flat_map F' (up_to n j))
merges_flat F adds F' zero j each = (refl, refl)
merges_flat F adds F' (suc n) j each =
    merges_append (F j) (adds j) (F' j) (flat_map F (up_to n (j + 1))) (flat_map adds (up_to n (j + 1))) (flat_map F' (up_to n (j + 1)))
    (each j (omega arith) (omega arith))
    (merges_flat F adds F' n (j + 1) (λ a low high. each a (omega arith) (omega arith)))

-- the same of each element
pub flat_same : {X S : Type 0} (F F' : S → List X) (ss : List S) → ((c : ℕ) (s : S) → slice_get ss c ≡ Some s → F' s ≡ F s) → flat_map F' ss ≡ flat_map F ss
flat_same F F' [] same = refl
flat_same F F' (s ∷ ss) same = let here = same 0 s refl in let rest = flat_same F F' ss (λ c t at. same (suc c) t at) in ap (λ l. l ++ flat_map F' ss) here ∙ ap (λ l. F s ++ l) rest

append_none : {X : Type 0} (xs : List X) → xs ++ [] ≡ xs
append_none [] = refl
append_none (x ∷ xs) = ap (λ l. x ∷ l) (append_none xs)

-- at one place of a list
pub merges_one : {X S : Type 0} (F F' : S → List X) (adds : List X) (ss : List S) (i : ℕ) (s : S) → slice_get ss i ≡ Some s
    → ((c : ℕ) (t : S) → (c ≡ i → ⊥) → slice_get ss c ≡ Some t → F' t ≡ F t) → Merges (F s) adds (F' s) → Merges (flat_map F ss) adds (flat_map F' ss)
merges_one F F' adds [] i s at same m = absurd (never at)
  where
    never : None ≡ Some s → ⊥
    never h = cc
merges_one F F' adds (x ∷ ss) zero s at same m =
    let is : x ≡ s = cc in
    let rest : flat_map F' ss ≡ flat_map F ss = flat_same F F' ss (λ c t there. same (suc c) t (λ e. let e' : suc c ≡ zero = e in omega arith) there) in
    let both = merges_append (F x) adds (F' x) (flat_map F ss) [] (flat_map F ss) (subst (λ y. Merges (F y) adds (F' y)) (sym is) m) (merges_same (flat_map F ss)) in
    subst (λ l. Merges (F x ++ flat_map F ss) adds (F' x ++ l)) (sym rest) (subst (λ l. Merges (F x ++ flat_map F ss) l (F' x ++ flat_map F ss)) (append_none adds) both)
merges_one F F' adds (x ∷ ss) (suc i) s at same m =
    let here : F' x ≡ F x = same zero x (λ e. let e' : zero ≡ suc i = e in omega arith) refl in
    let rest = merges_one F F' adds ss i s at (λ c t apart there. same (suc c) t (λ e. apart (let e' : suc c ≡ suc i = e in omega arith)) there) m in
    subst (λ l. Merges (F x ++ flat_map F ss) adds (l ++ flat_map F' ss)) (sym here)
    (merges_append (F x) [] (F x) (flat_map F ss) adds (flat_map F' ss) (merges_same (F x)) rest)

-- ---- places of which one has something

-- nothing at any place
pub flat_nothing : {X : Type 0} (F : ℕ → List X) (n j : ℕ) → ((a : ℕ) → j ≤ a → a < n + j → F a ≡ []) → flat_map F (up_to n j) ≡ []
flat_nothing F zero j none = refl
flat_nothing F (suc n) j none =
    let here = none j (omega arith) (omega arith) in
    ap (λ l. l ++ flat_map F (up_to n (j + 1))) here ∙ flat_nothing F n (j + 1) (λ a low high. none a (omega arith) (omega arith))

-- something at one place alone
pub flat_only : {X : Type 0} (F : ℕ → List X) (b n j : ℕ) → ((a : ℕ) → (a ≡ b → ⊥) → F a ≡ []) → j ≤ b → b < n + j → flat_map F (up_to n j) ≡ F b
flat_only F b zero j none low high = absurd (omega arith)
flat_only F b (suc n) j none low high = elim (eqb_tells j b) [
  | inl is ↦
      let e = is.1 in
      ap (λ l. F j ++ l) (flat_nothing F n (j + 1) (λ a lower higher. none a (λ same. let s : a ≡ b = same in omega arith)))
      ∙ append_none (F j) ∙ ap F e
  | inr other ↦
      let o = other.1 in
      let ne : j ≢ b = o in
      let less = lt_of_le-ne low ne in
      ap (λ l. l ++ flat_map F (up_to n (j + 1))) (none j other.1) ∙ flat_only F b n (j + 1) none (omega arith) (omega arith)
]

-- ---- what wasn't there before

module _ {M E : Type 0} (x : Engine M E) (itself : (m : M) → x.same m m ≡ true) (one : (m n : M) → x.same m n ≡ true → m ≡ n) where
  merged_times : (olds adds ns : List M) (m : M) → Merges olds adds ns → times x ns m ≡ times x olds m + times x adds m
  merged_times olds adds [] m is = rw (is.0, is.1) refl
  merged_times olds adds (n ∷ ns) m (inl is) = let rest = merged_times is.0 adds ns m is.2 in rw is.1 (omega arith)
  merged_times olds adds (n ∷ ns) m (inr is) = let rest = merged_times olds is.0 ns m is.2 in rw is.1 (omega arith)

  more_times : (n m : M) (ms : List M) → 1 ≤ times x ms m → 1 ≤ times x (n ∷ ms) m
  more_times n m ms some = omega arith

  first_times : (n : M) (ms : List M) → 1 ≤ times x (n ∷ ms) n
  first_times n ms = let hit = itself n in rw hit (omega arith)

  new_of : (all olds adds ns : List M) → Merges olds adds ns → ((m : M) → 1 ≤ times x olds m → has x all m ≡ true) → ((m : M) → 1 ≤ times x adds m → has x all m ≡ false)
      → filter (λ m. not (has x all m)) ns ≡ adds
  new_of all olds adds [] is old new = sym is.1
  new_of all olds adds (n ∷ ns) (inl is) old new =
      let hit : has x all n ≡ true = old n (rw is.1 (first_times n is.0)) in
      let rest = new_of all is.0 adds ns is.2 (λ m some. old m (rw is.1 (more_times n m is.0 some))) new in
      rw hit rest
  new_of all olds adds (n ∷ ns) (inr is) old new =
      let miss : has x all n ≡ false = new n (rw is.1 (first_times n is.0)) in
      let rest = new_of all olds is.0 ns is.2 old (λ m some. new m (rw is.1 (more_times n m is.0 some))) in
      rw miss (ap (λ l. n ∷ l) rest ∙ sym is.1)

  -- where no message stands twice, what wasn't there before is what was added
  pub merges_new : (olds adds ns : List M) → Merges olds adds ns → ((m : M) → times x ns m ≤ 1) → filter (λ m. not (has x olds m)) ns ≡ adds
  merges_new olds adds ns is once = new_of olds olds adds ns is (λ m some. times_has x itself one olds m some) none
    where
      none : (m : M) → 1 ≤ times x adds m → has x olds m ≡ false
      none m some = go (has x olds m) refl
        where
          go : (b : Bool) → has x olds m ≡ b → has x olds m ≡ false
          go false is' = is'
          go true is' =
              let sum = merged_times olds adds ns m is in
              let old = has_times x itself one olds m is' in
              let most = once m in
              absurd (omega arith)
