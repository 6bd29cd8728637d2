-- Nodes whose edges close no walk have a level order: no walk has more nodes than there are, so each node has a longest
-- one that leads to it.
use Rattle.std.proofs.Common.{◌≡◌, ℕ, zero, suc, ◌+◌, ◌<◌, ◌≤◌, max, List, [], ◌∷◌, ◌++◌, ◌⊎◌, inl, inr, length, get_or}
use Rattle.std.proofs.Common.{take, replicate, refl, sym, ap, subst, ◌∙◌, arith, true, false, cond}
use Rattle.std.specs.Prelude.{◌==◌, if◌then◌else◌}
use Rattle.std.specs.List.{concat}
use Rattle.std.proofs.Math.ListN.{set}
use Rattle.std.proofs.lemmas.Bool.Decides.{eqb_tells, leb_tells}
use Rattle.std.proofs.lemmas.List.{take_all}
use Rattle.std.proofs.lemmas.List.Elements.{All-contains}
use Rattle.graph_check.specs.Among.{Among, Differ}
use Rattle.graph_check.specs.Components.{Leads}
use Rattle.graph_check.specs.Walks.{HasEdge, IsWalk, Reaches, AreNodes}
use Rattle.graph_levels.proofs.Filed.{filed_none, filed_next, pair_from, pair_to, leveled_below}
use Rattle.graph_levels.proofs.LevelOrders.{level_ordered}
use Rattle.graph_levels.specs.Filing.{firsts, AreFiled, AreLevels, leveled_from}
use Rattle.graph_levels.specs.Levels.{EndsWalk, IsLevel, IsLevelOrder}
use Rattle.text_graphs.specs.ClosedWalks.{IsAcyclic}
use Rattle.meaning_laws.proofs.Listed.{listed, length_listed, listed_at}

-- ---- different numbers

-- the list without a number
abbrev without : ℕ → List ℕ → List ℕ
without n [] = []
without n (x ∷ xs) = if x == n then without n xs else (x ∷ without n xs)

-- an element of it is another one of the list
others : (n : ℕ) (xs : List ℕ) (a : ℕ) → Among a (without n xs) → Among a xs × (a ≡ n → ⊥)
others n [] a m = absurd m
others n (x ∷ xs) a m = tell (eqb_tells x n) m (others n xs a)
  where
    tell : ((x == n ≡ true) × (x ≡ n)) ⊎ ((x == n ≡ false) × (x ≡ n → ⊥)) → Among a (without n (x ∷ xs))
        → (Among a (without n xs) → Among a xs × (a ≡ n → ⊥)) → Among a (x ∷ xs) × (a ≡ n → ⊥)
    tell (inl e) m rest =
        let r = rest (subst (λ v. Among a (cond v (without n xs) (x ∷ without n xs))) e.0 m) in
        (inr r.0, r.1)
    tell (inr d) m rest = elim (subst (λ v. Among a (cond v (without n xs) (x ∷ without n xs))) d.0 m) [
      | inl q ↦ (inl q, λ is. d.1 (q ∙ is))
      | inr k ↦ let r = rest k in (inr r.0, r.1)
    ]

-- its elements differ where those of the list do
differ_without : (n : ℕ) (xs : List ℕ) → Differ xs → Differ (without n xs)
differ_without n [] d = tt
differ_without n (x ∷ xs) d = tell (eqb_tells x n) (differ_without n xs d.1)
  where
    tell : ((x == n ≡ true) × (x ≡ n)) ⊎ ((x == n ≡ false) × (x ≡ n → ⊥)) → Differ (without n xs)
        → Differ (without n (x ∷ xs))
    tell (inl e) rest = rw e.0 rest
    tell (inr e) rest = rw e.0 (λ m. d.0 (others n xs x m).0, rest)

-- where the number isn't there, none goes
none_goes : (n : ℕ) (xs : List ℕ) → (Among n xs → ⊥) → length xs ≤ length (without n xs)
none_goes n [] none = omega arith
none_goes n (x ∷ xs) none = tell (eqb_tells x n) (none_goes n xs (λ m. none (inr m)))
  where
    tell : ((x == n ≡ true) × (x ≡ n)) ⊎ ((x == n ≡ false) × (x ≡ n → ⊥)) → length xs ≤ length (without n xs)
        → length (x ∷ xs) ≤ length (without n (x ∷ xs))
    tell (inl e) rest = absurd (none (inl e.1))
    tell (inr d) rest = rw d.0 (omega (arith, rest))

-- of different numbers one goes at most
one_goes : (n : ℕ) (xs : List ℕ) → Differ xs → length xs ≤ length (without n xs) + 1
one_goes n [] d = omega arith
one_goes n (x ∷ xs) d = tell (eqb_tells x n) (one_goes n xs d.1)
  where
    tell : ((x == n ≡ true) × (x ≡ n)) ⊎ ((x == n ≡ false) × (x ≡ n → ⊥)) → length xs ≤ length (without n xs) + 1
        → length (x ∷ xs) ≤ length (without n (x ∷ xs)) + 1
    tell (inl e) rest =
        let all = none_goes n xs (subst (λ (v : ℕ). Among v xs → ⊥) e.1 d.0) in
        rw e.0 (omega (arith, all))
    tell (inr d) rest = rw d.0 (omega (arith, rest))

-- a list of different numbers below n has at most n
few : (n : ℕ) (xs : List ℕ) → Differ xs → ((a : ℕ) → Among a xs → a < n) → length xs ≤ n
few zero [] d low = omega arith
few zero (x ∷ xs) d low = let less = low x (inl refl) in absurd (omega (arith, less))
few (suc n) xs d low =
    let rest = few n (without n xs) (differ_without n xs d) (λ a m. below a (others n xs a m)) in
    omega (arith, rest, one_goes n xs d)
  where
    below : (a : ℕ) → Among a xs × (a ≡ n → ⊥) → a < n
    below a m = elim (eqb_tells a n) [ inl e ↦ absurd (m.1 e.1) | inr d ↦ omega (arith, low a m.0, d.1) ]

-- a number is not above another one, or it is
not_above : (m n : ℕ) → (m ≤ n) ⊎ (n < m)
not_above m n = elim (leb_tells m n) [ inl e ↦ inl e.1 | inr d ↦ inr d.1 ]

-- ---- walks

module _ (nodes : ℕ) (edges : List (ℕ × ℕ)) (all : AreNodes nodes edges) (acyclic : IsAcyclic edges) where
  -- the nodes of a walk, its end first
  nodes_on : (n a : ℕ) → EndsWalk edges n a → List ℕ
  nodes_on zero a w = a ∷ []
  nodes_on (suc n) a w = a ∷ nodes_on n w.0 w.2

  -- a walk of n edges has one node more
  length_on : (n a : ℕ) (w : EndsWalk edges n a) → length (nodes_on n a w) ≡ suc n
  unfolding nodes_on
  length_on zero a w = refl
  length_on (suc n) a w = ap suc (length_on n w.0 w.2)

  -- a walk with one edge more
  extended : (through : List ℕ) (a b c : ℕ) → IsWalk edges a through b → HasEdge edges b c
      → IsWalk edges a (through ++ b ∷ []) c
  extended [] a b c w e = (w, e)
  extended (d ∷ through) a b c w e = (w.0, extended through d b c w.1 e)

  -- an edge behind a walk, or behind none
  leads_along : (a b c : ℕ) → Leads edges a b → HasEdge edges b c → Reaches edges a c
  leads_along a b c (inl q) e = ([], subst (λ (v : ℕ). HasEdge edges v c) (sym q) e)
  leads_along a b c (inr r) e = (r.0 ++ b ∷ [], extended r.0 a b c r.1 e)

  -- each node of a walk leads to its end
  leads_to_end : (n a c : ℕ) (w : EndsWalk edges n a) → Among c (nodes_on n a w) → Leads edges c a
  unfolding nodes_on
  leads_to_end zero a c w (inl q) = inl (sym q)
  leads_to_end zero a c w (inr m) = absurd m
  leads_to_end (suc n) a c w (inl q) = inl (sym q)
  leads_to_end (suc n) a c w (inr m) = inr (leads_along c w.0 a (leads_to_end n w.0 c w.2 m) w.1)

  -- so its nodes differ
  differ_on : (n a : ℕ) (w : EndsWalk edges n a) → Differ (nodes_on n a w)
  unfolding nodes_on
  differ_on zero a w = (λ m. absurd m, tt)
  differ_on (suc n) a w = (
    λ m. acyclic a (leads_along a w.0 a (leads_to_end n w.0 a w.2 m) w.1),
    differ_on n w.0 w.2,
  )

  -- the source of an edge is a node
  source_below : (a b : ℕ) → HasEdge edges a b → a < nodes
  source_below a b e = (All-contains (λ (p : ℕ × ℕ). (p.0 < nodes) × (p.1 < nodes)) edges (a, b) all e).0

  -- the nodes of a walk are nodes
  low_on : (n a c : ℕ) (w : EndsWalk edges n a) → a < nodes → Among c (nodes_on n a w) → c < nodes
  unfolding nodes_on
  low_on zero a c w less (inl q) = omega (arith, q, less)
  low_on zero a c w less (inr m) = absurd m
  low_on (suc n) a c w less (inl q) = omega (arith, q, less)
  low_on (suc n) a c w less (inr m) = low_on n w.0 c w.2 (source_below w.0 a w.1) m

  -- a walk has fewer edges than there are nodes
  short : (n a : ℕ) → a < nodes → EndsWalk edges n a → n < nodes
  short n a less w =
      let most = few nodes (nodes_on n a w) (differ_on n a w) (λ c m. low_on n a c w less m) in
      omega (arith, most, length_on n a w)

  -- ---- levels

  -- the least number above these of some nodes
  unfoldable pub above : (ℕ → ℕ) → List ℕ → ℕ
  above f [] = 0
  above f (x ∷ xs) = max (f x + 1) (above f xs)

  -- it is above each
  above_each : (f : ℕ → ℕ) (xs : List ℕ) (a : ℕ) → Among a xs → f a < above f xs
  unfolding above
  above_each f [] a m = absurd m
  above_each f (x ∷ xs) a (inl q) = let e : f x ≡ f a = ap f q in omega (arith, e)
  above_each f (x ∷ xs) a (inr m) = let less = above_each f xs a m in omega (arith, less)

  -- and just above one, or it is 0
  above_one : (f : ℕ → ℕ) (xs : List ℕ) → (above f xs ≡ 0) ⊎ ((a : ℕ) × Among a xs × (above f xs ≡ suc (f a)))
  unfolding above
  above_one f [] = inl refl
  above_one f (x ∷ xs) = inr (tell (not_above (above f xs) (f x + 1)) (above_one f xs))
    where
      tell : (above f xs ≤ f x + 1) ⊎ (f x + 1 < above f xs)
          → (above f xs ≡ 0) ⊎ ((a : ℕ) × Among a xs × (above f xs ≡ suc (f a)))
          → (a : ℕ) × Among a (x ∷ xs) × (above f (x ∷ xs) ≡ suc (f a))
      tell (inl low) rest = (x, inl refl, omega (arith, low))
      tell (inr high) (inl none) = absurd (omega (arith, high, none))
      tell (inr high) (inr r) = (r.0, inr r.1, omega (arith, high, r.2))

  -- the longest of the walks of at most k edges that lead to a node
  unfoldable pub level_to : ℕ → ℕ → ℕ
  level_to zero a = 0
  level_to (suc k) a = above (level_to k) (firsts edges a)

  -- some walk is as long
  reached : (k a : ℕ) → EndsWalk edges (level_to k a) a
  unfolding level_to
  reached zero a = tt
  reached (suc k) a = tell (above_one (level_to k) (firsts edges a)) (reached k)
    where
      tell : (above (level_to k) (firsts edges a) ≡ 0)
          ⊎ ((p : ℕ) × Among p (firsts edges a) × (above (level_to k) (firsts edges a) ≡ suc (level_to k p)))
          → ((p : ℕ) → EndsWalk edges (level_to k p) p) → EndsWalk edges (above (level_to k) (firsts edges a)) a
      tell (inl e) rest = subst (λ (v : ℕ). EndsWalk edges v a) (sym e) tt
      tell (inr r) rest =
          subst (λ (v : ℕ). EndsWalk edges v a) (sym r.2) (r.0, pair_from edges r.0 a r.1, rest r.0)

  -- none of at most k edges is longer
  longest : (k a m : ℕ) → m ≤ k → EndsWalk edges m a → m ≤ level_to k a
  unfolding level_to
  longest k a zero less w = omega arith
  longest zero a (suc m) less w = absurd (omega (arith, less))
  longest (suc k) a (suc m) less w =
      let rest = longest k w.0 m (omega (arith, less)) w.2 in
      let more = above_each (level_to k) (firsts edges a) w.0 (pair_to edges w.0 a w.1) in
      omega (arith, rest, more)

  -- so it is the level
  leveled : (a : ℕ) → a < nodes → IsLevel edges a (level_to nodes a)
  leveled a less = (reached nodes a, λ m w. longest nodes a m (let s = short m a less w in omega (arith, s)) w)

  -- the levels of all nodes
  unfoldable pub levels : List ℕ
  levels = listed (level_to nodes) 0 nodes

  pub are_levels : AreLevels nodes edges levels
  unfolding levels
  are_levels = record {
    long = length_listed (level_to nodes) 0 nodes;
    each = λ a less.
        subst (λ (n : ℕ). IsLevel edges a n)
        (sym (listed_at (level_to nodes) 0 nodes a 0 less ∙ ap (level_to nodes) (let e : 0 + a ≡ a = omega arith in e)))
        (leveled a less);
  }

  pub levels_below : (a : ℕ) → a < length levels → get_or levels a 0 < nodes
  levels_below a less =
      let inside : a < nodes = omega (arith, less, are_levels.long) in
      short (get_or levels a 0) a inside (are_levels.each a inside).0

  -- ---- the rows of the levels

  -- the rows of the first pairs
  unfoldable pub filed_to : (count : ℕ) (pairs : List (ℕ × ℕ))
      → ((k : ℕ) → k < length pairs → (get_or pairs k (0, 0)).1 < count) → (i : ℕ) → i ≤ length pairs
      → (rows : List (List ℕ)) × AreFiled count (take i pairs) rows
  filed_to count pairs low zero less = (replicate count [], filed_none count (replicate count []) refl)
  filed_to count pairs low (suc i) less =
      let before = filed_to count pairs low i (omega (arith, less)) in
      let p : ℕ × ℕ = get_or pairs i (0, 0) in
      let next = set before.0 p.1 (get_or before.0 p.1 [] ++ p.0 ∷ []) in
      let inside : p.1 < length before.0 =
      (let l = low i (omega (arith, less)) in omega (arith, l, before.1.long)) in
      let more = filed_next count pairs i p (0, 0) before.0 next (omega (arith, less)) refl inside refl before.1 in
      let one : i + 1 ≡ suc i = omega arith in
      (next, subst (λ (n : ℕ). AreFiled count (take n pairs) next) one more)

  -- the rows of all nodes by their levels
  unfoldable pub rows : (rs : List (List ℕ)) × AreFiled nodes (leveled_from 0 levels) rs
  rows =
      let pairs = leveled_from 0 levels in
      let low : (k : ℕ) → k < length pairs → (get_or pairs k (0, 0)).1 < nodes =
      λ k less. leveled_below nodes 0 levels levels_below k (0, 0) less in
      let found = filed_to nodes pairs low (length pairs) (omega arith) in
      let whole = take_all (length pairs) pairs (omega arith) in
      (found.0, subst (λ (ps : List (ℕ × ℕ)). AreFiled nodes ps found.0) whole found.1)

  -- the level order
  unfoldable pub level_order_there : (order : List ℕ) × IsLevelOrder nodes edges order
  level_order_there = (concat rows.0, level_ordered nodes edges levels rows.0 all are_levels rows.1)
