-- Whether a walk leads from one node of a graph to another is decided.
use Rattle.std.proofs.Common.{◌≡◌, ◌≢◌, ℕ, zero, suc, ◌<◌, List, [], ◌∷◌, ◌++◌, refl, subst, inl, inr, ⊎_elim, ◌⊎◌, arith, true, false, Bool}
use Rattle.std.specs.Prelude.{◌==◌, ◌&&◌}
use Rattle.std.proofs.lemmas.Bool.{both_ways, eqb-true, eq-eqb}
use Rattle.std.specs.List.{Contains}
use Rattle.graph_check.specs.Walks.{HasEdge, IsWalk, Reaches}
use Rattle.graph_check.proofs.Leading.{joined}
use Rattle.text_graphs.proofs.Differing.{pairs_decide}

-- it holds, or it doesn't
abbrev pub Settled : Type 0 → Type 0
Settled X = X ⊎ (X → ⊥)

both_settled : (X Y : Type 0) → Settled X → Settled Y → Settled (X × Y)
both_settled X Y (inl x) (inl y) = inl (x, y)
both_settled X Y (inl x) (inr never) = inr (λ h. never h.1)
both_settled X Y (inr never) y = inr (λ h. never h.0)

either_settled : (X Y : Type 0) → Settled X → Settled Y → Settled (X ⊎ Y)
either_settled X Y (inl x) y = inl (inl x)
either_settled X Y (inr never) (inl y) = inl (inr y)
either_settled X Y (inr never) (inr none) = inr (λ h. ⊎_elim never none h)

behind : (xs : List (ℕ × ℕ)) (x y : ℕ × ℕ) → (x ≡ y → ⊥) → Contains (x ∷ xs) y → Contains xs y
behind xs x y differs (zero, less, is) = absurd (differs is)
behind xs x y differs (suc k, less, is) = (k, omega (arith, less), is)

contains_settled : (xs : List (ℕ × ℕ)) (y : ℕ × ℕ) → Settled (Contains xs y)
contains_settled [] y = inr (λ h. absurd (omega (arith, h.1)))
contains_settled (x ∷ xs) y = go ((x.0 == y.0) && (x.1 == y.1)) refl (contains_settled xs y)
  where
    go : (b : Bool) → ((x.0 == y.0) && (x.1 == y.1)) ≡ b → Settled (Contains xs y) → Settled (Contains (x ∷ xs) y)
    go true same rest = inl (0, omega arith, (pairs_decide x y).0 same)
    go false other (inl there) = inl (suc there.0, let l = there.1 in omega (arith, l), there.2)
    go false other (inr none) = inr (λ h. none (behind xs x y (λ e. let t = (pairs_decide x y).1 e in cc) h))

-- a number below the next one that isn't this one is below it
below_top : (c k : ℕ) → c < suc k → (c == k) ≡ false → c < k
below_top c k less other =
    let differs : c ≢ k = λ e. both_ways (c == k) other (eq-eqb c k e) in
    omega (arith, less, differs)

module _ (edges : List (ℕ × ℕ)) where
  -- a walk that passes through nodes below this one alone
  abbrev Through : ℕ → ℕ → ℕ → Type 0
  Through zero a b = HasEdge edges a b
  Through (suc k) a b = Through k a b ⊎ (Through k a k × Through k k b)

  through_settled : (k a b : ℕ) → Settled (Through k a b)
  through_settled zero a b = contains_settled edges (a, b)
  through_settled (suc k) a b =
      either_settled (Through k a b) (Through k a k × Through k k b) (through_settled k a b)
      (both_settled (Through k a k) (Through k k b) (through_settled k a k) (through_settled k k b))

  through_reaches : (k a b : ℕ) → Through k a b → Reaches edges a b
  through_reaches zero a b edge = ([], edge)
  through_reaches (suc k) a b (inl h) = through_reaches k a b h
  through_reaches (suc k) a b (inr h) =
      let first = through_reaches k a k h.0 in
      let second = through_reaches k k b h.1 in
      (first.0 ++ k ∷ second.0, joined edges first.0 a k b second.0 first.1 second.1)

  along_edge : (k a b : ℕ) → HasEdge edges a b → Through k a b
  along_edge zero a b edge = edge
  along_edge (suc k) a b edge = inl (along_edge k a b edge)

  to_top : (k a : ℕ) → Through (suc k) a k → Through k a k
  to_top k a (inl h) = h
  to_top k a (inr h) = h.0

  from_top : (k b : ℕ) → Through (suc k) k b → Through k k b
  from_top k b (inl h) = h
  from_top k b (inr h) = h.1

  through_on : (k a c b : ℕ) → c < k → Through k a c → Through k c b → Through k a b
  through_on zero a c b less first second = absurd (omega (arith, less))
  through_on (suc k) a c b less first second = go (c == k) refl
      (λ l x y. through_on k a c b l x y) (λ l x y. through_on k a c k l x y) (λ l x y. through_on k k c b l x y)
    where
      below : c < k → Through (suc k) a c → Through (suc k) c b → (c < k → Through k a c → Through k c b → Through k a b) → (c < k → Through k a c → Through k c k → Through k a k)
          → (c < k → Through k k c → Through k c b → Through k k b) → Through (suc k) a b
      below l (inl x) (inl y) on to from = inl (on l x y)
      below l (inl x) (inr y) on to from = inr (to l x y.0, y.1)
      below l (inr x) (inl y) on to from = inr (x.0, from l x.1 y)
      below l (inr x) (inr y) on to from = inr (x.0, y.1)

      go : (t : Bool) → (c == k) ≡ t → (c < k → Through k a c → Through k c b → Through k a b) → (c < k → Through k a c → Through k c k → Through k a k)
          → (c < k → Through k k c → Through k c b → Through k k b) → Through (suc k) a b
      go true same on to from =
          let here : c ≡ k = eqb-true c k same in
          inr (to_top k a (subst (λ (n : ℕ). Through (suc k) a n) here first), from_top k b (subst (λ (n : ℕ). Through (suc k) n b) here second))
      go false other on to from = below (below_top c k less other) first second on to from

  module _ (nodes : ℕ) (within : (a b : ℕ) → HasEdge edges a b → b < nodes) where
    walk_through : (a : ℕ) (through : List ℕ) (b : ℕ) → IsWalk edges a through b → Through nodes a b
    walk_through a [] b edge = along_edge nodes a b edge
    walk_through a (c ∷ through) b walk = through_on nodes a c b (within a c walk.0) (along_edge nodes a c walk.0) (walk_through c through b walk.1)

    pub reaches_settled : (a b : ℕ) → Settled (Reaches edges a b)
    reaches_settled a b = ⊎_elim (λ h. inl (through_reaches nodes a b h)) (λ none. inr (λ r. none (walk_through a r.0 b r.1))) (through_settled nodes a b)
