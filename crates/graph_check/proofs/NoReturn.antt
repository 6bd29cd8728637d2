-- A graph with an order has no closed walk.
use Rattle.std.proofs.Common.{◌≡◌, ℕ, zero, suc, ◌<◌, List, [], ◌∷◌, ap, ◌∙◌, arith}
use Rattle.std.specs.Prelude.{Some, slice_get}
use Rattle.std.proofs.lemmas.Option.{slice_get-get_or}
use Rattle.graph_check.specs.Walks.{IsWalk, Reaches, IsOrder}

module _ (nodes : ℕ) (edges : List (ℕ × ℕ)) (order : List ℕ) (h : IsOrder nodes edges order) where
  -- the start of a walk stands before its end
  pub earlier : (through : List ℕ) (a b i : ℕ) → IsWalk edges a through b → slice_get order i ≡ Some b → (j : ℕ) × (j < i) × (slice_get order j ≡ Some a)
  earlier [] a b i w g = h.forward a b i w g
  earlier (c ∷ through) a b i w g =
      let m = earlier through c b i w.1 g in let f = h.forward a c m.0 w.0 m.2 in (f.0, omega (arith, f.1, m.1), f.2)

  never : (through : List ℕ) (a : ℕ) → IsWalk edges a through a → (n i : ℕ) → i < n → slice_get order i ≡ Some a → ⊥
  never through a w zero i lt g = omega (arith, lt)
  never through a w (suc n) i lt g = let f = earlier through a a i w g in never through a w n f.0 (omega (arith, lt, f.1)) f.2

  -- no node reaches itself
  pub no_return : (a : ℕ) → a < nodes → Reaches edges a a → ⊥
  no_return a lt w = let c = h.covers a lt in never w.0 a w.1 (suc c.0) c.0 (omega arith) (slice_get-get_or order c.0 a c.1 ∙ ap (λ (v : ℕ). Some v) c.2)
