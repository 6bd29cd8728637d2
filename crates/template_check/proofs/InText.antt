-- Places in the graphs that are listed are places in those of the text.
use Rattle.std.proofs.Common.{◌≡◌, ℕ, zero, suc, ◌<◌, List, [], ◌∷◌, length, get_or, Option, sym, subst, refl, inl, inr, ⊎_elim, ◌⊎◌, arith}
use Rattle.std.specs.List.{Contains}
use Rattle.flow_model.specs.declared.trees.ItemTree.{ItemTree}
use Rattle.text_graphs.specs.Graphs.{GraphAt, graph_at, graphs_in, AreGraphsOf, InGraphs}
use Rattle.text_graphs.specs.Places.{IsLeastOf, AnyAt}
use Rattle.text_graphs.specs.declared.scopes.Scope.{Scope}
use Rattle.text_graphs.proofs.Finding.{least_same, any_map, any_unmap}

pub contained : {X : Type 0} (R : X → ℕ → Type 0) (xs : List X) (x : X) (p : ℕ) → Contains xs x → R x p → AnyAt R xs p
contained R [] x p has r = absurd (omega (arith, has.1))
contained {X} R (y ∷ xs) x p has r = go has.0 has.1 has.2 (λ h. contained R xs x p h r)
  where
    go : (k : ℕ) → k < suc (length xs) → get_or (y ∷ xs) k x ≡ x → (Contains xs x → AnyAt R xs p) → AnyAt R (y ∷ xs) p
    go zero less is rest = inl (subst (λ (z : X). R z p) (sym is) r)
    go (suc k) less is rest = inr (rest (k, omega arith, is))

pub container : {X : Type 0} (R : X → ℕ → Type 0) (xs : List X) (p : ℕ) → AnyAt R xs p → (x : X) × Contains xs x × R x p
container R [] p h = absurd h
container {X} R (x ∷ xs) p h =
    ⊎_elim
    (λ here. (x, (0, omega arith, refl), here))
    (λ there. let r = container R xs p there in (r.0, (suc r.1.0, let l = r.1.1 in omega arith, r.1.2), r.2))
    h

module _ (items : List ItemTree) (scopes : List Scope) (graphs : AreGraphsOf items (graphs_in scopes)) where
  pub to_text : (R : GraphAt → ℕ → Type 0) (p : ℕ) → AnyAt (λ s. R (graph_at s)) scopes p → InGraphs items R p
  to_text R p h = let r = container R (graphs_in scopes) p (any_map R graph_at scopes p h) in (r.0, graphs.only r.0 r.1, r.2)

  pub from_text : (R : GraphAt → ℕ → Type 0) (p : ℕ) → InGraphs items R p → AnyAt (λ s. R (graph_at s)) scopes p
  from_text R p h = any_unmap R graph_at scopes p (contained R (graphs_in scopes) h.0 p (graphs.whole h.0 h.1) h.2)

  pub in_text : (R : GraphAt → ℕ → Type 0) (found : Option ℕ) → IsLeastOf (AnyAt (λ s. R (graph_at s)) scopes) found → IsLeastOf (InGraphs items R) found
  in_text R found h = least_same (AnyAt (λ s. R (graph_at s)) scopes) (InGraphs items R) found (to_text R) (from_text R) h

  -- outside the graphs, or in them
  pub in_both : (outside : ℕ → Type 0) (R : GraphAt → ℕ → Type 0) (found : Option ℕ) → IsLeastOf (λ p. outside p ⊎ AnyAt (λ s. R (graph_at s)) scopes p) found → IsLeastOf (λ p. outside p ⊎ InGraphs items R p) found
  in_both outside R found h =
      least_same (λ p. outside p ⊎ AnyAt (λ s. R (graph_at s)) scopes p) (λ p. outside p ⊎ InGraphs items R p) found
      (λ p. ⊎_elim (λ a. inl a) (λ b. inr (to_text R p b))) (λ p. ⊎_elim (λ a. inl a) (λ b. inr (from_text R p b))) h
