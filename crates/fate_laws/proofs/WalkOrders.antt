-- The first of a walk of connectors stands before its last in every order of the connectors.
use Rattle.std.proofs.Common.{◌≡◌, ℕ, zero, suc, ◌<◌, List, length, sym, ◌∙◌, arith}
use Rattle.std.proofs.lemmas.List.Elements.{All-contains}
use Rattle.std.specs.Prelude.{slice_index}
use Rattle.flow_model.specs.declared.graphs.Graph.{Graph, out-Graph}
use Rattle.fate_laws.specs.Orders.{IsOrder, IsFlow}
use Rattle.fate_laws.specs.Walks.{Walk, IsWired}

module _ (g : Graph) (order : List ℕ) (ordered : IsOrder g order) where
  abbrev Before : ℕ → ℕ → Type 0
  Before i b = (j : ℕ) × (j < i) × (slice_index order j ≡ b)

  walk_before : (n i b : ℕ) → i < length order → Walk (out-Graph g).controls (suc n) b (slice_index order i) → Before i b
  walk_before zero i b less walk =
      let c = walk.0 in
      let source = All-contains (λ d. d.to ≡ slice_index order i → Before i d.from) (out-Graph g).controls c (ordered.forward i less) walk.1 walk.2 in
      (source.0, source.1, source.2 ∙ sym walk.3)
  walk_before (suc n) i b less walk =
      let c = walk.0 in
      let source = All-contains (λ d. d.to ≡ slice_index order i → Before i d.from) (out-Graph g).controls c (ordered.forward i less) walk.1 walk.2 in
      let near = source.1 in
      let rest : Walk (out-Graph g).controls (suc n) b (slice_index order source.0) = rw source.2 walk.3 in
      let first = walk_before n source.0 b (omega arith) rest in
      let nearer = first.1 in
      (first.0, omega arith, first.2)

  pub order_is_flow : IsWired g → IsFlow g order
  order_is_flow wired = record {
    ordered = ordered;
    fed = λ i less n d inside to b from. let walk = wired.each n d inside b (slice_index order i) from to in walk_before walk.0 i b less walk.1;
  }
