-- An edge whose ends have one number lies on a closed walk, and no other.
use Rattle.std.proofs.Common.{◌≡◌, ℕ, ◌<◌, List, [], inl, inr, length, get_or, map, sym, ap, subst, ◌∙◌, true, false, Bool}
use Rattle.std.specs.Prelude.{◌↔◌, slice_index, ◌==◌}
use Rattle.std.proofs.lemmas.Bool.{eqb-true, eq-eqb}
use Rattle.std.proofs.lemmas.List.{get_or-map, length-map}
use Rattle.std.proofs.lemmas.List.Elements.{All-contains}
use Rattle.std.proofs.lemmas.Option.{slice_get_within, get_or_from_slice_get}
use Rattle.graph_check.specs.Walks.{HasEdge, Reaches, AreNodes}
use Rattle.graph_check.specs.Components.{Leads, AreComponents, AreCyclic, same_number}

module _ (nodes : ℕ) (edges : List (ℕ × ℕ)) (all : AreNodes nodes edges) (numbers : List ℕ) (h : AreComponents nodes edges numbers) where
  back : (a b : ℕ) → HasEdge edges a b → Leads edges b a → Reaches edges b a
  back a b e (inl q) = ([], subst (λ (v : ℕ). HasEdge edges v a) (sym q) (subst (λ (v : ℕ). HasEdge edges a v) q e))
  back a b e (inr r) = r

  told : (a b : ℕ) → HasEdge edges a b → (slice_index numbers a == slice_index numbers b ≡ true) ↔ Reaches edges b a
  told a b e =
      let i = All-contains (λ (p : ℕ × ℕ). (p.0 < nodes) × (p.1 < nodes)) edges (a, b) all e in (
        λ q. back a b e (h.together b a i.1 i.0 (sym (eqb-true (slice_index numbers a) (slice_index numbers b) q))),
        λ r. eq-eqb (slice_index numbers a) (slice_index numbers b) (h.apart a b i.0 i.1 ([], e) r),
      )

  pub are_cyclic : (cyclic : List Bool) → cyclic ≡ map (same_number numbers) edges → AreCyclic edges cyclic
  are_cyclic cyclic is = record {
    long = ap length is ∙ length-map edges (same_number numbers);
    right = λ a b i g.
        let lt = slice_get_within edges i (a, b) g in let here = get_or_from_slice_get edges i (a, b) (a, b) g in
        let value : get_or cyclic i false ≡ same_number numbers (a, b) = ap (λ (l : List Bool). get_or l i false) is ∙ get_or-map (same_number numbers) edges i (a, b) false lt ∙ ap (same_number numbers) here in
        rw value (told a b (i, lt, here));
  }
