-- The edges from kinds to structures, structure by structure.
use Rattle.std.proofs.Common.{◌≡◌, ℕ, zero, suc, ◌+◌, ◌<◌, List, [], ◌∷◌, ◌++◌, length, get_or, drop, take, Option, Some, None, Bor, sym, ap, subst, ◌∙◌, append_assoc, arith}
use Rattle.std.specs.Prelude.{slice_get}
use Rattle.std.specs.List.{Contains, filter_map, cons_option}
use Rattle.std.specs.Option.{option_map}
use Rattle.std.proofs.Math.ListN.{get_or-map}
use Rattle.std.proofs.lemmas.List.{drop_more, length-map, append-nil}
use Rattle.std.proofs.lemmas.List.Elements.{Contains-append_left, Contains-append_right}
use Rattle.flow_model.specs.declared.trees.KindTree.{KindTree}
use Rattle.flow_model.specs.declared.trees.KindTree.TheVariants as kind
use Rattle.flow_model.specs.declared.trees.Member.{Member}
use Rattle.flow_model.specs.declared.trees.StructDef.{StructDef}
use Rattle.graph_check.specs.Walks.{HasEdge}
use Rattle.leaf_rules.specs.KindEdges.{kind_in, kind_edge, edges_from, kind_edges}
use Rattle.leaf_rules.specs.Structures.{behind}
use Rattle.text_graphs.proofs.Judging.{kept_in}
use Rattle.text_graphs.proofs.Naming.{first_below}
use Rattle.text_graphs.proofs.Sorting.{one_more}

-- the element of a list behind references
pub behind_more : (items : List (Bor StructDef)) (i : ℕ) (x : Bor StructDef) → i < length items → x ≡ get_or items i x → drop i (behind items) ≡ x.now ∷ drop (i + 1) (behind items)
behind_more items i x less is =
    drop_more (behind items) i x.now (rw length-map less) ∙ ap (λ (s : StructDef). s ∷ drop (i + 1) (behind items)) (get_or-map (λ (y : Bor StructDef). y.now) items i x ∙ ap (λ (y : Bor StructDef). y.now) (sym is))

-- the edges to one more structure
pub edges_next : (structures : List StructDef) (items : List (Bor StructDef)) (i : ℕ) (x : Bor StructDef) (all pairs next : List (ℕ × ℕ)) → i < length items → x ≡ get_or items i x
    → next ≡ pairs ++ filter_map (kind_edge structures i) x.now.members → pairs ++ edges_from structures i (drop i (behind items)) ≡ all → next ++ edges_from structures (i + 1) (drop (i + 1) (behind items)) ≡ all
edges_next structures items i x all pairs next less is now so_far =
    let later = edges_from structures (i + 1) (drop (i + 1) (behind items)) in
    ap (λ (es : List (ℕ × ℕ)). es ++ later) now
    ∙ append_assoc pairs (filter_map (kind_edge structures i) x.now.members) later
    ∙ ap (λ (ss : List StructDef). pairs ++ edges_from structures i ss) (sym (behind_more items i x less is))
    ∙ so_far

-- the kind of a member leads to its structure
module _ (structures : List StructDef) where
  edge_from : (base : ℕ) (later : List StructDef) (j : ℕ) (s : StructDef) (m : Member) (inner : ℕ) → slice_get later j ≡ Some s → Contains s.members m → kind_in structures m.kind ≡ Some inner
      → Contains {X = ℕ × ℕ} (edges_from structures base later) (inner, base + j)
  edge_from base [] j s m inner is has kind = cc
  edge_from base (t ∷ later) zero s m inner is has kind =
      let same : t ≡ s = cc in
      let here : kind_edge structures base m ≡ Some (inner, base) = ap (option_map (λ (k : ℕ). (k, base))) kind in
      let found = kept_in (kind_edge structures base) t.members m (inner, base) (subst (λ (v : StructDef). Contains v.members m) (sym same) has) here in
      let at : base ≡ base + 0 = omega arith in
      subst (λ (n : ℕ). Contains {X = ℕ × ℕ} (edges_from structures base (t ∷ later)) (inner, n)) at
      (Contains-append_left (filter_map (kind_edge structures base) t.members) (edges_from structures (base + 1) later) (inner, base) found)
  edge_from base (t ∷ later) (suc j) s m inner is has kind =
      let at : (base + 1) + j ≡ base + suc j = omega arith in
      subst (λ (n : ℕ). Contains {X = ℕ × ℕ} (edges_from structures base (t ∷ later)) (inner, n)) at
      (Contains-append_right (filter_map (kind_edge structures base) t.members) (edges_from structures (base + 1) later) (inner, (base + 1) + j) (edge_from (base + 1) later j s m inner is has kind))

  pub has_kind_edge : (number : ℕ) (s : StructDef) (m : Member) (inner : ℕ) → slice_get structures number ≡ Some s → Contains s.members m → kind_in structures m.kind ≡ Some inner → HasEdge (kind_edges structures) inner number
  has_kind_edge number s m inner is has kind =
      let at : 0 + number ≡ number = omega arith in
      subst (λ (n : ℕ). HasEdge (kind_edges structures) inner n) at (edge_from 0 structures number s m inner is has kind)

-- ---- the kinds of members

pub kind_below : (structures : List StructDef) (k : KindTree) (inner : ℕ) → kind_in structures k ≡ Some inner → inner < length structures
kind_below structures kind.Long inner h = cc
kind_below structures kind.Str inner h = cc
kind_below structures (kind.Struct name) inner h = first_below _ structures inner h

module _ (structures : List StructDef) (to : ℕ) (members : List Member) (i : ℕ) (m : Member) (less : i < length members) (is : m ≡ get_or members i m) (before pairs : List (ℕ × ℕ)) where
  pub kinds_past : kind_in structures m.kind ≡ None → pairs ≡ before ++ filter_map (kind_edge structures to) (take i members) → pairs ≡ before ++ filter_map (kind_edge structures to) (take (i + 1) members)
  kinds_past none so_far =
      so_far
      ∙ ap (λ (es : List (ℕ × ℕ)). before ++ es)
      (sym (one_more (kind_edge structures to) members i m less is
      ∙ ap (λ (o : Option (ℕ × ℕ)). filter_map (kind_edge structures to) (take i members) ++ cons_option o []) (ap (option_map (λ (k : ℕ). (k, to))) none)
      ∙ append-nil (filter_map (kind_edge structures to) (take i members))))

  pub kinds_next : (from : ℕ) → kind_in structures m.kind ≡ Some from → (next : List (ℕ × ℕ)) → next ≡ pairs ++ (from, to) ∷ [] → pairs ≡ before ++ filter_map (kind_edge structures to) (take i members)
      → next ≡ before ++ filter_map (kind_edge structures to) (take (i + 1) members)
  kinds_next from some next now so_far =
      now
      ∙ ap (λ (es : List (ℕ × ℕ)). es ++ (from, to) ∷ []) so_far
      ∙ append_assoc before (filter_map (kind_edge structures to) (take i members)) ((from, to) ∷ [])
      ∙ ap (λ (es : List (ℕ × ℕ)). before ++ es)
      (sym (one_more (kind_edge structures to) members i m less is
      ∙ ap (λ (o : Option (ℕ × ℕ)). filter_map (kind_edge structures to) (take i members) ++ cons_option o []) (ap (option_map (λ (k : ℕ). (k, to))) some)))
