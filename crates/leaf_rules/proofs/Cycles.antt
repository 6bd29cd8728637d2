-- The least place of the structures through which closed walks lead.
use Rattle.std.proofs.Common.{◌≡◌, ◌≢◌, ℕ, zero, suc, ◌+◌, ◌<◌, ◌≤◌, Bool, false, List, [], ◌∷◌, length, get_or, Option, Some, None, Bor, refl, sym, ap, subst, ◌∙◌, inl, inr, ⊎_elim, ◌⊎◌, arith}
use Rattle.std.specs.Prelude.{slice_get, IsTrue, slice_index_or, MatchOption}
use Rattle.std.proofs.Math.ListN.{get_or-map}
use Rattle.std.proofs.lemmas.Bool.{cases_eq}
use Rattle.std.proofs.lemmas.List.{length-map}
use Rattle.std.proofs.lemmas.List.Elements.{All-contains}
use Rattle.std.proofs.lemmas.Option.{slice_get_within, slice_get-get_or}
use Rattle.flow_model.specs.declared.trees.StructDef.{StructDef}
use Rattle.graph_check.proofs.NoReturn.{no_return}
use Rattle.graph_check.specs.Walks.{HasEdge, IsWalk, IsClosedWalk, Reaches, AreNodes, IsOrder}
use Rattle.text_graphs.specs.ClosedWalks.{AreClosed, IsCyclic}
use Rattle.text_graphs.specs.Places.{IsLeastOf, lesser_of}
use Rattle.text_graphs.proofs.Finding.{least_same, least_either, least_is}
use Rattle.leaf_rules.specs.KindEdges.{kind_edges, IsInStructureCycle}
use Rattle.leaf_rules.specs.Structures.{behind}

module _ (items : List (Bor StructDef)) where
  abbrev structures : List StructDef
  structures = behind items

  -- of the first structures
  abbrev pub CycleTo : ℕ → ℕ → Type 0
  CycleTo i p = (c : IsInStructureCycle (behind items) p) × (c.number < i)

  pub at_behind : (i : ℕ) (x : Bor StructDef) → i < length items → x ≡ get_or items i x → slice_get (behind items) i ≡ Some x.now
  at_behind i x less is =
      slice_get-get_or (behind items) i x.now (rw length-map less) ∙ ap (λ (s : StructDef). Some s) (get_or-map (λ (y : Bor StructDef). y.now) items i x ∙ ap (λ (y : Bor StructDef). y.now) (sym is))

  pub cycle_none : IsLeastOf (CycleTo 0) None
  cycle_none = λ p h. absurd (let l = h.1 in omega arith)

  pub cycle_next : (closed : List Bool) → AreClosed (length (behind items)) (kind_edges (behind items)) closed → (i : ℕ) (x : Bor StructDef) → i < length items → x ≡ get_or items i x → (least found next : Option ℕ) → next ≡ lesser_of least found
      → IsLeastOf (CycleTo i) least → IsLeastOf (λ p. IsTrue (slice_index_or closed i false) × (x.now.name.place ≡ p)) found → IsLeastOf (CycleTo (i + 1)) next
  cycle_next closed h i x less is least found next now so_far here =
      least_is (CycleTo (i + 1)) (lesser_of least found) next now
      (least_same (λ p. CycleTo i p ⊎ (IsTrue (slice_index_or closed i false) × (x.now.name.place ≡ p))) (CycleTo (i + 1)) (lesser_of least found) to from
      (least_either (CycleTo i) (λ p. IsTrue (slice_index_or closed i false) × (x.now.name.place ≡ p)) least found so_far here))
    where
      in_range : i < length (behind items)
      in_range = rw length-map less

      to : (p : ℕ) → CycleTo i p ⊎ (IsTrue (slice_index_or closed i false) × (x.now.name.place ≡ p)) → CycleTo (i + 1) p
      to p = ⊎_elim
          (λ before. (before.0, let l = before.1 in omega arith))
          (λ last. (record { number = i; s = x.now; is = at_behind i x less is; closed = (h.right i in_range).0 last.0; at = last.1 }, omega arith))

      from : (p : ℕ) → CycleTo (i + 1) p → CycleTo i p ⊎ (IsTrue (slice_index_or closed i false) × (x.now.name.place ≡ p))
      from p c =
          ⊎_elim
          (λ (same : c.0.number ≡ i).
          let s_is : Some c.0.s ≡ Some x.now = sym c.0.is ∙ ap (slice_get (behind items)) same ∙ at_behind i x less is in
          let s_same : c.0.s ≡ x.now = cc in
          inr ((h.right i in_range).1 (subst (λ (n : ℕ). Reaches (kind_edges (behind items)) n n) same c.0.closed), ap (λ (s : StructDef). s.name.place) (sym s_same) ∙ c.0.at))
          (λ (other : c.0.number ≢ i). inl (c.0, let l = c.1 in omega arith))
          (cases_eq c.0.number i)

  pub cycle_all : (i : ℕ) (least : Option ℕ) → length items ≤ i → IsLeastOf (CycleTo i) least → IsLeastOf (IsInStructureCycle (behind items)) least
  cycle_all i least past h =
      least_same (CycleTo i) (IsInStructureCycle (behind items)) least (λ p c. c.0)
      (λ p c. (c, let l = slice_get_within (behind items) c.number c.s c.is in let n = length-map items (λ (y : Bor StructDef). y.now) in omega arith)) h

-- a text whose structures have an order has none, and one with a closed walk has one
module _ (structures : List StructDef) where
  pub no_cycle : (order : List ℕ) → IsOrder (length structures) (kind_edges structures) order → IsLeastOf (IsInStructureCycle structures) None
  no_cycle order is = λ p c. no_return (length structures) (kind_edges structures) order is c.number (slice_get_within structures c.number c.s c.is) c.closed

  source_below : AreNodes (length structures) (kind_edges structures) → (a b : ℕ) → HasEdge (kind_edges structures) a b → a < length structures
  source_below within a b edge = (All-contains (λ (e : ℕ × ℕ). (e.0 < length structures) × (e.1 < length structures)) (kind_edges structures) (a, b) within edge).0

  start_below : AreNodes (length structures) (kind_edges structures) → (a : ℕ) (through : List ℕ) → IsWalk (kind_edges structures) a through a → a < length structures
  start_below within a [] walk = source_below within a a walk
  start_below within a (c ∷ through) walk = source_below within a c walk.0

  -- the structure of a number that is small enough
  pub there_is : (ss : List StructDef) (a : ℕ) → a < length ss → (s : StructDef) × (slice_get ss a ≡ Some s)
  there_is [] a less = absurd (omega arith)
  there_is (s ∷ ss) zero less = (s, refl)
  there_is (s ∷ ss) (suc a) less = there_is ss a (omega arith)

  pub some_cycle : AreNodes (length structures) (kind_edges structures) → IsCyclic (kind_edges structures) → IsLeastOf (IsInStructureCycle structures) None → ⊥
  some_cycle within cyclic none = found cyclic.0 cyclic.1
    where
      found : (walk : List ℕ) → IsClosedWalk (kind_edges structures) walk → ⊥
      found [] closed = closed
      found (a ∷ through) closed =
          let t = there_is structures a (start_below within a through closed) in
          none t.0.name.place (record { number = a; s = t.0; is = t.1; closed = (through, closed); at = refl })

  module _ (nodes : ℕ) (edges : List (ℕ × ℕ)) (all : nodes ≡ length structures) (is : edges ≡ kind_edges structures) (found : Option (List ℕ)) (h : MatchOption found (IsCyclic edges) (IsOrder nodes edges)) where
    pub order_where : (order : List ℕ) → found ≡ Some order → IsOrder (length structures) (kind_edges structures) order
    order_where order some =
        subst (λ (n : ℕ). IsOrder n (kind_edges structures) order) all (subst (λ (es : List (ℕ × ℕ)). IsOrder nodes es order) is (subst (λ (o : Option (List ℕ)). MatchOption o (IsCyclic edges) (IsOrder nodes edges)) some h))

    pub none_where : (order : List ℕ) → found ≡ Some order → IsLeastOf (IsInStructureCycle structures) None
    none_where order some =
        no_cycle order (order_where order some)

    pub some_where : AreNodes nodes edges → found ≡ None → IsLeastOf (IsInStructureCycle structures) None → ⊥
    some_where within none =
        some_cycle (subst (λ (n : ℕ). AreNodes n (kind_edges structures)) all (subst (λ (es : List (ℕ × ℕ)). AreNodes nodes es) is within))
        (subst (λ (es : List (ℕ × ℕ)). IsCyclic es) is (subst (λ (o : Option (List ℕ)). MatchOption o (IsCyclic edges) (IsOrder nodes edges)) none h))
