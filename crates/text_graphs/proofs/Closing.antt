-- Nodes are marked that closed walks lead through, edge by edge.
use Rattle.std.proofs.Common.{◌≡◌, ◌≢◌, ℕ, zero, suc, ◌+◌, ◌<◌, ◌≤◌, Bool, true, false, List, [], ◌∷◌, length, get_or, set, replicate, Some, refl, sym, ap, subst, ◌∙◌, ⊎_elim, arith}
use Rattle.std.specs.Prelude.{slice_get}
use Rattle.std.proofs.lemmas.Bool.{cases_eq}
use Rattle.std.proofs.Math.ListN.{length-set}
use Rattle.std.proofs.lemmas.List.{length-replicate, get_or-set_same, get_or-set_other}
use Rattle.std.proofs.lemmas.List.Elements.{All-contains}
use Rattle.std.proofs.lemmas.Option.{slice_get_within, slice_get-get_or, get_or_from_slice_get}
use Rattle.graph_check.specs.Components.{AreCyclic}
use Rattle.graph_check.specs.Walks.{HasEdge, IsWalk, Reaches, AreNodes}
use Rattle.text_graphs.specs.ClosedWalks.{AreClosed}

-- the sources of the first edges are marked where a closed walk leads along the edge
pub record AreMarked (nodes : ℕ) (edges : List (ℕ × ℕ)) (cyclic closed : List Bool) (i : ℕ) : Type 0 where
  pub long : length closed ≡ nodes
  pub sound : (a : ℕ) → get_or closed a false ≡ true → Reaches edges a a
  pub whole : (j a b : ℕ) → j < i → slice_get edges j ≡ Some (a, b) → get_or cyclic j false ≡ true → get_or closed a false ≡ true

off : (n a : ℕ) → get_or (replicate n false) a false ≡ false
off zero a = refl
off (suc n) zero = refl
off (suc n) (suc a) = off n a

module _ (nodes : ℕ) (edges : List (ℕ × ℕ)) (within : AreNodes nodes edges) (cyclic : List Bool) (h : AreCyclic edges cyclic) where
  pub none_marked : (closed : List Bool) → closed ≡ replicate nodes false → AreMarked nodes edges cyclic closed 0
  none_marked closed is = record {
    long = ap length is ∙ length-replicate nodes false;
    sound = λ a on. (let e : true ≡ false = sym on ∙ ap (λ (l : List Bool). get_or l a false) is ∙ off nodes a in cc);
    whole = λ j a b less at on. absurd (omega arith);
  }

  pub source_within : (i a b : ℕ) → slice_get edges i ≡ Some (a, b) → a < nodes
  source_within i a b is =
      (All-contains (λ (e : ℕ × ℕ). (e.0 < nodes) × (e.1 < nodes)) edges (a, b) within (i, slice_get_within edges i (a, b) is, get_or_from_slice_get edges i (a, b) (a, b) is)).0

  has_edge : (i a b : ℕ) → slice_get edges i ≡ Some (a, b) → HasEdge edges a b
  has_edge i a b is = (i, slice_get_within edges i (a, b) is, get_or_from_slice_get edges i (a, b) (a, b) is)

  pub marked_past : (i a b : ℕ) (closed : List Bool) → slice_get edges i ≡ Some (a, b) → get_or cyclic i false ≡ false → AreMarked nodes edges cyclic closed i → AreMarked nodes edges cyclic closed (i + 1)
  marked_past i a b closed is off m = record {
    long = m.long;
    sound = m.sound;
    whole = λ j c d less at on.
        ⊎_elim
        (λ (same : j ≡ i). (let e : true ≡ false = sym on ∙ ap (λ (k : ℕ). get_or cyclic k false) same ∙ off in cc))
        (λ (other : j ≢ i). m.whole j c d (omega arith) at on)
        (cases_eq j i);
  }

  pub marked_next : (i a b : ℕ) (closed next : List Bool) → slice_get edges i ≡ Some (a, b) → get_or cyclic i false ≡ true → next ≡ set closed a true → AreMarked nodes edges cyclic closed i → AreMarked nodes edges cyclic next (i + 1)
  marked_next i a b closed next is on now m =
      let in_range : a < length closed = (let l = source_within i a b is in let n = m.long in omega arith) in
      let here : get_or next a false ≡ true = ap (λ (l : List Bool). get_or l a false) now ∙ get_or-set_same closed a true false in_range in
      let elsewhere = λ (c : ℕ) (other : c ≢ a). ap (λ (l : List Bool). get_or l c false) now ∙ get_or-set_other closed a c true false other in
      record {
        long = ap length now ∙ length-set closed a true ∙ m.long;
        sound = λ c marked.
            ⊎_elim
            (λ (same : c ≡ a). subst (λ (v : ℕ). Reaches edges v v) (sym same) (let back = (h.right a b i is).0 on in (b ∷ back.0, (has_edge i a b is, back.1))))
            (λ (other : c ≢ a). m.sound c (sym (elsewhere c other) ∙ marked))
            (cases_eq c a);
        whole = λ j c d less at cycle.
            ⊎_elim
            (λ (same : c ≡ a). ap (λ (v : ℕ). get_or next v false) same ∙ here)
            (λ (other : c ≢ a).
            elsewhere c other ∙
            m.whole j c d
            (⊎_elim
            (λ (last : j ≡ i). absurd (other (let e : Some (c, d) ≡ Some (a, b) = sym at ∙ ap (slice_get edges) last ∙ is in ap (λ (p : ℕ × ℕ). p.0) (let f : ◌≡◌ {A = ℕ × ℕ} (c, d) (a, b) = cc in f))))
            (λ (earlier : j ≢ i). omega arith)
            (cases_eq j i))
            at cycle)
            (cases_eq c a);
      }

  -- the first edge of a closed walk
  cyclic_at : (a c : ℕ) → HasEdge edges a c → Reaches edges c a → (closed : List Bool) → AreMarked nodes edges cyclic closed (length edges) → get_or closed a false ≡ true
  cyclic_at a c edge back closed m =
      let is : slice_get edges edge.0 ≡ Some (a, c) = slice_get-get_or edges edge.0 (a, c) edge.1 ∙ ap (λ (p : ℕ × ℕ). Some p) edge.2 in
      m.whole edge.0 a c edge.1 is ((h.right a c edge.0 is).1 back)

  closed_at : (a : ℕ) (through : List ℕ) → IsWalk edges a through a → (closed : List Bool) → AreMarked nodes edges cyclic closed (length edges) → get_or closed a false ≡ true
  closed_at a [] walk closed m = cyclic_at a a walk ([], walk) closed m
  closed_at a (c ∷ through) walk closed m = cyclic_at a c walk.0 (through, walk.1) closed m

  pub all_marked : (i : ℕ) (closed : List Bool) → length edges ≤ i → AreMarked nodes edges cyclic closed i → AreClosed nodes edges closed
  all_marked i closed past m =
      let whole : AreMarked nodes edges cyclic closed (length edges) = record { long = m.long; sound = m.sound; whole = λ j a b less. m.whole j a b (omega arith) } in
      record { right = λ a less. (m.sound a, λ reach. closed_at a reach.0 reach.1 closed whole) }
