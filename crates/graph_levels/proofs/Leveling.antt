-- Levels: each node has one at most, and it follows from those of its sources.
use Rattle.std.proofs.Common.{◌≡◌, ℕ, zero, suc, ◌+◌, ◌^◌, ◌<◌, ◌≤◌, List, [], ◌⊎◌, inl, inr, length, get_or, sym, ap, subst, ◌∙◌, arith, add-one}
use Rattle.std.specs.Prelude.{Some, slice_get, slice_index}
use Rattle.std.specs.List.{All}
use Rattle.std.proofs.Math.ListN.{set}
use Rattle.std.proofs.lemmas.Bool.Decides.{eqb_tells}
use Rattle.std.proofs.lemmas.List.{get_or-set_same, get_or-set_other, get_or_default}
use Rattle.std.proofs.lemmas.List.Elements.{All-contains}
use Rattle.std.proofs.lemmas.Option.{slice_get-get_or, get_or_from_slice_get}
use Rattle.graph_check.specs.Among.{Among}
use Rattle.graph_check.specs.Walks.{HasEdge, AreNodes, IsOrder}
use Rattle.graph_levels.specs.Levels.{EndsWalk, IsLevel}
use Rattle.graph_levels.specs.Filing.{firsts, AreFiled, IsJustAbove, AreLevels}
use Rattle.graph_levels.proofs.Filed.{pair_from, pair_to}
use Rattle.graph_levels.proofs.Sorting.{at_among, among_at}

pub one_level : (edges : List (ℕ × ℕ)) (a m n : ℕ) → IsLevel edges a m → IsLevel edges a n → m ≡ n
one_level edges a m n g h = omega (arith, g.1 n h.0, h.1 m g.0)

-- an edge leads to a higher level
pub edge_rises : (edges : List (ℕ × ℕ)) (a b m n : ℕ) → HasEdge edges a b → IsLevel edges a m → IsLevel edges b n → m < n
edge_rises edges a b m n e g h = omega (arith, h.1 (suc m) (a, e, g.0))

-- a walk is not longer than the order before its end
walk_short : (nodes : ℕ) (edges : List (ℕ × ℕ)) (order : List ℕ) → IsOrder nodes edges order → (n b i : ℕ) → EndsWalk edges n b → slice_get order i ≡ Some b → n ≤ i
walk_short nodes edges order h zero b i w g = omega arith
walk_short nodes edges order h (suc n) b i w g =
    let f = h.forward w.0 b i w.1 g in omega (arith, f.1, walk_short nodes edges order h n w.0 f.0 w.2 f.2)

pub level_low : (nodes : ℕ) (edges : List (ℕ × ℕ)) (order : List ℕ) → IsOrder nodes edges order → (i a n : ℕ) → i < length order → slice_get order i ≡ Some a → IsLevel edges a n → n < nodes
level_low nodes edges order h i a n less at level = omega (arith, less, h.long, walk_short nodes edges order h n a i level.0 at)

-- the level of a node is just above those of its sources
module _ (edges : List (ℕ × ℕ)) (levels sources : List ℕ) (b n : ℕ) (into : (a : ℕ) → Among a sources → HasEdge edges a b) (all : (a : ℕ) → HasEdge edges a b → Among a sources)
    (known : (a : ℕ) → Among a sources → IsLevel edges a (slice_index levels a)) (h : IsJustAbove levels sources (length sources) n) where
  reached : (n ≡ 0) ⊎ ((k : ℕ) × (k < length sources) × (n ≡ slice_index levels (slice_index sources k) + 1)) → EndsWalk edges n b
  reached (inl e) = subst (λ (v : ℕ). EndsWalk edges v b) (sym e) tt
  reached (inr r) =
      let a = slice_index sources r.0 in
      let inside = at_among sources r.0 a (slice_get-get_or sources r.0 0 r.1) in
      subst (λ (v : ℕ). EndsWalk edges v b) (sym (r.2 ∙ add-one (slice_index levels a))) (a, into a inside, (known a inside).0)

  longest : (m : ℕ) → EndsWalk edges m b → m ≤ n
  longest zero w = omega arith
  longest (suc m) w =
      let at = among_at sources w.0 (all w.0 w.1) in
      let source = get_or_from_slice_get sources at.0 w.0 0 at.2 in
      let above : slice_index levels w.0 < n = subst (λ (v : ℕ). slice_index levels v < n) source (h.above at.0 at.1) in
      omega (arith, above, (known w.0 (all w.0 w.1)).1 m w.2)

  pub level_found : IsLevel edges b n
  level_found = (reached h.reached, longest)

pub all_among : (P : ℕ → Type 0) (xs : List ℕ) → ((a : ℕ) → Among a xs → P a) → All P xs
all_among P xs f k d less = f (get_or xs k d) (at_among xs k (get_or xs k d) (slice_get-get_or xs k d less))

-- a row that was read through a slice
pub row_read : (rows : List (List ℕ)) (b : ℕ) (row view : List ℕ) → view ≡ row → row ≡ get_or rows b row → view ≡ get_or rows b view
row_read rows b row view same is = subst (λ (r : List ℕ). r ≡ get_or rows b r) (sym same) is

-- one pass along an order
module _ (nodes : ℕ) (edges : List (ℕ × ℕ)) (order levels : List ℕ) (i : ℕ) (all : AreNodes nodes edges) (h : IsOrder nodes edges order) (long : length levels ≡ nodes)
    (done : (k : ℕ) → k < i → IsLevel edges (slice_index order k) (slice_index levels (slice_index order k))) where
  module _ (less : i < length order) (rows : List (List ℕ)) (filed : AreFiled nodes edges rows) (row : List ℕ) (here : row ≡ get_or rows (slice_index order i) row) where
    inside : slice_index order i < nodes
    inside = h.in_range i 0 less

    is : row ≡ firsts edges (slice_index order i)
    is = here ∙ get_or_default rows (slice_index order i) row [] (omega (arith, inside, filed.long)) ∙ filed.each (slice_index order i)

    into : (a : ℕ) → Among a row → HasEdge edges a (slice_index order i)
    into a m = pair_from edges a (slice_index order i) (subst (Among a) is m)

    from : (a : ℕ) → HasEdge edges a (slice_index order i) → Among a row
    from a e = subst (Among a) (sym is) (pair_to edges a (slice_index order i) e)

    before : (a : ℕ) → Among a row → (j : ℕ) × (j < i) × (slice_get order j ≡ Some a)
    before a m = h.forward a (slice_index order i) i (into a m) (slice_get-get_or order i 0 less)

    known : (a : ℕ) → Among a row → IsLevel edges a (slice_index levels a)
    known a m =
        let f = before a m in
        subst (λ (v : ℕ). IsLevel edges v (slice_index levels v)) (get_or_from_slice_get order f.0 a 0 f.2) (done f.0 f.1)

    pub sources_inside : All (λ a. a < length levels) row
    sources_inside = all_among (λ a. a < length levels) row
        (λ a m. let e = All-contains (λ (p : ℕ × ℕ). (p.0 < nodes) × (p.1 < nodes)) edges (a, slice_index order i) all (into a m) in omega (arith, long, e.0))

    pub sources_low : nodes < 2 ^ 32 → All (λ a. slice_index levels a + 1 < 2 ^ 32) row
    sources_low fits = all_among (λ a. slice_index levels a + 1 < 2 ^ 32) row
        (λ a m. let f = before a m in omega (arith, fits, level_low nodes edges order h f.0 a (slice_index levels a) (omega (arith, f.1, less)) f.2 (known a m)))

    pub done_next : (n : ℕ) → IsJustAbove levels row (length row) n → (k : ℕ) → k < i + 1
        → IsLevel edges (slice_index order k) (slice_index (set levels (slice_index order i) n) (slice_index order k))
    done_next n above k lt = elim (eqb_tells (slice_index order k) (slice_index order i)) [
      | inl e ↦ subst (λ (v : ℕ). IsLevel edges v (slice_index (set levels (slice_index order i) n) v)) (sym e.1)
          (subst (IsLevel edges (slice_index order i)) (sym (get_or-set_same levels (slice_index order i) n 0 (omega (arith, long, inside)))) (level_found edges levels row (slice_index order i) n into from known above))
      | inr d ↦ subst (IsLevel edges (slice_index order k)) (sym (get_or-set_other levels (slice_index order i) (slice_index order k) n 0 d.1)) (done k (earlier d.1))
    ]
      where
        earlier : (slice_index order k ≡ slice_index order i → ⊥) → k < i
        earlier apart = elim (eqb_tells k i) [ inl e ↦ absurd (apart (ap (slice_index order) e.1)) | inr d ↦ omega (arith, lt, d.1) ]

  pub all_done : length order ≤ i → AreLevels nodes edges levels
  all_done end = record {
    long = long;
    each = λ a less. let c = h.covers a less in
        subst (λ (v : ℕ). IsLevel edges v (slice_index levels v)) (get_or_default order c.0 0 a c.1 ∙ c.2) (done c.0 (omega (arith, end, c.1)));
  }

-- levels are below the number of nodes
pub levels_low : (nodes : ℕ) (edges : List (ℕ × ℕ)) (order levels : List ℕ) → IsOrder nodes edges order → AreLevels nodes edges levels → (a : ℕ) → a < length levels → get_or levels a 0 < nodes
levels_low nodes edges order levels h known a less =
    let inside : a < nodes = omega (arith, less, known.long) in
    let c = h.covers a inside in
    level_low nodes edges order h c.0 a (slice_index levels a) c.1 (slice_get-get_or order c.0 a c.1 ∙ ap Some c.2) (known.each a inside)
