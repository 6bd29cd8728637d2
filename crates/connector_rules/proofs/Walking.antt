-- Each edge that is gone along keeps what is known, and in the end each walk is known.
use Rattle.std.proofs.Common.{◌≡◌, ◌≢◌, ◌<◌, ◌≤◌, ◌+◌, ◌/◌, ◌%◌, ◌^◌, ◌==◌, ◌⊎◌, ℕ, zero, suc, true, false, List, [], ◌∷◌, ◌++◌, length, get_or, replicate, bit_or, Option, Some, None, inl, inr, refl, sym, ap, subst, ◌∙◌, arith}
use Rattle.std.specs.Prelude.{slice_get}
use Rattle.std.specs.Global.{Vec}
use Rattle.std.specs.Int.{bit_at}
use Rattle.std.specs.List.{Contains}
use Rattle.std.proofs.lemmas.Bool.Decides.{eqb_tells}
use Rattle.std.proofs.lemmas.List.{get_or-set_same, get_or-set_other, get_or_default}
use Rattle.std.proofs.lemmas.List.Elements.{Contains-get_or}
use Rattle.std.proofs.lemmas.List.Sorted.{Contains-permutation, IsPermutation-sym}
use Rattle.std.proofs.lemmas.Nat.Bits.{bit_at_or, bit_at-lt, bit_at-zero, bit_at-pow_same, bit_at-pow_other}
use Rattle.flow_model.specs.declared.trees.ElementTree.{ElementTree}
use Rattle.graph_check.specs.Walks.{AreNodes, HasEdge, IsWalk, Reaches}
use Rattle.graph_check.specs.Components.{Leads}
use Rattle.text_graphs.specs.Texts.{activities_in, edges_in}
use Rattle.text_graphs.proofs.Judging.{edges_below}
use Rattle.connector_rules.specs.Walking.{AreInOrder, AreSources, IsHandedOn, IsSet, IsFilled, bit_of, words_along, word_of}
use Rattle.graph_check.proofs.Leading.{joined}

-- ---- bits

set_left : (a b i : ℕ) → IsSet a i → IsSet (bit_or a b) i
set_left a b i h = let e = bit_at_or a b i in let l = bit_at-lt b i in omega (arith, e, l, h)

set_right : (a b i : ℕ) → IsSet b i → IsSet (bit_or a b) i
set_right a b i h = let e = bit_at_or a b i in let l = bit_at-lt a i in omega (arith, e, l, h)

set_either : (a b i : ℕ) → IsSet (bit_or a b) i → IsSet a i ⊎ IsSet b i
set_either a b i h = go (eqb_tells (bit_at a i) 1)
  where
    go : ((bit_at a i == 1 ≡ true) × (bit_at a i ≡ 1)) ⊎ ((bit_at a i == 1 ≡ false) × (bit_at a i ≢ 1)) → IsSet a i ⊎ IsSet b i
    go (inl e) = inl e.1
    go (inr n) = inr (let e = bit_at_or a b i in let l = bit_at-lt a i in let m = bit_at-lt b i in let o = n.1 in omega (arith, e, l, m, h, o))

bit_right : (block a : ℕ) → a / 64 ≡ block → IsSet (bit_of block a) (a % 64)
bit_right block a at = elim (eqb_tells (a / 64) block) [ inl e ↦ rw e.0 (bit_at-pow_same (a % 64)) | inr n ↦ absurd (n.1 at) ]

bit_only : (block source a : ℕ) → a / 64 ≡ block → IsSet (bit_of block source) (a % 64) → a ≡ source
bit_only block source a at h = go (eqb_tells (source / 64) block) (eqb_tells (a % 64) (source % 64))
  where
    go : ((source / 64 == block ≡ true) × (source / 64 ≡ block)) ⊎ ((source / 64 == block ≡ false) × (source / 64 ≢ block))
        → ((a % 64 == source % 64 ≡ true) × (a % 64 ≡ source % 64)) ⊎ ((a % 64 == source % 64 ≡ false) × (a % 64 ≢ source % 64)) → a ≡ source
    go (inl e) (inl f) = let p = e.1 in let q = f.1 in omega (arith, p, q, at)
    go (inl e) (inr n) = let z = bit_at-pow_other (source % 64) (a % 64) n.1 in let o : IsSet (2 ^ (source % 64)) (a % 64) = rw e.0 at h in absurd (omega (arith, z, o))
    go (inr n) f = let z = bit_at-zero (a % 64) in let o : IsSet 0 (a % 64) = rw n.0 at h in absurd (omega (arith, z, o))

-- ---- words

module _ (elements : List ElementTree) (groups : List ℕ) (block : ℕ) (pairs : List (ℕ × ℕ)) where
  abbrev nodes : ℕ
  nodes = length (activities_in elements)

  abbrev edges : List (ℕ × ℕ)
  edges = edges_in elements

  -- nothing is known in the beginning
  pub none_filled : (width : ℕ) → IsFilled elements groups block pairs 0 (replicate width 0)
  none_filled width = record {
    reached = λ a b less within at h. let z = bit_at-zero (a % 64) in let o : IsSet 0 (a % 64) = subst (λ (w : ℕ). IsSet w (a % 64)) (blank width (get_or groups b 0)) h in absurd (omega (arith, z, o));
    handed_on = λ k d less within. absurd (omega (arith, less));
  }
    where
      blank : (n i : ℕ) → get_or {A = ℕ} (replicate n 0) i 0 ≡ 0
      blank zero i = refl
      blank (suc n) zero = refl
      blank (suc n) (suc i) = blank n i

  module _ (sorted : AreInOrder elements groups pairs) where
    is_edge : (k : ℕ) (d : ℕ × ℕ) → k < length pairs → Contains edges (get_or pairs k d)
    is_edge k d less = Contains-permutation pairs edges (get_or pairs k d) (IsPermutation-sym edges pairs sorted.moved) (Contains-get_or pairs k d less)

    -- their ends have groups
    pub pairs_within : AreNodes (length groups) pairs
    pairs_within k d less =
        let e = get_or pairs k d in
        let below = edges_below elements e.0 e.1 (is_edge k d less) in
        let long = sorted.grouped.long in
        (omega (arith, below.0, long), omega (arith, below.1, long))

    on_from : (a x y b : ℕ) → (a ≡ x) ⊎ Reaches edges a x → HasEdge edges x y → Leads edges y b → Reaches edges a b
    on_from a x y b start edge end = go start end
      where
        along : Leads edges y b → Reaches edges x b
        along (inl e) = ([], subst (λ (v : ℕ). HasEdge edges x v) e edge)
        along (inr r) = (y ∷ r.0, (edge, r.1))

        go : (a ≡ x) ⊎ Reaches edges a x → Leads edges y b → Reaches edges a b
        go (inl e) l = subst (λ (v : ℕ). Reaches edges v b) (sym e) (along l)
        go (inr r) l = let m = along l in (r.0 ++ x ∷ m.0, joined edges r.0 a x b m.0 r.1 m.1)

    -- one more edge is gone along
    module _ (i : ℕ) (e : ℕ × ℕ) (words : List ℕ) (h : IsFilled elements groups block pairs i words) (less : i < length pairs) (is : e ≡ get_or pairs i e) (to : get_or groups e.1 0 < length words) where
      abbrev next : List ℕ
      next = words_along groups block words e

      edge : HasEdge edges e.0 e.1
      edge = subst (λ (d : ℕ × ℕ). Contains edges d) (sym is) (is_edge i e less)

      here : (b : ℕ) → get_or groups b 0 ≡ get_or groups e.1 0 → word_of groups next b ≡ bit_or (word_of groups words e.1) (bit_or (bit_of block e.0) (word_of groups words e.0))
      here b same = ap (λ (g : ℕ). get_or next g 0) same ∙ get_or-set_same words (get_or groups e.1 0) _ 0 to

      there : (b : ℕ) → get_or groups b 0 ≢ get_or groups e.1 0 → word_of groups next b ≡ word_of groups words b
      there b other = get_or-set_other words (get_or groups e.1 0) (get_or groups b 0) _ 0 other

      -- what was set still is
      still : (b j : ℕ) → IsSet (word_of groups words b) j → IsSet (word_of groups next b) j
      still b j s = elim (eqb_tells (get_or groups b 0) (get_or groups e.1 0)) [
        | inl q ↦ rw (here b q.1) (set_left (word_of groups words e.1) _ j (subst (λ (g : ℕ). IsSet (get_or words g 0) j) q.1 s))
        | inr n ↦ rw (there b n.1) s
      ]

      new_reached : (a b : ℕ) → a < nodes → b < nodes → a / 64 ≡ block → IsSet (word_of groups next b) (a % 64) → Reaches edges a b
      new_reached a b la lb at s = go (eqb_tells (get_or groups b 0) (get_or groups e.1 0))
        where
          joins : get_or groups b 0 ≡ get_or groups e.1 0 → Leads edges e.1 b
          joins q = sorted.grouped.together e.1 b (edges_below elements e.0 e.1 edge).1 lb (sym q)

          more : get_or groups b 0 ≡ get_or groups e.1 0 → IsSet (bit_of block e.0) (a % 64) ⊎ IsSet (word_of groups words e.0) (a % 64) → Reaches edges a b
          more q (inl t) = on_from a e.0 e.1 b (inl (bit_only block e.0 a at t)) edge (joins q)
          more q (inr t) = on_from a e.0 e.1 b (inr (h.reached a e.0 la (edges_below elements e.0 e.1 edge).0 at t)) edge (joins q)

          split : get_or groups b 0 ≡ get_or groups e.1 0 → IsSet (word_of groups words e.1) (a % 64) ⊎ IsSet (bit_or (bit_of block e.0) (word_of groups words e.0)) (a % 64) → Reaches edges a b
          split q (inl t) = h.reached a b la lb at (subst (λ (g : ℕ). IsSet (get_or words g 0) (a % 64)) (sym q) t)
          split q (inr t) = more q (set_either (bit_of block e.0) (word_of groups words e.0) (a % 64) t)

          go : ((get_or groups b 0 == get_or groups e.1 0 ≡ true) × (get_or groups b 0 ≡ get_or groups e.1 0)) ⊎ ((get_or groups b 0 == get_or groups e.1 0 ≡ false) × (get_or groups b 0 ≢ get_or groups e.1 0)) → Reaches edges a b
          go (inl q) = split q.1 (set_either (word_of groups words e.1) _ (a % 64) (rw (here b q.1) at s))
          go (inr n) = h.reached a b la lb at (rw (there b n.1) at s)

      -- the edge itself
      handed_here : IsHandedOn groups block next e
      handed_here a at (inl start) = rw (here e.1 refl) (set_right (word_of groups words e.1) _ (a % 64) (set_left (bit_of block e.0) _ (a % 64) (subst (λ (v : ℕ). IsSet (bit_of block v) (a % 64)) start (bit_right block a at))))
      handed_here a at (inr start) = elim (eqb_tells (get_or groups e.0 0) (get_or groups e.1 0)) [
        | inl q ↦ subst (λ (g : ℕ). IsSet (get_or next g 0) (a % 64)) q.1 start
        | inr n ↦ rw (here e.1 refl) (set_right (word_of groups words e.1) _ (a % 64) (set_right (bit_of block e.0) _ (a % 64) (rw (there e.0 n.1) at start)))
      ]

      -- an edge that was gone along before
      handed_before : (k : ℕ) (d : ℕ × ℕ) → k < i → IsHandedOn groups block next (get_or pairs k d)
      handed_before k d first a at start = go start (eqb_tells (get_or groups f.0 0) (get_or groups e.1 0))
        where
          f : ℕ × ℕ
          f = get_or pairs k d

          rises : get_or groups f.1 0 ≤ get_or groups e.1 0
          rises = subst (λ (g : ℕ × ℕ). get_or groups f.1 0 ≤ get_or groups g.1 0) (get_or_default pairs i d e less ∙ sym is) (sorted.rising k i d (omega arith) less)

          ahead : get_or groups f.0 0 ≤ get_or groups f.1 0
          ahead = sorted.grouped.forward f.0 f.1 (is_edge k d (omega arith))

          old : (a ≡ f.0) ⊎ IsSet (word_of groups words f.0) (a % 64) → IsSet (word_of groups next f.1) (a % 64)
          old s = still f.1 (a % 64) (h.handed_on k d first (omega arith) a at s)

          go : (a ≡ f.0) ⊎ IsSet (word_of groups next f.0) (a % 64)
              → ((get_or groups f.0 0 == get_or groups e.1 0 ≡ true) × (get_or groups f.0 0 ≡ get_or groups e.1 0)) ⊎ ((get_or groups f.0 0 == get_or groups e.1 0 ≡ false) × (get_or groups f.0 0 ≢ get_or groups e.1 0))
              → IsSet (word_of groups next f.1) (a % 64)
          go (inl s) n = old (inl s)
          go (inr s) (inl q) = let same = q.1 in subst (λ (g : ℕ). IsSet (get_or next g 0) (a % 64)) (omega (arith, same, rises, ahead)) s
          go (inr s) (inr n) = old (inr (rw (there f.0 n.1) at s))

      pub more_filled : IsFilled elements groups block pairs (i + 1) next
      more_filled = record {
        reached = new_reached;
        handed_on = λ k d before within. elim (eqb_tells k i) [
          | inl q ↦ subst (IsHandedOn groups block next) (is ∙ get_or_default pairs i e d less ∙ ap (λ (j : ℕ). get_or pairs j d) (sym q.1)) handed_here
          | inr n ↦ handed_before k d (let m = n.1 in omega (arith, m))
        ];
      }

    -- all edges are gone along
    pub all_filled : (i : ℕ) (words : List ℕ) → length pairs ≤ i → IsFilled elements groups block pairs i words → AreSources elements groups block words
    all_filled i words past h a b la lb at = (h.reached a b la lb at, λ r. along r.0 a r.1 (inl refl))
      where
        pass : (x y : ℕ) → HasEdge edges x y → (a ≡ x) ⊎ IsSet (word_of groups words x) (a % 64) → IsSet (word_of groups words y) (a % 64)
        pass x y e start =
            let c = Contains-permutation edges pairs (x, y) sorted.moved e in
            let l = c.1 in
            subst (IsHandedOn groups block words) c.2 (h.handed_on c.0 (x, y) (omega arith) l) a at start

        along : (through : List ℕ) (x : ℕ) → IsWalk edges x through b → (a ≡ x) ⊎ IsSet (word_of groups words x) (a % 64) → IsSet (word_of groups words b) (a % 64)
        along [] x w start = pass x b w start
        along (c ∷ through) x w start = along through c w.1 (inr (pass x c w.0 start))

-- ---- blocks

last_or_before : {X : Type 0} (xs : List X) (w x : X) (k : ℕ) → slice_get (xs ++ w ∷ []) k ≡ Some x → (slice_get xs k ≡ Some x) ⊎ ((k ≡ length xs) × (w ≡ x))
last_or_before {X} [] w x zero is = inr (refl, some_same w x is)
  where
    some_same : (a b : X) → Some a ≡ Some b → a ≡ b
    some_same a b e = cc
last_or_before {X} [] w x (suc k) is = let e : ◌≡◌ {A = Option X} None (Some x) = is in cc
last_or_before (y ∷ xs) w x zero is = inl is
last_or_before (y ∷ xs) w x (suc k) is = elim (last_or_before xs w x k is) [ inl h ↦ inl h | inr h ↦ inr (ap suc h.0, h.1) ]

-- the words of one more block
pub more_blocks : (elements : List ElementTree) (groups : List ℕ) (blocks more : List (Vec ℕ)) (w : Vec ℕ) → more ≡ blocks ++ w ∷ []
    → ((block : ℕ) (words : Vec ℕ) → slice_get blocks block ≡ Some words → AreSources elements groups block words.items) → AreSources elements groups (length blocks) w.items
    → (block : ℕ) (words : Vec ℕ) → slice_get more block ≡ Some words → AreSources elements groups block words.items
more_blocks elements groups blocks more w now so_far last block words is =
    elim (last_or_before blocks w words block (subst (λ (bs : List (Vec ℕ)). slice_get bs block ≡ Some words) now is)) [
      | inl h ↦ so_far block words h
      | inr h ↦ subst (λ (n : ℕ). AreSources elements groups n words.items) (sym h.0) (subst (λ (v : Vec ℕ). AreSources elements groups (length blocks) v.items) h.1 last)
    ]
