-- Each step keeps what the search for strong components knows.
use Rattle.std.proofs.Common.{◌≡◌, ℕ, zero, suc, ◌+◌, ◌^◌, ◌<◌, ◌≤◌, List, [], ◌∷◌, ◌⊎◌, inl, inr, length, get_or, refl, sym, ap, subst, ◌∙◌, arith, ◌≢◌}
use Rattle.std.specs.Prelude.{Some, None, replicate, map, slice_index}
use Rattle.std.specs.List.{sum_by}
use Rattle.std.proofs.Math.ListN.{set, length-set}
use Rattle.std.proofs.lemmas.Bool.Decides.{eqb_tells, leb_tells}
use Rattle.std.proofs.lemmas.List.{get_or-set_same, get_or-set_other, get_or-map, length-replicate, length-map}
use Rattle.std.proofs.lemmas.List.Folds.{sum_by-replicate}
use Rattle.std.proofs.lemmas.List.Sums.{sum_by-set, sum_by-cons}
use Rattle.graph_check.specs.declared.strong.Standing.{Standing}
use Rattle.graph_check.specs.declared.strong.Standing.TheVariants.{New, Held, Settled}
use Rattle.std.proofs.lemmas.List.Elements.{All-contains}
use Rattle.graph_check.specs.Walks.{HasEdge, IsWalk, AreNodes}
use Rattle.graph_check.specs.Rows.{IsSourced}
use Rattle.graph_check.specs.Among.{Among, first_of, rest_of}
use Rattle.graph_check.specs.Components.{AreComponents}
use Rattle.graph_check.specs.Grouping.{State, row_of, mark_of, At, above, below, up_to, all_settled, entered, skipped, merged, left, released, settled, Falls, IsLinked, IsMet, IsSettledBy, new_count, number_of, IsGrouped, Grows, IsStep}
use Rattle.graph_check.proofs.Stacks.{begins, is_empty}
use Rattle.graph_check.proofs.Leading.{leads_on, at_less, at_same, at_below, below_at, above_at, at_above, length_below, falls_up, falls_less, falls_up_to, up_to_among, up_to_le, up_to_cases, root_begins, linked_with, linked_below, relinked, down, spans, above_cons, below_cons, above_none, below_none, off_root}

new_at : (n a : ℕ) → get_or (replicate n New) a New ≡ New
new_at zero a = refl
new_at (suc n) zero = refl
new_at (suc n) (suc a) = new_at n a

pub new_grouped : (nodes : ℕ) (edges : List (ℕ × ℕ)) (rows : List (List ℕ)) → IsSourced nodes edges rows
    → IsGrouped nodes edges (record { sources = rows; marks = replicate nodes New; path = []; roots = []; held = []; count = 0 })
new_grouped nodes edges rows h = record {
  wide = h.wide;
  long = length-replicate nodes New;
  listed = h.listed;
  held_at = λ a p m. absurd m;
  at_held = λ a p e. let n = is_new a in cc;
  linked = tt;
  path_falls = tt;
  roots_fall = tt;
  roots_begun = λ p m. m;
  emptied = λ a p m. absurd m;
  fresh = λ a b e m. h.kept a b e;
  kept = λ a b p e m. absurd m;
  forward = λ a b n e m. let k = is_new b in cc;
  numbered = λ a n m. let k = is_new a in cc;
  together = λ a b n m l. let k = is_new a in cc;
  counted = omega (arith, sum_by-replicate new_count nodes New);
}
  where
    is_new : (a : ℕ) → get_or (replicate nodes New) a New ≡ New
    is_new a = new_at nodes a

-- what a new node is linked to
pub link_first : (edges : List (ℕ × ℕ)) (roots held : List ℕ) (a : ℕ) → held ≡ [] → IsLinked edges (length held ∷ roots) (a ∷ held)
link_first edges roots [] a e = inl refl
link_first edges roots (x ∷ xs) a e = cc

link_on : (edges : List (ℕ × ℕ)) (roots held : List ℕ) (a b p : ℕ) → At held p b → IsLinked edges roots held → ((r : ℕ) → Among r roots → r ≤ p) → HasEdge edges a b
    → IsLinked edges (length held ∷ roots) (a ∷ held)
link_on edges roots [] a b p m l top e = absurd m
link_on edges roots (x ∷ xs) a b p m l top e = (
  leads_on edges a b x (inr ([], e)) (spans edges roots (x ∷ xs) l p top (length xs) b x m (inl (refl, refl))),
  inl (inl refl),
  linked_with edges roots (length (x ∷ xs) ∷ roots) (x ∷ xs) (λ r lt k. inr k) l,
)

pub nothing_held : (edges : List (ℕ × ℕ)) (roots held : List ℕ) → IsLinked edges roots held → ((r : ℕ) → Among r roots → ⊥) → held ≡ []
nothing_held edges roots [] l f = refl
nothing_held edges roots (x ∷ xs) l f = absurd (f 0 (root_begins edges roots x xs l))

-- the marks of settled nodes
length-all_settled : (n : ℕ) (hs : List ℕ) (marks : List Standing) → length (all_settled n marks hs) ≡ length marks
length-all_settled n [] marks = refl
length-all_settled n (x ∷ hs) marks = length-all_settled n hs (set marks x (Settled n)) ∙ length-set marks x (Settled n)

settled_in : (n x : ℕ) (hs : List ℕ) (marks : List Standing) → ((y : ℕ) → Among y hs → y < length marks) → (get_or marks x New ≡ Settled n) ⊎ Among x hs
    → get_or (all_settled n marks hs) x New ≡ Settled n
settled_in n x [] marks wide (inl e) = e
settled_in n x [] marks wide (inr m) = absurd m
settled_in n x (y ∷ hs) marks wide o = settled_in n x hs (set marks y (Settled n)) (λ z m. omega (arith, length-set marks y (Settled n), wide z (inr m))) (step o)
  where
    step : (get_or marks x New ≡ Settled n) ⊎ Among x (y ∷ hs) → (get_or (set marks y (Settled n)) x New ≡ Settled n) ⊎ Among x hs
    step o = elim (eqb_tells x y) [
      | inl e ↦ inl (ap (λ (v : ℕ). get_or (set marks y (Settled n)) v New) e.1 ∙ get_or-set_same marks y (Settled n) New (wide y (inl refl)))
      | inr k ↦ elim o [ inl e ↦ inl (get_or-set_other marks y x (Settled n) New k.1 ∙ e) | inr m ↦ elim m [ inl q ↦ absurd (k.1 (sym q)) | inr i ↦ inr i ] ]
    ]

settled_out : (n x : ℕ) (hs : List ℕ) (marks : List Standing) → (Among x hs → ⊥) → get_or (all_settled n marks hs) x New ≡ get_or marks x New
settled_out n x [] marks f = refl
settled_out n x (y ∷ hs) marks f = settled_out n x hs (set marks y (Settled n)) (λ m. f (inr m)) ∙ get_or-set_other marks y x (Settled n) New (λ q. f (inl (sym q)))

fewer_new : (n : ℕ) (marks : List Standing) (y : ℕ) → sum_by new_count (set marks y (Settled n)) ≤ sum_by new_count marks
fewer_new n [] y = omega arith
fewer_new n (m ∷ marks) zero = let e = sum_by-cons new_count m marks in let f = sum_by-cons new_count (Settled n) marks in omega (arith, e, f)
fewer_new n (m ∷ marks) (suc y) = let e = sum_by-cons new_count m marks in let f = sum_by-cons new_count m (set marks y (Settled n)) in omega (arith, e, f, fewer_new n marks y)

all_fewer_new : (n : ℕ) (hs : List ℕ) (marks : List Standing) → sum_by new_count (all_settled n marks hs) ≤ sum_by new_count marks
all_fewer_new n [] marks = omega arith
all_fewer_new n (y ∷ hs) marks = omega (arith, all_fewer_new n hs (set marks y (Settled n)), fewer_new n marks y)

-- with other roots, among which none lies where none lay
met_with : (p : ℕ) (old new : List ℕ) (m : Standing) → ((r : ℕ) → Among r new → Among r old ⊎ (p < r)) → IsMet old p m → IsMet new p m
met_with p old new New f h = h
met_with p old new (Held q) f h = λ r m. elim (f r m) [ inl k ↦ h r k | inr lt ↦ inr lt ]
met_with p old new (Settled n) f h = tt

module _ (nodes : ℕ) (edges : List (ℕ × ℕ)) (s : State) (h : IsGrouped nodes edges s) where
  module _ (a : ℕ) (lt : a < nodes) (new : mark_of s a ≡ New) (linked : IsLinked edges (length s.held ∷ s.roots) (a ∷ s.held)) where
    place : ℕ
    place = length s.held

    same : get_or (set s.marks a (Held (length s.held))) a New ≡ Held (length s.held)
    same = get_or-set_same s.marks a (Held (length s.held)) New (omega (arith, lt, h.long))

    other : (x : ℕ) → x ≢ a → get_or (set s.marks a (Held (length s.held))) x New ≡ mark_of s x
    other x n = get_or-set_other s.marks a x (Held (length s.held)) New n

    -- a mark after the step, told by the one before it
    back : (x : ℕ) (m : Standing) → mark_of (entered s a) x ≡ m → ((x ≡ a) × (m ≡ Held (length s.held))) ⊎ (mark_of s x ≡ m)
    back x m e = elim (eqb_tells x a) [
      | inl q ↦ inl (q.1, sym e ∙ ap (mark_of (entered s a)) q.1 ∙ same)
      | inr n ↦ inr (sym (other x n.1) ∙ e)
    ]

    forth : (x : ℕ) (m : Standing) → mark_of s x ≡ m → m ≢ New → mark_of (entered s a) x ≡ m
    forth x m e n = other x (λ q. n (sym e ∙ ap (mark_of s) q ∙ new)) ∙ e

    pub entered_grouped : IsGrouped nodes edges (entered s a)
    entered_grouped = record {
      wide = h.wide;
      long = length-set s.marks a (Held (length s.held)) ∙ h.long;
      listed = h.listed;
      held_at = holds;
      at_held = λ x p e. elim (back x (Held p) e) [ inl q ↦ inl (let i = q.1 in cc, sym q.0) | inr o ↦ inr (h.at_held x p o) ];
      linked = linked;
      path_falls = (omega arith, h.path_falls);
      roots_fall = (omega arith, h.roots_fall);
      roots_begun = λ p m. elim m [ inl q ↦ inl q | inr k ↦ inr (h.roots_begun p k) ];
      emptied = λ x p m. elim m [ inl q ↦ inr (inl q.0) | inr k ↦ elim (h.emptied x p k) [ inl e ↦ inl e | inr o ↦ inr (inr o) ] ];
      fresh = λ x y e m. elim (back y New m) [ inl q ↦ let i = q.1 in cc | inr o ↦ h.fresh x y e o ];
      kept = keeps;
      forward = λ x y n e m. elim (back y (Settled n) m) [ inl q ↦ let i = q.1 in cc | inr o ↦ settles n x (h.forward x y n e o) ];
      numbered = λ x n m. elim (back x (Settled n) m) [ inl q ↦ let i = q.1 in cc | inr o ↦ h.numbered x n o ];
      together = λ x y n m k. elim (back x (Settled n) m) [ inl q ↦ let i = q.1 in cc | inr o ↦ elim (back y (Settled n) k) [ inl q ↦ let i = q.1 in cc | inr t ↦ h.together x y n o t ] ];
      counted = let e = sum_by-set new_count s.marks a (Held (length s.held)) New (omega (arith, lt, h.long)) in let f : new_count (mark_of s a) ≡ 1 = ap new_count new in omega (arith, h.counted, e, f);
    }
      where
        holds : (x p : ℕ) → At (a ∷ s.held) p x → (x < nodes) × (mark_of (entered s a) x ≡ Held p)
        holds x p (inl q) = (subst (λ (v : ℕ). v < nodes) q.1 lt, ap (mark_of (entered s a)) (sym q.1) ∙ same ∙ ap (λ (v : ℕ). Held v) q.0)
        holds x p (inr k) = let o = h.held_at x p k in (o.0, forth x (Held p) o.1 (λ e. cc))

        sameness : (x p : ℕ) (m : Standing) → mark_of s x ≡ m → IsMet s.roots p m → IsMet s.roots p (mark_of (entered s a) x)
        sameness x p New e i = absurd i
        sameness x p (Held q) e i = rw (forth x (Held q) e (λ e. cc)) i
        sameness x p (Settled n) e i = rw (forth x (Settled n) e (λ e. cc)) tt

        later : (x p : ℕ) → p < length s.held → IsMet s.roots p (mark_of (entered s a) x) → IsMet (length s.held ∷ s.roots) p (mark_of (entered s a) x)
        later x p l i = met_with p s.roots (length s.held ∷ s.roots) (mark_of (entered s a) x) (λ r m. elim m [ inl q ↦ inr (omega (arith, l, q)) | inr k ↦ inl k ]) i

        keeps : (x y p : ℕ) → HasEdge edges x y → At (a ∷ s.held) p y → Among x (row_of s y) ⊎ IsMet (length s.held ∷ s.roots) p (mark_of (entered s a) x)
        keeps x y p e (inl q) = inl (h.fresh x y e (ap (mark_of s) (sym q.1) ∙ new))
        keeps x y p e (inr k) = elim (h.kept x y p e k) [ inl m ↦ inl m | inr i ↦ inr (later x p (at_less s.held p y k) (sameness x p (mark_of s x) refl i)) ]

        settles : (n x : ℕ) → IsSettledBy n (mark_of s x) → IsSettledBy n (mark_of (entered s a) x)
        settles n x i = tell (mark_of s x) refl i
          where
            tell : (m : Standing) → mark_of s x ≡ m → IsSettledBy n m → IsSettledBy n (mark_of (entered s a) x)
            tell New e i = absurd i
            tell (Held q) e i = absurd i
            tell (Settled k) e i = rw (forth x (Settled k) e (λ e. cc)) i

    pub entered_step : IsStep nodes edges s (entered s a)
    entered_step = record {
      grouped = entered_grouped;
      less = let e = sum_by-set new_count s.marks a (Held (length s.held)) New (omega (arith, lt, h.long)) in let f : new_count (mark_of s a) ≡ 1 = ap new_count new in omega (arith, e, f);
      grows = λ x l old m. elim (back x New m) [ inl q ↦ let i = q.1 in cc | inr o ↦ old o ];
    }

  module _ (a b p : ℕ) (more : List ℕ) (at : At s.held p b) (on : Among p s.path) (is : row_of s b ≡ a ∷ more) where
    here : get_or (set s.sources b more) b [] ≡ more
    here = get_or-set_same s.sources b more [] (omega (arith, h.wide, (h.held_at b p at).0))

    there : (y : ℕ) → y ≢ b → get_or (set s.sources b more) y [] ≡ row_of s y
    there y n = get_or-set_other s.sources b y more [] n

    own_place : (q : ℕ) → At s.held q b → q ≡ p
    own_place q k = let e = (h.held_at b q k).1 in let f = (h.held_at b p at).1 in cc

    pub skipped_step : IsMet s.roots p (mark_of s a) → IsStep nodes edges s (skipped s b more)
    skipped_step met = record {
      grouped = record {
        wide = length-set s.sources b more ∙ h.wide;
        long = h.long;
        listed = λ x y m. elim (eqb_tells y b) [
          | inl e ↦ subst (λ (v : ℕ). HasEdge edges x v) (sym e.1) (h.listed x b (subst (Among x) (sym is) (inr (subst (Among x) (ap (row_of (skipped s b more)) e.1 ∙ here) m))))
          | inr n ↦ h.listed x y (subst (Among x) (there y n.1) m)
        ];
        held_at = h.held_at;
        at_held = h.at_held;
        linked = h.linked;
        path_falls = h.path_falls;
        roots_fall = h.roots_fall;
        roots_begun = h.roots_begun;
        emptied = λ x q k. elim (eqb_tells x b) [
          | inl e ↦ inr (subst (λ (v : ℕ). Among v s.path) (sym (own_place q (subst (At s.held q) e.1 k))) on)
          | inr n ↦ elim (h.emptied x q k) [ inl e ↦ inl (there x n.1 ∙ e) | inr o ↦ inr o ]
        ];
        fresh = λ x y e m. subst (Among x) (sym (there y (λ q. let f = (h.held_at b p at).1 in let g = ap (mark_of s) q in cc))) (h.fresh x y e m);
        kept = keeps;
        forward = h.forward;
        numbered = h.numbered;
        together = h.together;
        counted = h.counted;
      };
      less = let e = sum_by-set length s.sources b more [] (omega (arith, h.wide, (h.held_at b p at).0)) in let f : length (row_of s b) ≡ length (a ∷ more) = ap length is in omega (arith, e, f);
      grows = λ x l old. old;
    }
      where
        past : (x q : ℕ) → q ≡ p → Among x (a ∷ more) → Among x more ⊎ IsMet s.roots q (mark_of s x)
        past x q e (inl k) = inr (subst (λ (v : ℕ). IsMet s.roots q (mark_of s v)) k (subst (λ (v : ℕ). IsMet s.roots v (mark_of s a)) (sym e) met))
        past x q e (inr k) = inl k

        keeps : (x y q : ℕ) → HasEdge edges x y → At s.held q y → Among x (row_of (skipped s b more) y) ⊎ IsMet s.roots q (mark_of s x)
        keeps x y q e k = elim (eqb_tells y b) [
          | inl f ↦ rw (f.1, here) (elim (h.kept x y q e k) [ inl m ↦ past x q (own_place q (subst (At s.held q) f.1 k)) (subst (Among x) (ap (row_of s) f.1 ∙ is) m) | inr i ↦ inr i ])
          | inr n ↦ rw (there y n.1) (h.kept x y q e k)
        ]

  -- the node whose sources are gone along is b, at place p
  module _ (b p : ℕ) (rest : List ℕ) (is : s.path ≡ p ∷ rest) (at : At s.held p b) where
    falls : (p < length s.held) × Falls p rest
    falls = subst (Falls (length s.held)) is h.path_falls

    pub on_path : Among p s.path
    on_path = subst (Among p) (sym is) (inl refl)

    path_top : (r : ℕ) → Among r s.path → (p ≡ r) ⊎ Among r rest
    path_top r m = elim (subst (Among r) is m) [ inl q ↦ inl q | inr k ↦ inr k ]

    roots_top : (r : ℕ) → Among r s.roots → r ≤ p
    roots_top r m = elim (path_top r (h.roots_begun r m)) [ inl q ↦ omega (arith, q) | inr k ↦ omega (arith, falls_less p rest r falls.1 k) ]

    pub link : (a : ℕ) → HasEdge edges a b → IsLinked edges (length s.held ∷ s.roots) (a ∷ s.held)
    link a e = link_on edges s.roots s.held a b p at h.linked roots_top e

    pub left_step : row_of s b ≡ [] → (Among p s.roots → ⊥) → IsStep nodes edges s (record s { path = rest })
    left_step none off = record {
      grouped = record {
        wide = h.wide;
        long = h.long;
        listed = h.listed;
        held_at = h.held_at;
        at_held = h.at_held;
        linked = h.linked;
        path_falls = falls_up p (length s.held) rest (omega (arith, falls.0)) falls.1;
        roots_fall = h.roots_fall;
        roots_begun = λ r m. elim (path_top r (h.roots_begun r m)) [ inl q ↦ absurd (off (subst (λ (v : ℕ). Among v s.roots) (sym q) m)) | inr k ↦ k ];
        emptied = λ x q k. elim (h.emptied x q k) [ inl e ↦ inl e | inr o ↦ elim (path_top q o) [ inl e ↦ inl (ap (row_of s) (at_same s.held q x b k (subst (λ (v : ℕ). At s.held v b) e at)) ∙ none) | inr i ↦ inr i ] ];
        fresh = h.fresh;
        kept = h.kept;
        forward = h.forward;
        numbered = h.numbered;
        together = h.together;
        counted = h.counted;
      };
      less = let e : length s.path ≡ length (p ∷ rest) = ap length is in omega (arith, e);
      grows = λ x l old. old;
    }

    -- the groups behind that of a held source are joined to it
    module _ (a q : ℕ) (edge : HasEdge edges a b) (mark : mark_of s a ≡ Held q) where
      pub merged_grouped : IsGrouped nodes edges (merged s q)
      merged_grouped = record {
        wide = h.wide;
        long = h.long;
        listed = h.listed;
        held_at = h.held_at;
        at_held = h.at_held;
        linked = relinked edges s.roots (up_to q s.roots) q b s.held (λ r m. up_to_cases q s.roots r m) (λ x m k. spans edges s.roots s.held h.linked p roots_top m b x at k)
            (λ x m k le. leads_on edges x a b (down edges s.roots s.held h.linked q m a x (h.at_held a q mark) k le) (inr ([], edge))) h.linked;
        path_falls = h.path_falls;
        roots_fall = falls_up_to (length s.held) q s.roots h.roots_fall;
        roots_begun = λ r m. h.roots_begun r (up_to_among q s.roots r m);
        emptied = h.emptied;
        fresh = h.fresh;
        kept = λ x y m e k. elim (h.kept x y m e k) [ inl i ↦ inl i | inr i ↦ inr (met_with m s.roots (up_to q s.roots) (mark_of s x) (λ r l. inl (up_to_among q s.roots r l)) i) ];
        forward = h.forward;
        numbered = h.numbered;
        together = h.together;
        counted = h.counted;
      }

    -- the last group is settled
    module _ (roots : List ℕ) (root : s.roots ≡ p ∷ roots) (none : row_of s b ≡ []) where
      abbrev pub after : State
      after = record s { marks = all_settled s.count s.marks (above p s.held); path = rest; roots = roots; held = below p s.held; count = s.count + 1 }

      low : length (below p s.held) ≡ p
      low = length_below p s.held (omega (arith, falls.0))

      root_in : Among p s.roots
      root_in = subst (Among p) (sym root) (inl refl)

      roots_below : Falls p roots
      roots_below = let f : Falls (length s.held) (p ∷ roots) = subst (Falls (length s.held)) root h.roots_fall in f.1

      roots_were : (r : ℕ) → Among r roots → Among r s.roots
      roots_were r m = subst (Among r) (sym root) (inr m)

      roots_stay : (r : ℕ) → r < p → Among r s.roots → Among r roots
      roots_stay r lt m = elim (subst (Among r) root m) [ inl q ↦ absurd (omega (arith, lt, q)) | inr k ↦ k ]

      one_place : (x m n : ℕ) → mark_of s x ≡ Held m → At s.held n x → m ≡ n
      one_place x m n e k = let f = (h.held_at x n k).1 in cc

      -- a node is settled now, or its mark is as it was
      told : (x : ℕ) → ((mark_of after x ≡ Settled s.count) × ((m : ℕ) × At s.held m x × (p ≤ m))) ⊎ ((mark_of after x ≡ mark_of s x) × ((m : ℕ) → At s.held m x → m < p))
      told x = tell (mark_of s x) refl
        where
          wide : (y : ℕ) → Among y (above p s.held) → y < length s.marks
          wide y m = let k = above_at p s.held y m in let l = (h.held_at y k.0 k.1).0 in omega (arith, h.long, l)

          out : ((m : ℕ) → At s.held m x → m < p) → mark_of after x ≡ mark_of s x
          out f = settled_out s.count x (above p s.held) s.marks (λ m. let k = above_at p s.held x m in let l = f k.0 k.1 in omega (arith, l, k.2))

          tell : (v : Standing) → mark_of s x ≡ v → ((mark_of after x ≡ Settled s.count) × ((m : ℕ) × At s.held m x × (p ≤ m))) ⊎ ((mark_of after x ≡ mark_of s x) × ((m : ℕ) → At s.held m x → m < p))
          tell New e = let f : (m : ℕ) → At s.held m x → m < p = (λ m k. let g = (h.held_at x m k).1 in cc) in inr (out f, f)
          tell (Held q) e = elim (leb_tells p q) [
            | inl l ↦ inl (settled_in s.count x (above p s.held) s.marks wide (inr (at_above p s.held q x (h.at_held x q e) l.1)), (q, h.at_held x q e, l.1))
            | inr l ↦ let f : (m : ℕ) → At s.held m x → m < p = (λ m k. omega (arith, one_place x q m e k, l.1)) in inr (out f, f)
          ]
          tell (Settled n) e = let f : (m : ℕ) → At s.held m x → m < p = (λ m k. let g = (h.held_at x m k).1 in cc) in inr (out f, f)

      -- an older mark of another kind
      was_new : (x : ℕ) → mark_of after x ≡ New → mark_of s x ≡ New
      was_new x e = elim (told x) [ inl i ↦ let f = i.0 in cc | inr o ↦ sym o.0 ∙ e ]

      stays_settled : (x n : ℕ) → mark_of s x ≡ Settled n → mark_of after x ≡ Settled n
      stays_settled x n e = elim (told x) [ inl i ↦ let f = (h.held_at x i.1.0 i.1.1).1 in cc | inr o ↦ o.0 ∙ e ]

      -- each source of a node of the group is settled by now
      source : (x y m : ℕ) → HasEdge edges x y → At s.held m y → p ≤ m → IsSettledBy s.count (mark_of after x)
      source x y m e k le = elim (h.kept x y m e k) [ inl i ↦ absurd (no_row i) | inr i ↦ tell (mark_of s x) refl i ]
        where
          no_row : Among x (row_of s y) → ⊥
          no_row i = elim (h.emptied y m k) [
            | inl q ↦ subst (Among x) q i
            | inr o ↦ elim (path_top m o) [
              | inl q ↦ subst (Among x) (ap (row_of s) (at_same s.held m y b k (subst (λ (v : ℕ). At s.held v b) q at)) ∙ none) i
              | inr j ↦ let l = falls_less p rest m falls.1 j in absurd (omega (arith, l, le))
            ]
          ]

          tell : (v : Standing) → mark_of s x ≡ v → IsMet s.roots m v → IsSettledBy s.count (mark_of after x)
          tell New f i = absurd i
          tell (Held q) f i = elim (i p root_in) [
            | inl l ↦ elim (told x) [ inl j ↦ rw (j.0) (omega arith) | inr o ↦ let t = o.1 q (h.at_held x q f) in absurd (omega (arith, t, l)) ]
            | inr l ↦ absurd (omega (arith, l, le))
          ]
          tell (Settled n) f i = rw (stays_settled x n f) (let l = h.numbered x n f in omega (arith, l))

      settles : (n x : ℕ) (v : Standing) → mark_of s x ≡ v → IsSettledBy n v → IsSettledBy n (mark_of after x)
      settles n x New e i = absurd i
      settles n x (Held q) e i = absurd i
      settles n x (Settled k) e i = rw (stays_settled x k e) i

      met_still : (x m : ℕ) (v : Standing) → mark_of s x ≡ v → IsMet s.roots m v → IsMet roots m (mark_of after x)
      met_still x m New e i = absurd i
      met_still x m (Held q) e i = elim (told x) [ inl j ↦ rw (j.0) tt | inr o ↦ rw (o.0, e) (λ r k. i r (roots_were r k)) ]
      met_still x m (Settled n) e i = rw (stays_settled x n e) tt

      pub settled_grouped : IsGrouped nodes edges after
      settled_grouped = record {
        wide = h.wide;
        long = length-all_settled s.count (above p s.held) s.marks ∙ h.long;
        listed = h.listed;
        held_at = λ x m k. let i = at_below p s.held m x k in let o = h.held_at x m i.0 in
            (o.0, elim (told x) [ inl j ↦ let f = one_place x m j.1.0 o.1 j.1.1 in absurd (omega (arith, f, i.1, j.1.2)) | inr t ↦ t.0 ∙ o.1 ]);
        at_held = λ x m e. elim (told x) [ inl j ↦ let f = j.0 in cc | inr t ↦ let k = h.at_held x m (sym t.0 ∙ e) in below_at p s.held m x k (t.1 m k) ];
        linked = linked_with edges s.roots roots (below p s.held) (λ r lt m. roots_stay r (omega (arith, lt, low)) m) (linked_below edges s.roots p s.held h.linked);
        path_falls = subst (λ (n : ℕ). Falls n rest) (sym low) falls.1;
        roots_fall = subst (λ (n : ℕ). Falls n roots) (sym low) roots_below;
        roots_begun = λ r m. elim (path_top r (h.roots_begun r (roots_were r m))) [ inl q ↦ let l = falls_less p roots r roots_below m in absurd (omega (arith, l, q)) | inr k ↦ k ];
        emptied = λ x m k. let i = at_below p s.held m x k in elim (h.emptied x m i.0) [ inl e ↦ inl e | inr o ↦ elim (path_top m o) [ inl q ↦ absurd (omega (arith, i.1, q)) | inr j ↦ inr j ] ];
        fresh = λ x y e m. h.fresh x y e (was_new y m);
        kept = λ x y m e k. let i = at_below p s.held m y k in elim (h.kept x y m e i.0) [ inl j ↦ inl j | inr j ↦ inr (met_still x m (mark_of s x) refl j) ];
        forward = λ x y n e m. elim (told y) [
          | inl j ↦ let f : n ≡ s.count = (let g = j.0 in cc) in subst (λ (v : ℕ). IsSettledBy v (mark_of after x)) (sym f) (source x y j.1.0 e j.1.1 j.1.2)
          | inr o ↦ settles n x (mark_of s x) refl (h.forward x y n e (sym o.0 ∙ m))
        ];
        numbered = λ x n m. elim (told x) [ inl j ↦ let f : n ≡ s.count = (let g = j.0 in cc) in omega (arith, f) | inr o ↦ let l = h.numbered x n (sym o.0 ∙ m) in omega (arith, l) ];
        together = λ x y n m k. elim (told x) [
          | inl i ↦ elim (told y) [
            | inl j ↦ leads_on edges x b y (down edges s.roots s.held h.linked p i.1.0 b x at i.1.1 i.1.2) (spans edges s.roots s.held h.linked p roots_top j.1.0 b y at j.1.1)
            | inr o ↦ let f : n ≡ s.count = (let g = i.0 in cc) in let l = h.numbered y n (sym o.0 ∙ k) in absurd (omega (arith, f, l))
          ]
          | inr i ↦ elim (told y) [
            | inl j ↦ let f : n ≡ s.count = (let g = j.0 in cc) in let l = h.numbered x n (sym i.0 ∙ m) in absurd (omega (arith, f, l))
            | inr o ↦ h.together x y n (sym i.0 ∙ m) (sym o.0 ∙ k)
          ]
        ];
        counted = omega (arith, h.counted, low, falls.0, all_fewer_new s.count (above p s.held) s.marks);
      }

      pub settled_step : IsStep nodes edges s after
      settled_step = record {
        grouped = settled_grouped;
        less = let e : length s.path ≡ length (p ∷ rest) = ap length is in omega (arith, e, all_fewer_new s.count (above p s.held) s.marks);
        grows = λ x l old m. old (was_new x m);
      }

-- the groups behind that of a held source are joined to it, and the edge is left out
pub joined_step : (nodes : ℕ) (edges : List (ℕ × ℕ)) (s : State) (h : IsGrouped nodes edges s) (b p : ℕ) (rest : List ℕ) (is : s.path ≡ p ∷ rest) (at : At s.held p b) (a q : ℕ)
    → HasEdge edges a b → mark_of s a ≡ Held q → (more : List ℕ) → row_of s b ≡ a ∷ more → IsStep nodes edges s (skipped (merged s q) b more)
joined_step nodes edges s h b p rest is at a q edge mark more e =
    let i = skipped_step nodes edges (merged s q) (merged_grouped nodes edges s h b p rest is at a q edge mark) a b p more at (on_path nodes edges s h b p rest is at) e
    (rw mark (λ r m. inl (up_to_le (length s.held) q s.roots r h.roots_fall m))) in
    record { grouped = i.grouped; less = i.less; grows = i.grows }

-- once nothing is held, the marks tell the components
module _ (nodes : ℕ) (edges : List (ℕ × ℕ)) (s : State) (h : IsGrouped nodes edges s) (idle : s.path ≡ []) where
  pub none_held : s.held ≡ []
  none_held = nothing_held edges s.roots s.held h.linked (λ r m. subst (Among r) idle (h.roots_begun r m))

  pub link_idle : (a : ℕ) → IsLinked edges (length s.held ∷ s.roots) (a ∷ s.held)
  link_idle a = link_first edges s.roots s.held a none_held

  module _ (met : (a : ℕ) → a < nodes → mark_of s a ≢ New) (all : AreNodes nodes edges) where
    number : ℕ → ℕ
    number a = slice_index (map number_of s.marks) a

    told_number : (a : ℕ) → a < nodes → (n : ℕ) × (mark_of s a ≡ Settled n) × (slice_index (map number_of s.marks) a ≡ n)
    told_number a lt = tell (mark_of s a) refl
      where
        tell : (m : Standing) → mark_of s a ≡ m → (n : ℕ) × (mark_of s a ≡ Settled n) × (slice_index (map number_of s.marks) a ≡ n)
        tell New e = absurd (met a lt e)
        tell (Held p) e = absurd (subst (λ (xs : List ℕ). At xs p a) none_held (h.at_held a p e))
        tell (Settled n) e = (n, e, get_or-map number_of s.marks a New 0 (omega (arith, h.long, lt)) ∙ ap number_of e)

    inside : (a b : ℕ) → HasEdge edges a b → (a < nodes) × (b < nodes)
    inside a b e = All-contains (λ (p : ℕ × ℕ). (p.0 < nodes) × (p.1 < nodes)) edges (a, b) all e

    rises : (a b : ℕ) → HasEdge edges a b → slice_index (map number_of s.marks) a ≤ slice_index (map number_of s.marks) b
    rises a b e =
        let i = inside a b e in let m = told_number a i.0 in let n = told_number b i.1 in
        let f : IsSettledBy n.0 (Settled m.0) = subst (IsSettledBy n.0) m.1 (h.forward a b n.0 e n.1) in omega (arith, f, m.2, n.2)

    rises_along : (through : List ℕ) (a b : ℕ) → IsWalk edges a through b → slice_index (map number_of s.marks) a ≤ slice_index (map number_of s.marks) b
    rises_along [] a b w = rises a b w
    rises_along (c ∷ through) a b w = omega (arith, rises a c w.0, rises_along through c b w.1)

    pub are_components : AreComponents nodes edges (map number_of s.marks)
    are_components = record {
      long = length-map s.marks number_of ∙ h.long;
      together = λ a b la lb e. let m = told_number a la in let n = told_number b lb in
          h.together a b n.0 (m.1 ∙ ap (λ (v : ℕ). Settled v) (sym m.2 ∙ e ∙ n.2)) n.1;
      apart = λ a b la lb r t. omega (arith, rises_along r.0 a b r.1, rises_along t.0 b a t.1);
      forward = rises;
    }

-- nodes are released one by one
pub release_next : (s mid new : State) (p node : ℕ) → p < length s.held → Some node ≡ first_of s.held → mid ≡ record s { held = rest_of s.held }
    → new ≡ record mid { marks = set mid.marks node (Settled mid.count) } → released new p ≡ released s p
release_next s mid new p node lt e m n =
    let t : s.held ≡ node ∷ rest_of s.held = begins s.held node (sym e) in let l : length s.held ≡ length (node ∷ rest_of s.held) = ap length t in
    rw (n, m) (sym (told (rest_of s.held) t (omega (arith, lt, l))))
  where
    told : (rest : List ℕ) → s.held ≡ node ∷ rest → p ≤ length rest → released s p ≡ released (record s { held = rest; marks = set s.marks node (Settled s.count) }) p
    told rest t le = rw (t, above_cons p node rest le, below_cons p node rest le) refl

pub release_inside : (s mid new : State) (p node : ℕ) → ((q a : ℕ) → At s.held q a → a < length s.marks) → mid ≡ record s { held = rest_of s.held }
    → new ≡ record mid { marks = set mid.marks node (Settled mid.count) } → (q a : ℕ) → At new.held q a → a < length new.marks
release_inside s mid new p node f m n q a k = rw (n, m) (omega (arith, length-set s.marks node (Settled s.count), f q a (behind s.held (rw (n, m) at k))))
  where
    behind : (xs : List ℕ) → At (rest_of xs) q a → At xs q a
    behind [] k = k
    behind (x ∷ xs) k = inr k

pub release_first : (s mid : State) (node : ℕ) → ((q a : ℕ) → At s.held q a → a < length s.marks) → Some node ≡ first_of s.held → mid ≡ record s { held = rest_of s.held } → node < length mid.marks
release_first s mid node f e m = rw m (f (length (rest_of s.held)) node (subst (λ (xs : List ℕ). At xs (length (rest_of s.held)) node) (sym (begins s.held node (sym e))) (inl (refl, refl))))

pub released_none : (s : State) (p : ℕ) → length s.held ≤ p → released s p ≡ s
released_none s p le = rw (above_none p s.held le, below_none p s.held le) refl

-- the facts of one turn, by what it met
module _ (nodes : ℕ) (edges : List (ℕ × ℕ)) (s : State) (h : IsGrouped nodes edges s) (b p : ℕ) (e : Some p ≡ first_of s.path) (at : At s.held p b) where
  top : s.path ≡ p ∷ rest_of s.path
  top = begins s.path p (sym e)

  module _ (all : AreNodes nodes edges) (a : ℕ) (n : Some a ≡ first_of (row_of s b)) where
    row : row_of s b ≡ a ∷ rest_of (row_of s b)
    row = begins (row_of s b) a (sym n)

    edge : HasEdge edges a b
    edge = h.listed a b (subst (Among a) (sym row) (inl refl))

    pub source_inside : a < nodes
    source_inside = (All-contains (λ (p : ℕ × ℕ). (p.0 < nodes) × (p.1 < nodes)) edges (a, b) all edge).0

    pub along_new : mark_of s a ≡ New → (new : State) → new ≡ entered s a → IsStep nodes edges s new
    along_new m new q = rw q (entered_step nodes edges s h a source_inside m (link nodes edges s h b p (rest_of s.path) top at a edge))

    pub along_held : (place : ℕ) → mark_of s a ≡ Held place → (mid new : State) → mid ≡ merged s place → new ≡ skipped mid b (rest_of (row_of mid b)) → IsStep nodes edges s new
    along_held place m mid new q t = rw (t, q) (joined_step nodes edges s h b p (rest_of s.path) top at a place edge m (rest_of (row_of s b)) row)

    pub along_settled : (k : ℕ) → mark_of s a ≡ Settled k → (new : State) → new ≡ skipped s b (rest_of (row_of s b)) → IsStep nodes edges s new
    along_settled k m new t = rw t (skipped_step nodes edges s h a b p (rest_of (row_of s b)) at (on_path nodes edges s h b p (rest_of s.path) top at) row (rw m tt))

  pub closed_settled : None ≡ first_of (row_of s b) → first_of s.roots ≡ Some p → (new : State) → new ≡ settled s p → IsStep nodes edges s new
  closed_settled n r new q = rw q (settled_step nodes edges s h b p (rest_of s.path) top at (rest_of s.roots) (begins s.roots p r) (is_empty (row_of s b) (sym n)))

  pub closed_left : None ≡ first_of (row_of s b) → (first_of s.roots ≡ Some p → ⊥) → (new : State) → new ≡ left s → IsStep nodes edges s new
  closed_left n r new q = rw q (left_step nodes edges s h b p (rest_of s.path) top at (is_empty (row_of s b) (sym n))
      (off_root (length s.held) p s.roots h.roots_fall (roots_top nodes edges s h b p (rest_of s.path) top at) r))

  pub marks_inside : (q a : ℕ) → At s.held q a → a < length s.marks
  marks_inside q a k = omega (arith, h.long, (h.held_at a q k).0)

  pub room : nodes < 2 ^ 32 → s.count + 1 < 2 ^ 32
  room lt = omega (arith, lt, h.counted, at_less s.held p b at)

-- the start at a new node
pub started : (nodes : ℕ) (edges : List (ℕ × ℕ)) (s new : State) (a : ℕ) → IsGrouped nodes edges s → s.path ≡ [] → a < nodes → mark_of s a ≡ New → new ≡ entered s a
    → IsGrouped nodes edges new × Grows nodes s new × (mark_of new a ≢ New)
started nodes edges s new a h idle lt m q = let i = entered_step nodes edges s h a lt m (link_idle nodes edges s h idle a) in
    rw q (i.grouped, i.grows, λ n. let o = get_or-set_same s.marks a (Held (length s.held)) New (omega (arith, lt, h.long)) in cc)
