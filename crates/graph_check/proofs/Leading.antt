-- Walks are joined, and held nodes lead to each other.
use Rattle.std.proofs.Common.{◌≡◌, ℕ, zero, suc, ◌<◌, ◌≤◌, List, [], ◌∷◌, ◌++◌, ◌⊎◌, inl, inr, length, get_or, reverse, refl, sym, ap, subst, ◌∙◌, arith, true, false, length-append}
use Rattle.std.proofs.lemmas.Bool.Decides.{leb_tells}
use Rattle.std.proofs.lemmas.Bool.{le-leb, eqb-true, eq-eqb}
use Rattle.std.specs.Prelude.{Option, Some, None}
use Rattle.std.specs.Option.{option_eq}
use lib.Dec.{eqb}
use Rattle.std.proofs.lemmas.List.{reverse-append}
use Rattle.graph_check.specs.Walks.{IsWalk, Reaches}
use Rattle.graph_check.specs.Among.{Among, first_of}
use Rattle.graph_check.specs.Components.{Leads}
use Rattle.graph_check.specs.Grouping.{At, above, below, up_to, Falls, IsLinked}

pub joined : (edges : List (ℕ × ℕ)) (first : List ℕ) (a b c : ℕ) (second : List ℕ) → IsWalk edges a first b → IsWalk edges b second c → IsWalk edges a (first ++ b ∷ second) c
joined edges [] a b c second w v = (w, v)
joined edges (d ∷ first) a b c second w v = (w.0, joined edges first d b c second w.1 v)

pub leads_on : (edges : List (ℕ × ℕ)) (a b c : ℕ) → Leads edges a b → Leads edges b c → Leads edges a c
leads_on edges a b c (inl q) l = subst (λ (v : ℕ). Leads edges v c) (sym q) l
leads_on edges a b c (inr r) (inl q) = inr (subst (λ (v : ℕ). Reaches edges a v) q r)
leads_on edges a b c (inr r) (inr t) = inr (r.0 ++ b ∷ t.0, joined edges r.0 a b c t.0 r.1 t.1)

-- places
pub at_less : (xs : List ℕ) (p a : ℕ) → At xs p a → p < length xs
at_less [] p a m = absurd m
at_less (x ∷ xs) p a (inl e) = omega (arith, e.0)
at_less (x ∷ xs) p a (inr m) = let l = at_less xs p a m in omega (arith, l)

pub at_same : (xs : List ℕ) (p a b : ℕ) → At xs p a → At xs p b → a ≡ b
at_same [] p a b m n = absurd m
at_same (x ∷ xs) p a b (inl e) (inl f) = sym e.1 ∙ f.1
at_same (x ∷ xs) p a b (inl e) (inr n) = let l = at_less xs p b n in absurd (omega (arith, l, e.0))
at_same (x ∷ xs) p a b (inr m) (inl f) = let l = at_less xs p a m in absurd (omega (arith, l, f.0))
at_same (x ∷ xs) p a b (inr m) (inr n) = at_same xs p a b m n

at_seam : (xs : List ℕ) (y : ℕ) → At (xs ++ y ∷ []) 0 y
at_seam [] y = inl (refl, refl)
at_seam (x ∷ xs) y = inr (at_seam xs y)

at_shift : (xs : List ℕ) (y p a : ℕ) → At xs p a → At (xs ++ y ∷ []) (suc p) a
at_shift [] y p a m = absurd m
at_shift (x ∷ xs) y p a (inl e) = inl (omega (arith, length-append xs (y ∷ []), e.0), e.1)
at_shift (x ∷ xs) y p a (inr m) = inr (at_shift xs y p a m)

pub at_get : (xs : List ℕ) (i x : ℕ) → i < length xs → x ≡ get_or xs i x → At (reverse xs) i x
at_get [] i x lt e = absurd (omega (arith, lt))
at_get (y ∷ xs) zero x lt e = rw (reverse-append (y ∷ []) xs) (subst (λ (v : ℕ). At (reverse xs ++ y ∷ []) 0 v) (sym e) (at_seam (reverse xs) y))
at_get (y ∷ xs) (suc i) x lt e = rw (reverse-append (y ∷ []) xs) (at_shift (reverse xs) y i x (at_get xs i x (omega (arith, lt)) e))

-- the nodes from a place on, and those before it
pub at_below : (p : ℕ) (xs : List ℕ) (m a : ℕ) → At (below p xs) m a → At xs m a × (m < p)
at_below p [] m a k = absurd k
at_below p (h ∷ rest) m a k = elim (leb_tells p (length rest)) [
  | inl e ↦ let i = at_below p rest m a (rw e.0 at k) in (inr i.0, i.1)
  | inr e ↦ let i : At (h ∷ rest) m a = rw e.0 at k in let l = at_less (h ∷ rest) m a i in (i, omega (arith, l, e.1))
]

pub below_at : (p : ℕ) (xs : List ℕ) (m a : ℕ) → At xs m a → m < p → At (below p xs) m a
below_at p [] m a k lt = absurd k
below_at p (h ∷ rest) m a k lt = elim (leb_tells p (length rest)) [
  | inl e ↦ rw e.0 (behind e.1 (λ i. below_at p rest m a i lt) k)
  | inr e ↦ rw e.0 k
]
  where
    behind : p ≤ length rest → (At rest m a → At (below p rest) m a) → At (h ∷ rest) m a → At (below p rest) m a
    behind le f (inl q) = absurd (omega (arith, le, q.0, lt))
    behind le f (inr i) = f i

pub above_at : (p : ℕ) (xs : List ℕ) (a : ℕ) → Among a (above p xs) → (m : ℕ) × At xs m a × (p ≤ m)
above_at p [] a k = absurd k
above_at p (h ∷ rest) a k = elim (leb_tells p (length rest)) [
  | inl e ↦ here e.1 (λ i. above_at p rest a i) (rw e.0 at k)
  | inr e ↦ absurd (rw e.0 at k)
]
  where
    here : p ≤ length rest → (Among a (above p rest) → (m : ℕ) × At rest m a × (p ≤ m)) → Among a (h ∷ above p rest) → (m : ℕ) × At (h ∷ rest) m a × (p ≤ m)
    here le f (inl q) = (length rest, inl (refl, q), le)
    here le f (inr k) = let i = f k in (i.0, inr i.1, i.2)

pub at_above : (p : ℕ) (xs : List ℕ) (m a : ℕ) → At xs m a → p ≤ m → Among a (above p xs)
at_above p [] m a k le = absurd k
at_above p (h ∷ rest) m a k le = elim (leb_tells p (length rest)) [
  | inl e ↦ rw e.0 (here (λ i. at_above p rest m a i le) k)
  | inr e ↦ let l = at_less (h ∷ rest) m a k in absurd (omega (arith, l, e.1, le))
]
  where
    here : (At rest m a → Among a (above p rest)) → At (h ∷ rest) m a → Among a (h ∷ above p rest)
    here f (inl q) = inl q.1
    here f (inr i) = inr (f i)

pub length_below : (p : ℕ) (xs : List ℕ) → p ≤ length xs → length (below p xs) ≡ p
length_below p [] le = omega (arith, le)
length_below p (h ∷ rest) le = elim (leb_tells p (length rest)) [
  | inl e ↦ rw e.0 (length_below p rest e.1)
  | inr e ↦ rw e.0 (omega (arith, le, e.1))
]

-- numbers that fall
pub falls_up : (m n : ℕ) (xs : List ℕ) → m ≤ n → Falls m xs → Falls n xs
falls_up m n [] le f = tt
falls_up m n (x ∷ xs) le f = (omega (arith, le, f.0), f.1)

pub falls_less : (n : ℕ) (xs : List ℕ) (a : ℕ) → Falls n xs → Among a xs → a < n
falls_less n [] a f m = absurd m
falls_less n (x ∷ xs) a f (inl q) = omega (arith, f.0, q)
falls_less n (x ∷ xs) a f (inr m) = let l = falls_less x xs a f.1 m in omega (arith, f.0, l)

pub falls_up_to : (n p : ℕ) (xs : List ℕ) → Falls n xs → Falls n (up_to p xs)
falls_up_to n p [] f = tt
falls_up_to n p (x ∷ xs) f = elim (leb_tells x p) [
  | inl e ↦ rw e.0 f
  | inr e ↦ rw e.0 (falls_up_to n p xs (falls_up x n xs (omega (arith, f.0)) f.1))
]

pub up_to_among : (p : ℕ) (xs : List ℕ) (a : ℕ) → Among a (up_to p xs) → Among a xs
up_to_among p [] a m = m
up_to_among p (x ∷ xs) a m = elim (leb_tells x p) [
  | inl e ↦ rw e.0 at m
  | inr e ↦ inr (up_to_among p xs a (rw e.0 at m))
]

pub up_to_le : (n p : ℕ) (xs : List ℕ) (a : ℕ) → Falls n xs → Among a (up_to p xs) → a ≤ p
up_to_le n p [] a f m = absurd m
up_to_le n p (x ∷ xs) a f m = elim (leb_tells x p) [
  | inl e ↦ here e.1 (rw e.0 at m)
  | inr e ↦ up_to_le x p xs a f.1 (rw e.0 at m)
]
  where
    here : x ≤ p → Among a (x ∷ xs) → a ≤ p
    here le (inl q) = omega (arith, le, q)
    here le (inr k) = let l = falls_less x xs a f.1 k in omega (arith, le, l)

pub up_to_cases : (p : ℕ) (xs : List ℕ) (a : ℕ) → Among a xs → Among a (up_to p xs) ⊎ (p < a)
up_to_cases p [] a m = absurd m
up_to_cases p (x ∷ xs) a m = elim (leb_tells x p) [
  | inl e ↦ inl (rw e.0 m)
  | inr e ↦ rw e.0 (behind e.1 (λ k. up_to_cases p xs a k) m)
]
  where
    behind : p < x → (Among a xs → Among a (up_to p xs) ⊎ (p < a)) → Among a (x ∷ xs) → Among a (up_to p xs) ⊎ (p < a)
    behind lt f (inl q) = inr (omega (arith, lt, q))
    behind lt f (inr k) = f k

-- groups of held nodes
module _ (edges : List (ℕ × ℕ)) (roots : List ℕ) where
  tail_linked : (x : ℕ) (xs : List ℕ) → IsLinked edges roots (x ∷ xs) → IsLinked edges roots xs
  tail_linked x [] l = tt
  tail_linked x (y ∷ xs) l = l.2

  pub root_begins : (x : ℕ) (xs : List ℕ) → IsLinked edges roots (x ∷ xs) → Among 0 roots
  root_begins x [] l = l
  root_begins x (y ∷ xs) l = root_begins y xs l.2

  pub linked_with : (more : List ℕ) (xs : List ℕ) → ((r : ℕ) → r < length xs → Among r roots → Among r more) → IsLinked edges roots xs → IsLinked edges more xs
  linked_with more [] f l = tt
  linked_with more (x ∷ []) f l = f 0 (omega arith) l
  linked_with more (x ∷ y ∷ xs) f l = (l.0, pair l.1, linked_with more (y ∷ xs) (λ r lt m. f r (omega (arith, lt)) m) l.2)
    where
      pair : Among (length (y ∷ xs)) roots ⊎ Leads edges y x → Among (length (y ∷ xs)) more ⊎ Leads edges y x
      pair (inl m) = inl (f (length (y ∷ xs)) (omega arith) m)
      pair (inr k) = inr k

  pub linked_below : (p : ℕ) (xs : List ℕ) → IsLinked edges roots xs → IsLinked edges roots (below p xs)
  linked_below p [] l = tt
  linked_below p (x ∷ xs) l = elim (leb_tells p (length xs)) [
    | inl e ↦ rw e.0 (linked_below p xs (tail_linked x xs l))
    | inr e ↦ rw e.0 l
  ]

  -- fewer roots, where each one that is left out lies behind a place whose node is led to
  pub relinked : (fewer : List ℕ) (q b : ℕ) (xs : List ℕ) → ((r : ℕ) → Among r roots → Among r fewer ⊎ (q < r)) → ((x m : ℕ) → At xs m x → Leads edges b x)
      → ((x m : ℕ) → At xs m x → q ≤ m → Leads edges x b) → IsLinked edges roots xs → IsLinked edges fewer xs
  relinked fewer q b [] u t d l = tt
  relinked fewer q b (x ∷ []) u t d l = elim (u 0 l) [ inl m ↦ m | inr lt ↦ absurd (omega (arith, lt)) ]
  relinked fewer q b (x ∷ y ∷ xs) u t d l = (l.0, pair l.1, relinked fewer q b (y ∷ xs) u (λ z m k. t z m (inr k)) (λ z m k. d z m (inr k)) l.2)
    where
      pair : Among (length (y ∷ xs)) roots ⊎ Leads edges y x → Among (length (y ∷ xs)) fewer ⊎ Leads edges y x
      pair (inl m) = elim (u (length (y ∷ xs)) m) [
        | inl k ↦ inl k
        | inr lt ↦ inr (leads_on edges y b x (d y (length xs) (inr (inl (refl, refl))) (omega (arith, lt))) (t x (length (y ∷ xs)) (inl (refl, refl))))
      ]
      pair (inr k) = inr k

  pub down : (xs : List ℕ) → IsLinked edges roots xs → (p q a b : ℕ) → At xs p a → At xs q b → p ≤ q → Leads edges b a
  down [] l p q a b m n le = absurd m
  down (x ∷ []) l p q a b (inl e) (inl f) le = inl (sym f.1 ∙ e.1)
  down (x ∷ []) l p q a b (inl e) (inr n) le = absurd n
  down (x ∷ []) l p q a b (inr m) n le = absurd m
  down (x ∷ y ∷ xs) l p q a b (inl e) (inl f) le = inl (sym f.1 ∙ e.1)
  down (x ∷ y ∷ xs) l p q a b (inl e) (inr n) le = let k = at_less (y ∷ xs) q b n in absurd (omega (arith, k, e.0, le))
  down (x ∷ y ∷ xs) l p q a b (inr m) (inl f) le =
      let k = at_less (y ∷ xs) p a m in
      subst (λ (v : ℕ). Leads edges v a) f.1 (leads_on edges x y a l.0 (down (y ∷ xs) l.2 p (length xs) a y m (inl (refl, refl)) (omega (arith, k))))
  down (x ∷ y ∷ xs) l p q a b (inr m) (inr n) le = down (y ∷ xs) l.2 p q a b m n le

  pub up : (xs : List ℕ) → IsLinked edges roots xs → (p : ℕ) → ((r : ℕ) → Among r roots → r ≤ p) → (q a b : ℕ) → At xs p a → At xs q b → p ≤ q → Leads edges a b
  up [] l p top q a b m n le = absurd m
  up (x ∷ []) l p top q a b (inl e) (inl f) le = inl (sym e.1 ∙ f.1)
  up (x ∷ []) l p top q a b (inl e) (inr n) le = absurd n
  up (x ∷ []) l p top q a b (inr m) n le = absurd m
  up (x ∷ y ∷ xs) l p top q a b (inl e) (inl f) le = inl (sym e.1 ∙ f.1)
  up (x ∷ y ∷ xs) l p top q a b (inl e) (inr n) le = let k = at_less (y ∷ xs) q b n in absurd (omega (arith, k, e.0, le))
  up (x ∷ y ∷ xs) l p top q a b (inr m) (inl f) le =
      let k = at_less (y ∷ xs) p a m in
      subst (λ (v : ℕ). Leads edges a v) f.1 (leads_on edges a y x (up (y ∷ xs) l.2 p top (length xs) a y m (inl (refl, refl)) (omega (arith, k))) (back k l.1))
    where
      back : p < length (y ∷ xs) → Among (length (y ∷ xs)) roots ⊎ Leads edges y x → Leads edges y x
      back lt (inl r) = absurd (omega (arith, lt, top (length (y ∷ xs)) r))
      back lt (inr k) = k
  up (x ∷ y ∷ xs) l p top q a b (inr m) (inr n) le = up (y ∷ xs) l.2 p top q a b m n le

  -- the node of the last group leads to each held node
  pub spans : (xs : List ℕ) → IsLinked edges roots xs → (p : ℕ) → ((r : ℕ) → Among r roots → r ≤ p) → (q a b : ℕ) → At xs p a → At xs q b → Leads edges a b
  spans xs l p top q a b m n = elim (leb_tells p q) [ inl e ↦ up xs l p top q a b m n e.1 | inr e ↦ down xs l q p b a n m (omega (arith, e.1)) ]

-- one node more is taken from the nodes of a place on
pub above_cons : (p x : ℕ) (xs : List ℕ) → p ≤ length xs → above p (x ∷ xs) ≡ x ∷ above p xs
above_cons p x xs le = rw (le-leb p (length xs) le) refl

pub below_cons : (p x : ℕ) (xs : List ℕ) → p ≤ length xs → below p (x ∷ xs) ≡ below p xs
below_cons p x xs le = rw (le-leb p (length xs) le) refl

pub above_none : (p : ℕ) (xs : List ℕ) → length xs ≤ p → above p xs ≡ []
above_none p [] le = refl
above_none p (x ∷ xs) le = elim (leb_tells p (length xs)) [ inl e ↦ absurd (omega (arith, e.1, le)) | inr e ↦ rw e.0 refl ]

pub below_none : (p : ℕ) (xs : List ℕ) → length xs ≤ p → below p xs ≡ xs
below_none p [] le = refl
below_none p (x ∷ xs) le = elim (leb_tells p (length xs)) [ inl e ↦ absurd (omega (arith, e.1, le)) | inr e ↦ rw e.0 refl ]

-- a place that is no last root is none, where each root is at or before it
pub off_root : (n p : ℕ) (roots : List ℕ) → Falls n roots → ((r : ℕ) → Among r roots → r ≤ p) → (first_of roots ≡ Some p → ⊥) → Among p roots → ⊥
off_root n p [] f top never m = m
off_root n p (x ∷ xs) f top never (inl q) = never (ap (λ (v : ℕ). Some v) q)
off_root n p (x ∷ xs) f top never (inr m) = omega (arith, falls_less x xs p f.1 m, top x (inl refl))

-- what a test of an optional number tells
pub same_some : (o : Option ℕ) (p : ℕ) → option_eq eqb o (Some p) ≡ true → o ≡ Some p
same_some None p e = cc
same_some (Some x) p e = ap (λ (v : ℕ). Some v) (eqb-true x p e)

pub other_some : (o : Option ℕ) (p : ℕ) → option_eq eqb o (Some p) ≡ false → o ≡ Some p → ⊥
other_some None p e q = cc
other_some (Some x) p e q = let i : x ≡ p = cc in let t = eq-eqb x p i in cc
