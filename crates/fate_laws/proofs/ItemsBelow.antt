-- Counting the items below a scope, and those of the attempts of one activity.
use Rattle.std.proofs.Common.{◌≡◌, ℕ, ◌+◌, ◌≤◌, ◌<◌, Bool, true, false, ◌&&◌, if◌then◌else◌, List, [], ◌∷◌, map, length, refl, sym, Some, None, ◌⊎◌, arith, inl, inr}
use Rattle.std.proofs.lemmas.Bool.Decides.{leb_tells}
use Rattle.std.proofs.lemmas.Slice.Eq.{bytes_eq-Decides}
use Rattle.std.specs.Prelude.{bytes_eq, nat_le}
use Rattle.flow_model.specs.declared.graphs.Container.{Container}
use Rattle.flow_model.specs.declared.instances.Fact.{Fact}
use Rattle.flow_model.specs.declared.instances.Part.{Part}
use Rattle.flow_model.specs.declared.names.Name.{Name}
use Rattle.flow_model.specs.Rows.{same_part, same_parts, output_of}
use Rattle.flow_model.specs.Scopes.{Known, at, part}
use Rattle.fate_laws.specs.Causes.{HasGiven}
use Rattle.fate_laws.proofs.Items.{part_itself, part_one, parts_one}

abbrev pub Among : List Part → List (List Part) → Type 0
Among p [] = ⊥
Among p (x ∷ xs) = (x ≡ p) ⊎ Among p xs

-- whatever is given, is given for one of these items
abbrev pub Covers : Known → List (List Part) → Type 0
Covers k items = (p : List Part) (o : Container) → k.given p ≡ Some o → Among p items

-- ---- the items below a part

abbrev pub stripped : Part → List Part → List (List Part) → List (List Part)
stripped q [] rest = rest
stripped q (p ∷ ps) rest = if same_part q p then ps ∷ rest else rest

abbrev pub strip : Part → List (List Part) → List (List Part)
strip q [] = []
strip q (x ∷ xs) = stripped q x (strip q xs)

later : (q : Part) (x p : List Part) (rest : List (List Part)) → Among p rest → Among p (stripped q x rest)
later q [] p rest h = h
later q (y ∷ ys) p rest h = go (same_part q y) refl
  where
    go : (b : Bool) → same_part q y ≡ b → Among p (stripped q (y ∷ ys) rest)
    go true is = rw is (inr h)
    go false is = rw is h

pub among_strip : (q : Part) (p : List Part) (xs : List (List Part)) → Among (q ∷ p) xs → Among p (strip q xs)
among_strip q p [] h = absurd h
among_strip q p (x ∷ xs) (inl is) = rw is (rw (part_itself q) (inl refl))
among_strip q p (x ∷ xs) (inr h) = later q x p (strip q xs) (among_strip q p xs h)

strip_one : (q : Part) (x : List Part) (rest : List (List Part)) → length (stripped q x rest) ≤ 1 + length rest
strip_one q [] rest = omega arith
strip_one q (y ∷ ys) rest = go (same_part q y)
  where
    go : (b : Bool) → length (if b then ys ∷ rest else rest) ≤ 1 + length rest
    go true = omega arith
    go false = omega arith

pub strip_at_most : (q : Part) (xs : List (List Part)) → length (strip q xs) ≤ length xs
strip_at_most q [] = omega arith
strip_at_most q (x ∷ xs) = let here = strip_one q x (strip q xs) in let rest = strip_at_most q xs in omega arith

pub covers_at : (k : Known) (items : List (List Part)) (q : Part) → Covers k items → Covers (at q k) (strip q items)
covers_at k items q covers = λ p o h. among_strip q p items (covers (q ∷ p) o h)

-- ---- the items of an activity, from an attempt on

abbrev pub one_from : Name → ℕ → List Part → ℕ
one_from name j [] = 0
one_from name j (p ∷ ps) = if bytes_eq p.name name && nat_le j p.attempt then 1 else 0

abbrev pub count_from : Name → ℕ → List (List Part) → ℕ
count_from name j [] = 0
count_from name j (x ∷ xs) = one_from name j x + count_from name j xs

one_at_most : (name : Name) (j : ℕ) (x : List Part) → one_from name j x ≤ 1
one_at_most name j [] = omega arith
one_at_most name j (p ∷ ps) = go (bytes_eq p.name name && nat_le j p.attempt)
  where
    go : (b : Bool) → (if b then 1 else 0) ≤ 1
    go true = omega arith
    go false = omega arith

pub count_at_most : (name : Name) (j : ℕ) (xs : List (List Part)) → count_from name j xs ≤ length xs
count_at_most name j [] = omega arith
count_at_most name j (x ∷ xs) = let here = one_at_most name j x in let rest = count_at_most name j xs in omega arith

one_later : (name : Name) (j : ℕ) (x : List Part) → one_from name (j + 1) x ≤ one_from name j x
one_later name j [] = omega arith
one_later name j (p ∷ ps) = go (bytes_eq p.name name) (leb_tells (j + 1) p.attempt) (leb_tells j p.attempt)
  where
    go : (b : Bool) → ((nat_le (j + 1) p.attempt ≡ true) × (j + 1 ≤ p.attempt)) ⊎ ((nat_le (j + 1) p.attempt ≡ false) × (p.attempt < j + 1))
        → ((nat_le j p.attempt ≡ true) × (j ≤ p.attempt)) ⊎ ((nat_le j p.attempt ≡ false) × (p.attempt < j))
        → (if b && nat_le (j + 1) p.attempt then 1 else 0) ≤ (if b && nat_le j p.attempt then 1 else 0)
    go false u v = omega arith
    go true (inr u) v = rw u.0 (omega arith)
    go true (inl u) (inl v) = rw (u.0, v.0) (omega arith)
    go true (inl u) (inr v) = absurd (omega (arith, u.1, v.1))

one_split : (name : Name) (j : ℕ) (x : List Part) (rest : List (List Part))
    → length (stripped (part name j) x rest) + one_from name (j + 1) x ≤ length rest + one_from name j x
one_split name j [] rest = omega arith
one_split name j (p ∷ ps) rest = go (same_part (part name j) p) refl
  where
    this : (t : Part) → t ≡ part name j → (one_from name (j + 1) (t ∷ ps) ≡ 0) × (one_from name j (t ∷ ps) ≡ 1)
    this t is = rw is (none (leb_tells (j + 1) j), some (leb_tells j j))
      where
        itself : bytes_eq name name ≡ true
        itself = (bytes_eq-Decides name name).1 refl

        none : ((nat_le (j + 1) j ≡ true) × (j + 1 ≤ j)) ⊎ ((nat_le (j + 1) j ≡ false) × (j < j + 1)) → one_from name (j + 1) (part name j ∷ ps) ≡ 0
        none (inl u) = absurd (omega (arith, u.1))
        none (inr u) = rw (itself, u.0) refl

        some : ((nat_le j j ≡ true) × (j ≤ j)) ⊎ ((nat_le j j ≡ false) × (j < j)) → one_from name j (part name j ∷ ps) ≡ 1
        some (inl u) = rw (itself, u.0) refl
        some (inr u) = absurd (omega (arith, u.1))

    go : (b : Bool) → same_part (part name j) p ≡ b → length (stripped (part name j) (p ∷ ps) rest) + one_from name (j + 1) (p ∷ ps) ≤ length rest + one_from name j (p ∷ ps)
    go true is =
        let counts = this p (sym (part_one (part name j) p is)) in
        let none : one_from name (j + 1) (p ∷ ps) ≡ 0 = counts.0 in
        let some : one_from name j (p ∷ ps) ≡ 1 = counts.1 in
        rw is (omega arith)
    go false is = let less = one_later name j (p ∷ ps) in rw is (omega arith)

pub count_split : (name : Name) (j : ℕ) (xs : List (List Part)) → length (strip (part name j) xs) + count_from name (j + 1) xs ≤ count_from name j xs
count_split name j [] = omega arith
count_split name j (x ∷ xs) =
    let here = one_split name j x (strip (part name j) xs) in
    let rest = count_split name j xs in
    omega arith

-- ---- the items of completions

abbrev pub items_of : List Fact → List (List Part)
items_of fs = map (λ f. f.item.parts) fs

pub facts_cover : (fs : List Fact) (p : List Part) (o : Container) → output_of fs p ≡ Some o → Among p (items_of fs)
facts_cover [] p o h = no_some h
  where
    no_some : None ≡ Some o → ⊥
    no_some h = cc
facts_cover (f ∷ fs) p o h = go (same_parts f.item.parts p) refl (facts_cover fs p o)
  where
    go : (b : Bool) → same_parts f.item.parts p ≡ b → (output_of fs p ≡ Some o → Among p (items_of fs)) → Among p (items_of (f ∷ fs))
    go true is rest = inl (parts_one f.item.parts p is)
    go false is rest = inr (rest (rw is at h))

pub some_item : (p : List Part) (items : List (List Part)) → Among p items → 0 < length items
some_item p [] h = absurd h
some_item p (x ∷ xs) h = omega arith

pub has_items : (k : Known) (items : List (List Part)) → Covers k items → HasGiven k → 0 < length items
has_items k items covers given = some_item (given.0 ∷ given.1) items (covers (given.0 ∷ given.1) given.2 given.3)
