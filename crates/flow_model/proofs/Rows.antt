-- The leaves of rows.
use Rattle.std.proofs.Common.{◌≡◌, ◌≢◌, ℕ, zero, suc, ◌+◌, ◌-◌, ◌≤◌, List, [], ◌∷◌, ◌++◌, length, take, Option, Some, None, refl, sym, ap, ◌∙◌, append_assoc, append-nil, arith}
use Rattle.std.specs.Prelude.{slice_get, option_map}
use Rattle.std.proofs.lemmas.List.{length-append}
use Rattle.std.proofs.lemmas.Option.{slice_get_past}
use Rattle.flow_model.specs.declared.graphs.Leaf.{Leaf}
use Rattle.flow_model.specs.declared.leaf_rows.LeafRow.{LeafRow}
use Rattle.flow_model.specs.LeafRows.{place_steps, steps_said, linked_steps, leaf_of, leaves_behind}

-- ---- lists

-- a list is the front of a longer one
pub front : {X : Type 0} (xs ys : List X) → take (length xs) (xs ++ ys) ≡ xs
front [] ys = refl
front (x ∷ xs) ys = ap (λ (zs : List _). x ∷ zs) (front xs ys)

next_of : {X : Type 0} (xs : List X) (x : X) (ys : List X) → slice_get (xs ++ x ∷ ys) (length xs) ≡ Some x
next_of [] x ys = refl
next_of (y ∷ xs) x ys = next_of xs x ys

-- ---- rows

-- one more row
pub one_more : (before : List Leaf) (rows : List LeafRow) (row : LeafRow) → leaves_behind before (rows ++ row ∷ []) ≡ leaves_behind before rows ++ leaf_of (leaves_behind before rows) row ∷ []
one_more before [] row = refl
one_more before (first ∷ rows) row = one_more (before ++ leaf_of before first ∷ []) rows row

-- one leaf for each row
pub as_many : (before : List Leaf) (rows : List LeafRow) → length (leaves_behind before rows) ≡ length before + length rows
as_many before [] = omega arith
as_many before (row ∷ rows) =
    let rest = as_many (before ++ leaf_of before row ∷ []) rows in
    let more = length-append before (leaf_of before row ∷ []) in
    omega arith

-- leaves stay where they are
stays : (before : List Leaf) (rows : List LeafRow) → (more : List Leaf) × (leaves_behind before rows ≡ before ++ more)
stays before [] = ([], sym (append-nil before))
stays before (row ∷ rows) =
    let rest = stays (before ++ leaf_of before row ∷ []) rows in
    (leaf_of before row ∷ rest.0, rest.1 ∙ append_assoc before (leaf_of before row ∷ []) rest.0)

-- the leaf of a row
leaf_at : (before : List Leaf) (rows : List LeafRow) (i : ℕ) (row : LeafRow) → slice_get rows i ≡ Some row
    → slice_get (leaves_behind before rows) (length before + i) ≡ Some (leaf_of (take (length before + i) (leaves_behind before rows)) row)
leaf_at before [] i row is = cc
leaf_at before (first ∷ rows) zero row is =
    let rest = stays (before ++ leaf_of before first ∷ []) rows in
    let all : leaves_behind before (first ∷ rows) ≡ before ++ leaf_of before first ∷ rest.0 = rest.1 ∙ append_assoc before (leaf_of before first ∷ []) rest.0 in
    let same : first ≡ row = some_same first row is in
    let at : length before + 0 ≡ length before = omega arith in
    ap (slice_get (leaves_behind before (first ∷ rows))) at
    ∙ ap (λ (ls : List Leaf). slice_get ls (length before)) all
    ∙ next_of before (leaf_of before first) rest.0
    ∙ ap (λ (r : LeafRow). Some (leaf_of before r)) same
    ∙ ap (λ (ls : List Leaf). Some (leaf_of ls row)) (sym (ap (λ (n : ℕ). take n (leaves_behind before (first ∷ rows))) at ∙ ap (take (length before)) all ∙ front before (leaf_of before first ∷ rest.0)))
  where
    some_same : (x y : LeafRow) → Some x ≡ Some y → x ≡ y
    some_same x y e = cc
leaf_at before (first ∷ rows) (suc i) row is =
    let longer : length (before ++ leaf_of before first ∷ []) + i ≡ length before + suc i = let n = length-append before (leaf_of before first ∷ []) in omega arith in
    let all = leaves_behind before (first ∷ rows) in
    ap (slice_get all) (sym longer) ∙ leaf_at (before ++ leaf_of before first ∷ []) rows i row is ∙ ap (λ (n : ℕ). Some (leaf_of (take n all) row)) longer

-- what a table has at a place
pub at_row : (rows : List LeafRow) (i : ℕ) (row : LeafRow) → slice_get rows i ≡ Some row → slice_get (leaves_behind [] rows) i ≡ Some (leaf_of (take i (leaves_behind [] rows)) row)
at_row rows i row is =
    let all = leaves_behind [] rows in
    let same : 0 + i ≡ i = omega arith in
    ap (slice_get all) (sym same) ∙ leaf_at [] rows i row is ∙ ap (λ (n : ℕ). Some (leaf_of (take n all) row)) same

pub past_rows : (rows : List LeafRow) (i : ℕ) → slice_get rows i ≡ None → slice_get (leaves_behind [] rows) i ≡ None
past_rows rows i none = slice_get_past (leaves_behind [] rows) i (let n = as_many [] rows in let l = none_past rows i none in omega arith)
  where
    none_past : (xs : List LeafRow) (k : ℕ) → slice_get xs k ≡ None → length xs ≤ k
    none_past [] k e = omega arith
    none_past (x ∷ xs) zero e = cc
    none_past (x ∷ xs) (suc k) e = let l = none_past xs k e in omega arith

-- what it holds
pub kind_found : (rows : List LeafRow) (i : ℕ) (found : Option LeafRow) → found ≡ slice_get rows i → option_map (λ (r : LeafRow). r.kind) found ≡ option_map (λ (l : Leaf). l.kind) (slice_get (leaves_behind [] rows) i)
kind_found rows i None is = ap (option_map (λ (l : Leaf). l.kind)) (sym (past_rows rows i (sym is)))
kind_found rows i (Some row) is = ap (option_map (λ (l : Leaf). l.kind)) (sym (at_row rows i row (sym is)))

-- the steps that a link leads to
pub no_row : (rows : List LeafRow) (link : ℕ) → link ≢ 0 → None ≡ slice_get rows (link - 1) → linked_steps (leaves_behind [] rows) link ≡ []
no_row rows zero some none = absurd (some refl)
no_row rows (suc i) some none = ap steps_said (past_rows rows i (sym (none ∙ ap (slice_get rows) (down i))))
  where
    down : (k : ℕ) → suc k - 1 ≡ k
    down k = omega arith

pub a_row : (rows : List LeafRow) (link : ℕ) (row : LeafRow) → link ≢ 0 → Some row ≡ slice_get rows (link - 1)
    → linked_steps (leaves_behind [] rows) link ≡ row.head.value ∷ (place_steps row.place ++ linked_steps (take (link - 1) (leaves_behind [] rows)) row.rest)
a_row rows zero row some is = absurd (some refl)
a_row rows (suc i) row some is =
    ap steps_said (at_row rows i row (sym (is ∙ ap (slice_get rows) (down i))))
    ∙ ap (λ (n : ℕ). row.head.value ∷ (place_steps row.place ++ linked_steps (take n (leaves_behind [] rows)) row.rest)) (sym (down i))
  where
    down : (k : ℕ) → suc k - 1 ≡ k
    down k = omega arith
