-- Rows of structures: each goes on with those of its kinds.
use Rattle.std.proofs.Common.{◌≡◌, ℕ, zero, suc, ◌+◌, ◌-◌, ◌<◌, ◌≤◌, min, max, List, [], ◌∷◌, ◌++◌, map, take, drop, length, Option, Some, None, refl, sym, ap, ◌∙◌, append_assoc, append-nil, arith}
use Rattle.std.specs.Prelude.{slice_get, option_map}
use Rattle.std.specs.List.{flat_map, range_with_len}
use Rattle.std.proofs.lemmas.List.{map-append, length-append}
use Rattle.flow_model.specs.declared.graphs.Kind.{Kind}
use Rattle.flow_model.specs.declared.graphs.Leaf.{Leaf}
use Rattle.flow_model.specs.declared.graphs.Step.{Step}
use Rattle.flow_model.specs.declared.trees.KindTree.{KindTree}
use Rattle.flow_model.specs.declared.trees.KindTree.TheVariants as kind
use Rattle.flow_model.specs.declared.trees.Member.{Member}
use Rattle.flow_model.specs.declared.trees.StructDef.{StructDef}
use Rattle.flow_model.specs.LeafRows.{steps_said, linked_steps}
use Rattle.leaf_rules.specs.ReturnCodes.{return_code}
use Rattle.leaf_rules.specs.Runs.{IsRun, run_named, IsMadeBy, IsKindMade, AreKindsMade, IsRowed}
use Rattle.leaf_rules.specs.StructureLeaves.{element_count, below, element_steps, kind_leaves, element_leaves, member_leaves, members_leaves}
use Rattle.leaf_rules.specs.declared.rows.Run.{Run}

-- ---- runs of a table that grows

taken_front : (n : ℕ) (xs more : List Leaf) → n ≤ length xs → take n (xs ++ more) ≡ take n xs
taken_front zero xs more fits = refl
taken_front (suc n) [] more fits = absurd (omega arith)
taken_front (suc n) (x ∷ xs) more fits = ap (λ (ls : List Leaf). x ∷ ls) (taken_front n xs more (omega arith))

run_kept : (first count : ℕ) (table more : List Leaf) → first + count ≤ length table → take count (drop first (table ++ more)) ≡ take count (drop first table)
run_kept zero count table more fits = taken_front count table more (omega arith)
run_kept (suc first) zero [] more fits = absurd (omega arith)
run_kept (suc first) (suc count) [] more fits = absurd (omega arith)
run_kept (suc first) count (x ∷ table) more fits = run_kept first count table more (omega arith)

pub run_grown : (table more : List Leaf) (run : Run) (leaves : List Leaf) → IsRun table run leaves → IsRun (table ++ more) run leaves
run_grown table more run leaves h = record {
  within = (let n = length-append table more in let l = h.within in omega arith);
  whole = run_kept run.first run.count table more h.within ∙ h.whole;
}

-- the last leaves of a table
last_ones : (old leaves : List Leaf) → take (length leaves) (drop (length old) (old ++ leaves)) ≡ leaves
last_ones [] leaves = all leaves
  where
    all : (ls : List Leaf) → take (length ls) ls ≡ ls
    all [] = refl
    all (l ∷ ls) = ap (λ (xs : List Leaf). l ∷ xs) (all ls)
last_ones (x ∷ old) leaves = last_ones old leaves

pub rowed_run : (old new : List Leaf) (run : Run) (leaves : List Leaf) → IsRowed old new run leaves → IsRun new run leaves
rowed_run old new run leaves h = record {
  within = (let n = ap (length {A = Leaf}) h.added ∙ length-append old leaves in let f = h.first in let c = h.count in omega arith);
  whole =
      ap (λ (ls : List Leaf). take run.count (drop run.first ls)) h.added
      ∙ ap (λ (n : ℕ). take run.count (drop n (old ++ leaves))) h.first
      ∙ ap (λ (n : ℕ). take n (drop (length old) (old ++ leaves))) h.count
      ∙ last_ones old leaves;
}

-- what is made stays made
made_grown : (table more : List Leaf) (run : Option Run) (leaves : List Leaf) → IsMadeBy table run leaves → IsMadeBy (table ++ more) run leaves
made_grown table more None leaves h = h
made_grown table more (Some run) leaves h = run_grown table more run (return_code ∷ leaves) h

module _ (structures : List StructDef) (runs : List Run) (inner : List ℕ → List Leaf) where
  pub kind_grown : (table more : List Leaf) (k : KindTree) → IsKindMade structures runs table inner k → IsKindMade structures runs (table ++ more) inner k
  kind_grown table more kind.Long h = tt
  kind_grown table more kind.Str h = tt
  kind_grown table more (kind.Struct name) h = made_grown table more (run_named structures runs name.name) (inner name.name) h

  pub kinds_grown : (table more : List Leaf) (members : List Member) → AreKindsMade structures runs table inner members → AreKindsMade structures runs (table ++ more) inner members
  kinds_grown table more members h = λ m has. kind_grown table more m.kind (h m has)

-- ---- the leaves behind a return code

inner_of : (first count : ℕ) (table : List Leaf) (c : Leaf) (inner : List Leaf) → take count (drop first table) ≡ c ∷ inner → take (count - 1) (drop (first + 1) table) ≡ inner
inner_of zero zero table c inner h = cc
inner_of zero (suc count) [] c inner h = cc
inner_of zero (suc count) (x ∷ table) c inner h =
    let down : suc count - 1 ≡ count = omega arith in
    ap (λ (n : ℕ). take n table) down ∙ tail_same x c (take count table) inner h
  where
    tail_same : (x c : Leaf) (xs ys : List Leaf) → x ∷ xs ≡ c ∷ ys → xs ≡ ys
    tail_same x c xs ys e = cc
inner_of (suc first) zero [] c inner h = cc
inner_of (suc first) (suc count) [] c inner h = cc
inner_of (suc first) count (x ∷ table) c inner h =
    let on : suc first + 1 ≡ suc (first + 1) = omega arith in
    ap (λ (n : ℕ). take (count - 1) (drop n (x ∷ table))) on ∙ inner_of first count table c inner h

some_count : (count : ℕ) (xs : List Leaf) (c : Leaf) (inner : List Leaf) → take count xs ≡ c ∷ inner → 0 < count
some_count zero xs c inner h = cc
some_count (suc count) xs c inner h = omega arith

pub run_inner : (table : List Leaf) (run : Run) (inner : List Leaf) → IsRun table run (return_code ∷ inner) → (0 < run.count) × (take (run.count - 1) (drop (run.first + 1) table) ≡ inner)
run_inner table run inner h = (some_count run.count (drop run.first table) return_code inner h.whole, inner_of run.first run.count table return_code inner h.whole)

at_most_one : (xs inner : List Leaf) (c : Leaf) (count : ℕ) → count ≤ 1 → take count xs ≡ c ∷ inner → inner ≡ []
at_most_one xs inner c zero few h = cc
at_most_one [] inner c (suc count) few h = cc
at_most_one (x ∷ xs) inner c (suc zero) few h = cc
at_most_one (x ∷ xs) inner c (suc (suc count)) few h = absurd (omega arith)

-- a run of one row has no leaves behind it
pub run_bare : (table : List Leaf) (run : Run) (inner : List Leaf) → run.count ≤ 1 → IsRun table run (return_code ∷ inner) → inner ≡ []
run_bare table run inner few h = at_most_one (drop run.first table) inner return_code run.count few h.whole

-- ---- leaves behind a step

there_still : (table more : List Leaf) (i : ℕ) (x : Leaf) → slice_get table i ≡ Some x → slice_get (table ++ more) i ≡ Some x
there_still [] more i x h = cc
there_still (y ∷ table) more zero x h = h
there_still (y ∷ table) more (suc i) x h = there_still table more i x h

there_is : (table : List Leaf) (i : ℕ) → i < length table → (x : Leaf) × (slice_get table i ≡ Some x)
there_is [] i less = absurd (omega arith)
there_is (x ∷ table) zero less = (x, refl)
there_is (x ∷ table) (suc i) less = there_is table i (omega arith)

take_one : (table : List Leaf) (i : ℕ) (x : Leaf) → slice_get table i ≡ Some x → take (i + 1) table ≡ take i table ++ x ∷ []
take_one [] i x h = cc
take_one (y ∷ table) zero x h = first_same y x h
  where
    first_same : (y x : Leaf) → Some y ≡ Some x → y ∷ [] ≡ x ∷ []
    first_same y x e = cc
take_one (y ∷ table) (suc i) x h = let on : suc i + 1 ≡ suc (i + 1) = omega arith in ap (λ (n : ℕ). take n (y ∷ table)) on ∙ ap (λ (ls : List Leaf). y ∷ ls) (take_one table i x h)

run_more : (table : List Leaf) (first i : ℕ) (x : Leaf) → first ≤ i → slice_get table i ≡ Some x → take ((i + 1) - first) (drop first table) ≡ take (i - first) (drop first table) ++ x ∷ []
run_more table zero i x less h = let a : (i + 1) - 0 ≡ i + 1 = omega arith in let b : i - 0 ≡ i = omega arith in ap (λ (n : ℕ). take n table) a ∙ take_one table i x h ∙ ap (λ (n : ℕ). take n table ++ x ∷ []) (sym b)
run_more [] (suc first) i x less h = cc
run_more (y ∷ table) (suc first) zero x less h = absurd (omega arith)
run_more (y ∷ table) (suc first) (suc i) x less h =
    let a : (suc i + 1) - suc first ≡ (i + 1) - first = omega arith in
    let b : suc i - suc first ≡ i - first = omega arith in
    ap (λ (n : ℕ). take n (drop first table)) a ∙ run_more table first i x (omega arith) h ∙ ap (λ (n : ℕ). take n (drop first table) ++ x ∷ []) (sym b)

-- the leaf that a step and a row make
made_leaf : (table : List Leaf) (i : ℕ) (x : Leaf) (h : Step) (places : List Step) (k : Kind) → slice_get table i ≡ Some x → Some k ≡ option_map (λ (l : Leaf). l.kind) (slice_get table i)
    → record { name = record { steps = h ∷ (places ++ linked_steps table (i + 1)) }; kind = k } ≡ below (h ∷ places) x
made_leaf table i x h places k is kind_is =
    let on : i + 1 ≡ suc i = omega arith in
    let f : List Step → Kind → Leaf = λ (ss : List Step) (q : Kind). record { name = record { steps = h ∷ (places ++ ss) }; kind = q } in
    ap (λ (ss : List Step). f ss k) (ap (linked_steps table) on ∙ ap steps_said is)
    ∙ ap (f x.name.steps) (same_kind k x.kind (kind_is ∙ ap (option_map (λ (l : Leaf). l.kind)) is))
  where
    same_kind : (a b : Kind) → Some a ≡ Some b → a ≡ b
    same_kind a b e = cc

-- one more leaf of a run
pub below_more : (old table new : List Leaf) (first i : ℕ) (h : Step) (places : List Step) (k : Kind) → first ≤ i → i < length old
    → table ≡ old ++ map (below (h ∷ places)) (take (i - first) (drop first old))
    → Some k ≡ option_map (λ (l : Leaf). l.kind) (slice_get table i)
    → new ≡ table ++ record { name = record { steps = h ∷ (places ++ linked_steps table (i + 1)) }; kind = k } ∷ []
    → new ≡ old ++ map (below (h ∷ places)) (take ((i + 1) - first) (drop first old))
below_more old table new first i h places k from less so_far kind_is now =
    let there = there_is old i less in
    let x = there.0 in
    let before = map (below (h ∷ places)) (take (i - first) (drop first old)) in
    let still : slice_get table i ≡ Some x = ap (λ (ls : List Leaf). slice_get ls i) so_far ∙ there_still old before i x there.1 in
    now
    ∙ ap (λ (l : Leaf). table ++ l ∷ []) (made_leaf table i x h places k still kind_is)
    ∙ ap (λ (ls : List Leaf). ls ++ below (h ∷ places) x ∷ []) so_far
    ∙ append_assoc old before (below (h ∷ places) x ∷ [])
    ∙ ap (λ (ls : List Leaf). old ++ ls) (sym (map-append (below (h ∷ places)) (take (i - first) (drop first old)) (x ∷ [])))
    ∙ ap (λ (ls : List Leaf). old ++ map (below (h ∷ places)) ls) (sym (run_more old first i x from there.1))

-- all of a run
pub below_all : (old table : List Leaf) (run : Run) (first past i : ℕ) (h : Step) (places : List Step) (inner : List Leaf) → IsRun old run (return_code ∷ inner) → first ≡ run.first + 1 → past ≡ min (length old) (run.first + run.count)
    → past ≤ i → i ≤ max first past → table ≡ old ++ map (below (h ∷ places)) (take (i - first) (drop first old)) → table ≡ old ++ map (below (h ∷ places)) inner
below_all old table run first past i h places inner is from to over under now =
    let parts = run_inner old run inner is in
    let all : i - first ≡ run.count - 1 = (let w = is.within in let c = parts.0 in omega arith) in
    now
    ∙ ap (λ (n : ℕ). old ++ map (below (h ∷ places)) (take n (drop first old))) all
    ∙ ap (λ (n : ℕ). old ++ map (below (h ∷ places)) (take (run.count - 1) (drop n old))) from
    ∙ ap (λ (ls : List Leaf). old ++ map (below (h ∷ places)) ls) parts.1

-- ---- elements of a member

elements_more : (inner : List ℕ → List Leaf) (m : Member) (from n : ℕ) → flat_map (element_leaves inner m) (range_with_len from (n + 1)) ≡ flat_map (element_leaves inner m) (range_with_len from n) ++ element_leaves inner m (from + n)
elements_more inner m from zero = let at : from + 0 ≡ from = omega arith in append-nil (element_leaves inner m from) ∙ ap (element_leaves inner m) (sym at)
elements_more inner m from (suc n) =
    let on : suc n + 1 ≡ suc (n + 1) = omega arith in
    let at : (from + 1) + n ≡ from + suc n = omega arith in
    ap (λ (k : ℕ). flat_map (element_leaves inner m) (range_with_len from k)) on
    ∙ ap (λ (ls : List Leaf). element_leaves inner m from ++ ls) (elements_more inner m (from + 1) n)
    ∙ sym (append_assoc (element_leaves inner m from) (flat_map (element_leaves inner m) (range_with_len (from + 1) n)) (element_leaves inner m ((from + 1) + n)))
    ∙ ap (λ (k : ℕ). flat_map (element_leaves inner m) (range_with_len from (suc n)) ++ element_leaves inner m k) at

pub element_next : (inner : List ℕ → List Leaf) (m : Member) (i : ℕ) (old table new : List Leaf) → table ≡ old ++ flat_map (element_leaves inner m) (range_with_len 0 i) → new ≡ table ++ element_leaves inner m i
    → new ≡ old ++ flat_map (element_leaves inner m) (range_with_len 0 (i + 1))
element_next inner m i old table new so_far now =
    let at : 0 + i ≡ i = omega arith in
    now
    ∙ ap (λ (ls : List Leaf). ls ++ element_leaves inner m i) so_far
    ∙ append_assoc old (flat_map (element_leaves inner m) (range_with_len 0 i)) (element_leaves inner m i)
    ∙ ap (λ (k : ℕ). old ++ (flat_map (element_leaves inner m) (range_with_len 0 i) ++ element_leaves inner m k)) (sym at)
    ∙ ap (λ (ls : List Leaf). old ++ ls) (sym (elements_more inner m 0 i))

-- a member whose kind has no leaves
pub member_bare : (inner : List ℕ → List Leaf) (m : Member) → kind_leaves inner m.kind ≡ [] → member_leaves inner m ≡ []
member_bare inner m none = all 0 (element_count m)
  where
    all : (from n : ℕ) → flat_map (element_leaves inner m) (range_with_len from n) ≡ []
    all from zero = refl
    all from (suc n) = ap (λ (ls : List Leaf). map (below (element_steps m from)) ls ++ flat_map (element_leaves inner m) (range_with_len (from + 1) n)) none ∙ all (from + 1) n

-- ---- members

members_more : (inner : List ℕ → List Leaf) (members : List Member) (i : ℕ) (m : Member) → slice_get members i ≡ Some m → members_leaves inner (take (i + 1) members) ≡ members_leaves inner (take i members) ++ member_leaves inner m
members_more inner [] i m is = cc
members_more inner (x ∷ members) zero m is = append-nil (member_leaves inner x) ∙ ap (member_leaves inner) (same x m is)
  where
    same : (a b : Member) → Some a ≡ Some b → a ≡ b
    same a b e = cc
members_more inner (x ∷ members) (suc i) m is =
    let on : suc i + 1 ≡ suc (i + 1) = omega arith in
    ap (λ (n : ℕ). members_leaves inner (take n (x ∷ members))) on
    ∙ ap (λ (ls : List Leaf). member_leaves inner x ++ ls) (members_more inner members i m is)
    ∙ sym (append_assoc (member_leaves inner x) (members_leaves inner (take i members)) (member_leaves inner m))

pub member_next : (inner : List ℕ → List Leaf) (members : List Member) (i : ℕ) (m : Member) (old table new : List Leaf) → slice_get members i ≡ Some m → table ≡ old ++ members_leaves inner (take i members)
    → new ≡ table ++ member_leaves inner m → new ≡ old ++ members_leaves inner (take (i + 1) members)
member_next inner members i m old table new is so_far now =
    now
    ∙ ap (λ (ls : List Leaf). ls ++ member_leaves inner m) so_far
    ∙ append_assoc old (members_leaves inner (take i members)) (member_leaves inner m)
    ∙ ap (λ (ls : List Leaf). old ++ ls) (sym (members_more inner members i m is))

-- a place of a table that grows has a leaf
pub none_within : (old table : List Leaf) (i : ℕ) (more : List Leaf) → i < length old → table ≡ old ++ more → None ≡ option_map (λ (l : Leaf). l.kind) (slice_get table i) → ⊥
none_within old table i more less is none =
    let there = there_is old i less in
    some_none (none ∙ ap (option_map (λ (l : Leaf). l.kind)) (ap (λ (ls : List Leaf). slice_get ls i) is ∙ there_still old more i there.0 there.1))
  where
    some_none : {k : Kind} → None ≡ Some k → ⊥
    some_none e = cc

-- ---- a structure

pub rowed : (old coded new leaves : List Leaf) (first count : ℕ) → coded ≡ old ++ return_code ∷ [] → new ≡ coded ++ leaves → first ≡ length old → count ≡ length new - length old → IsRowed old new (record { first = first; count = count }) (return_code ∷ leaves)
rowed old coded new leaves first count begun more at long =
    let added : new ≡ old ++ return_code ∷ leaves = more ∙ ap (λ (ls : List Leaf). ls ++ leaves) begun ∙ append_assoc old (return_code ∷ []) leaves in
    record {
      added = added;
      first = at;
      count = (let n = ap (length {A = Leaf}) added ∙ length-append old (return_code ∷ leaves) in omega arith);
    }
