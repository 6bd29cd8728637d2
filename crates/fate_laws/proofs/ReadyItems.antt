-- A completion that is ready is of an item that has no output yet, so it counts.
use Rattle.std.proofs.Common.{◌≡◌, ℕ, zero, suc, ◌+◌, ◌≤◌, ◌<◌, Bool, true, false, List, [], ◌∷◌, ◌++◌, take, length, refl, sym, ap, ◌∙◌, Option, Some, None, ◌⊎◌, arith, inl, inr}
use Rattle.std.proofs.lemmas.List.{length-map, length-take-le}
use Rattle.std.proofs.lemmas.Option.{slice_get_within}
use Rattle.std.specs.Prelude.{slice_get, slice_index_or}
use Rattle.std.specs.List.{flat_map, Contains}
use Rattle.flow_model.specs.declared.graphs.Activity.{Activity}
use Rattle.flow_model.specs.declared.graphs.Container.{Container}
use Rattle.flow_model.specs.declared.graphs.Expr.{Expr}
use Rattle.flow_model.specs.declared.graphs.Graph.{Graph, out-Graph}
use Rattle.flow_model.specs.declared.graphs.Template.{Template}
use Rattle.flow_model.specs.declared.instances.Fact.{Fact}
use Rattle.flow_model.specs.declared.instances.Fate.TheVariants.{Ready}
use Rattle.flow_model.specs.declared.instances.FateRow.{FateRow}
use Rattle.flow_model.specs.declared.instances.Part.{Part}
use Rattle.flow_model.specs.declared.instances.Path.{Path}
use Rattle.flow_model.specs.declared.names.Name.{Name}
use Rattle.flow_model.specs.Conditions.{holds}
use Rattle.flow_model.specs.Rows.{same_parts, output_of, by_facts, below, rows_below, rows_of, rows, deepest, IsReadyBy, AreReady}
use Rattle.flow_model.specs.ScopeContainers.{base_of, graph_in, up_to}
use Rattle.flow_model.specs.Scopes.{Known, at, all_of, Gives, Trial, Start, tries, and_then, part, gives, trial, output, tree_ends, tree_fate, started_at}
use Rattle.fate_laws.specs.Causes.{at_path}
use Rattle.fate_laws.specs.Equations.{GoesOn, join_of, outputs_of}
use Rattle.fate_laws.specs.WellFormed.{Well}
use Rattle.fate_laws.proofs.Items.{parts_itself, path_given}
use Rattle.fate_laws.proofs.ItemsBelow.{Covers, among_strip, covers_at, strip, strip_at_most, some_item, count_from, count_at_most, count_split, items_of, facts_cover}
use Rattle.fate_laws.proofs.PlainFates.{fate_in_words}
use Rattle.fate_laws.proofs.Solutions.{order_of, fate_is}

-- ---- lists

abbrev pub In : {X : Type 0} → X → List X → Type 0
In x [] = ⊥
In x (y ∷ ys) = (y ≡ x) ⊎ In x ys

in_of : {X : Type 0} (xs : List X) (x : X) → Contains xs x → In x xs
in_of [] x h = absurd (omega (arith, h.1))
in_of (y ∷ ys) x h = go h.0 h.1 h.2 (in_of ys x)
  where
    go : (i : ℕ) → i < length (y ∷ ys) → slice_index_or (y ∷ ys) i x ≡ x → (Contains ys x → In x ys) → (y ≡ x) ⊎ In x ys
    go zero less is rest = inl is
    go (suc i) less is rest = inr (rest (i, omega arith, is))

in_append : {X : Type 0} (xs ys : List X) (x : X) → In x (xs ++ ys) → In x xs ⊎ In x ys
in_append [] ys x h = inr h
in_append (y ∷ xs) ys x (inl is) = inl (inl is)
in_append (y ∷ xs) ys x (inr h) = elim (in_append xs ys x h) [ inl a ↦ inl (inr a) | inr b ↦ inr b ]

in_flat : {X Y : Type 0} (f : X → List Y) (xs : List X) (y : Y) → In y (flat_map f xs) → (x : X) × In y (f x)
in_flat f [] y h = absurd h
in_flat f (x ∷ xs) y h = elim (in_append (f x) (flat_map f xs) y h) [ inl a ↦ (x, a) | inr b ↦ in_flat f xs y b ]

-- ---- where a row stands

-- a row is that of an activity of a scope below
pub record IsRow (ts : List Template) (k : Known) (s : Path) (row : FateRow) : Type 0 where
  pub path : List Part
  pub depth : ℕ
  pub graph : Graph
  pub input : Container
  pub place : ℕ
  pub activity : Activity
  pub is : slice_get (out-Graph graph).activities place ≡ Some activity
  pub well : Well ts depth graph
  pub scope : row.scope.parts ≡ s.parts ++ path
  pub name : row.name ≡ activity.name
  pub fate : row.fate ≡ tree_fate ts depth (all_of (at_path path k)) graph input place

append_nil : (xs : List Part) → xs ≡ xs ++ []
append_nil [] = refl
append_nil (x ∷ xs) = ap (λ l. x ∷ l) (append_nil xs)

append_part : (xs : List Part) (q : Part) (ps : List Part) → (xs ++ q ∷ []) ++ ps ≡ xs ++ q ∷ ps
append_part [] q ps = refl
append_part (x ∷ xs) q ps = ap (λ l. x ∷ l) (append_part xs q ps)

own_row : (ts : List Template) (depth : ℕ) (k : Known) (g : Graph) (i : Container) (s : Path) (a : ℕ) (activity : Activity) (row : FateRow) → Well ts depth g
    → slice_get (out-Graph g).activities a ≡ Some activity → record { scope = s; name = activity.name; fate = tree_fate ts depth (all_of k) g i a } ≡ row → IsRow ts k s row
own_row ts depth k g i s a activity row well is same = record {
  path = [];
  depth = depth;
  graph = g;
  input = i;
  place = a;
  activity = activity;
  is = is;
  well = well;
  scope = ap (λ r. r.scope.parts) (sym same) ∙ append_nil s.parts;
  name = ap (λ r. r.name) (sym same);
  fate = ap (λ r. r.fate) (sym same);
}

deeper_row : (ts : List Template) (k : Known) (s : Path) (q : Part) (row : FateRow) → IsRow ts (at q k) (below s q) row → IsRow ts k s row
deeper_row ts k s q row r = record {
  path = q ∷ r.path;
  depth = r.depth;
  graph = r.graph;
  input = r.input;
  place = r.place;
  activity = r.activity;
  is = r.is;
  well = r.well;
  scope = r.scope ∙ append_part s.parts q r.path;
  name = r.name;
  fate = r.fate;
}

module _ (ts : List Template) (depth : ℕ) (rows : Known → Graph → Container → Path → List FateRow) (inner : Graph → Type 0)
    (k : Known) (g : Graph) (i : Container) (s : Path) (row : FateRow) (well : Well ts depth g)
    (inside : (a : ℕ) (activity : Activity) → slice_get (out-Graph g).activities a ≡ Some activity → (h : Graph) → graph_in ts activity.work ≡ Some h → inner h)
    (deeper : (q : Part) (h : Graph) (c : Container) → inner h → In row (rows (at q (all_of k)) h c (below s q)) → IsRow ts (at q k) (below s q) row) where
  row_below : (a : ℕ) (activity : Activity) → slice_get (out-Graph g).activities a ≡ Some activity → (starts : List Start) (o : Option Graph) → graph_in ts activity.work ≡ o
      → In row (rows_below rows (all_of k) activity o starts s) → IsRow ts k s row
  row_below a activity is starts None of h = absurd h
  row_below a activity is starts (Some g') of h =
      let there = in_flat (λ start. rows (at (part activity.name start.attempt) (all_of k)) g' start.input (below s (part activity.name start.attempt))) starts row h in
      let q : Part = part activity.name there.0.attempt in
      deeper_row ts k s q row (deeper q g' there.0.input (inside a activity is g' of) there.1)

  row_of : (a : ℕ) (o : Option Activity) → slice_get (out-Graph g).activities a ≡ o → In row (rows_of ts depth rows (all_of k) g i s a o) → IsRow ts k s row
  row_of a None is h = absurd h
  row_of a (Some activity) is (inl same) = own_row ts depth k g i s a activity row well is same
  row_of a (Some activity) is (inr h) =
      row_below a activity is (started_at ts (all_of k) (output ts depth) g i (tree_ends ts depth (all_of k) g i) a activity) (graph_in ts activity.work) refl h

row_at : (ts : List Template) (depth : ℕ) (k : Known) (g : Graph) (i : Container) (s : Path) (row : FateRow) → Well ts depth g
    → In row (rows ts depth (all_of k) g i s) → IsRow ts k s row
row_at ts zero k g i s row well h =
    let there = in_flat (λ a. rows_of ts zero (λ k' h i p. []) (all_of k) g i s a (slice_get (out-Graph g).activities a)) (up_to (length (out-Graph g).activities) 0) row h in
    row_of ts zero (λ k' h i p. []) (λ h. Unit {0}) k g i s row well well.inside (λ q h c ok none. absurd none) there.0 (slice_get (out-Graph g).activities there.0) refl there.1
row_at ts (suc depth) k g i s row well h =
    let there = in_flat (λ a. rows_of ts (suc depth) (rows ts depth) (all_of k) g i s a (slice_get (out-Graph g).activities a)) (up_to (length (out-Graph g).activities) 0) row h in
    row_of ts (suc depth) (rows ts depth) (Well ts depth) k g i s row well well.inside
    (λ q h c ok here. row_at ts depth (at q k) h c (below s q) row ok here)
    there.0 (slice_get (out-Graph g).activities there.0) refl there.1

-- ---- the attempts of a program that goes on

goes_on_tail : (exit : Option Expr) (x : Container) (xs : List Container) → GoesOn exit (x ∷ xs) → GoesOn exit xs
goes_on_tail exit x [] on = λ o h. let n : ⊥ = cc in absurd n
goes_on_tail exit x (y ∷ ys) on = λ o h. on o h

-- the next attempt has given nothing, unless the bound of attempts was met
module _ (f : ℕ → Option Container) (t : Trial) where
  abbrev given : Gives
  given j i = f j

  next_open : (n j : ℕ) (i : Container) → GoesOn t.exit (tries n given t j i) → length (tries n given t j i) < n → f (j + length (tries n given t j i)) ≡ None
  next_open zero j i on less = absurd (omega arith)
  next_open (suc n) j i on less = go (f j) refl (λ out. next_open n (j + 1) (t.loops out))
    where
      plain : j + 0 ≡ j
      plain = omega arith

      shifted : (m : ℕ) → j + suc m ≡ j + 1 + m
      shifted m = omega arith

      Rest : Container → Type 0
      Rest out = GoesOn t.exit (tries n given t (j + 1) (t.loops out)) → length (tries n given t (j + 1) (t.loops out)) < n
          → f (j + 1 + length (tries n given t (j + 1) (t.loops out))) ≡ None

      on_exit : (out : Container) → Rest out → (b : Bool) → holds t.exit out ≡ b
          → GoesOn t.exit (and_then t (Some out) (λ o. tries n given t (j + 1) (t.loops o)))
          → length (and_then t (Some out) (λ o. tries n given t (j + 1) (t.loops o))) < suc n
          → f (j + length (and_then t (Some out) (λ o. tries n given t (j + 1) (t.loops o)))) ≡ None
      on_exit out rest true is on less =
          let fails : holds t.exit out ≡ false = (let ends : GoesOn t.exit (out ∷ []) = rw is at on in ends out refl) in
          let wrong : true ≡ false = sym is ∙ fails in
          let n : ⊥ = cc in
          absurd n
      on_exit out rest false is on less =
          let tail : GoesOn t.exit (tries n given t (j + 1) (t.loops out)) = goes_on_tail t.exit out (tries n given t (j + 1) (t.loops out)) (rw is at on) in
          let shorter : length (out ∷ tries n given t (j + 1) (t.loops out)) < suc n = rw is at less in
          rw is (rw (shifted (length (tries n given t (j + 1) (t.loops out)))) (rest tail (omega arith)))

      go : (o : Option Container) → f j ≡ o → ((out : Container) → Rest out) → f (j + length (tries (suc n) given t j i)) ≡ None
      go None is rest = rw is (rw plain is)
      go (Some out) is rest = rw is (on_exit out (rest out) (holds t.exit out) refl (rw is at on) (rw is at less))

-- no more attempts than items of the activity
module _ (name : Name) (items : List (List Part)) (given : Gives) (t : Trial)
    (own : (j : ℕ) (i o : Container) → given j i ≡ Some o → 0 < length (strip (part name j) items)) where
  tries_counted : (n j : ℕ) (i : Container) → length (tries n given t j i) ≤ count_from name j items
  tries_counted zero j i = omega arith
  tries_counted (suc n) j i = go (given j i) refl (λ out. tries_counted n (j + 1) (t.loops out))
    where
      on_exit : (out : Container) → given j i ≡ Some out → length (tries n given t (j + 1) (t.loops out)) ≤ count_from name (j + 1) items → (b : Bool) → holds t.exit out ≡ b
          → length (and_then t (Some out) (λ o. tries n given t (j + 1) (t.loops o))) ≤ count_from name j items
      on_exit out is rest true exits = let some = own j i out is in let split = count_split name j items in rw exits (omega arith)
      on_exit out is rest false exits = let some = own j i out is in let split = count_split name j items in rw exits (omega arith)

      go : (o : Option Container) → given j i ≡ o → ((out : Container) → length (tries n given t (j + 1) (t.loops out)) ≤ count_from name (j + 1) items)
          → length (tries (suc n) given t j i) ≤ count_from name j items
      go None is rest = rw is (omega arith)
      go (Some out) is rest = rw is (on_exit out is (rest out) (holds t.exit out) refl)

-- ---- the item of a row that is ready

-- items that cover what is given below a path, no more than all
pub record HasCover (k : Known) (count : ℕ) : Type 0 where
  pub items : List (List Part)
  pub covers : Covers k items
  pub fewer : length items ≤ count

cover_path : (path : List Part) (k : Known) (count : ℕ) → HasCover k count → HasCover (at_path path k) count
cover_path [] k count has = has
cover_path (q ∷ path) k count has =
    cover_path path (at q k) count
    (let less = strip_at_most q has.items in
    let all = has.fewer in
    record { items = strip q has.items; covers = covers_at k has.items q has.covers; fewer = omega arith })

most_path : (path : List Part) (k : Known) → (at_path path k).most ≡ k.most
most_path [] k = refl
most_path (q ∷ path) k = most_path path (at q k)

row_new : (ts : List Template) (k : Known) (s : Path) (row : FateRow) (r : IsRow ts k s row) (n : ℕ) → row.fate ≡ Ready n → (count : ℕ) → HasCover k count → count < k.most
    → (at_path r.path k).given (part r.activity.name n ∷ []) ≡ None
row_new ts k s row r n ready count cover less =
    let below : Known = at_path r.path k in
    let has = order_of ts r.depth r.graph r.well in
    let ends = tree_ends ts r.depth (all_of below) r.graph r.input in
    let join = join_of r.graph ends r.place r.activity in
    let outs = outputs_of ts r.depth (all_of below) r.graph r.input ends r.place r.activity in
    let fate = fate_is ts r.depth below r.graph r.input has.order has.flow has.wired r.place r.activity r.is in
    let words = ((fate_in_words r.activity join outs).ready n).0 (sym fate ∙ sym r.fate ∙ ready) in
    let name : Name = r.activity.name in
    let base = base_of r.graph r.activity r.place r.input ends in
    let t : Trial = trial r.graph r.place r.activity base in
    let f : ℕ → Option Container = λ j. below.given (part name j ∷ []) in
    let program : gives ts (all_of below) (output ts r.depth) name r.activity.work ≡ (λ j i. f j) = ap (gives ts (all_of below) (output ts r.depth) name) words.3.1 in
    let same : outs ≡ tries below.most (λ j i. f j) t 1 base = ap (λ given. tries below.most given t 1 base) program in
    let there = cover_path r.path k count cover in
    let counted = tries_counted name there.items (λ j i. f j) t
    (λ j i o gave. some_item [] (strip (part name j) there.items) (among_strip (part name j) [] there.items (there.covers (part name j ∷ []) o gave)))
    below.most 1 base in
    let fewer = count_at_most name 1 there.items in
    let all = there.fewer in
    let most = most_path r.path k in
    let on : GoesOn t.exit (tries below.most (λ j i. f j) t 1 base) = rw same at words.2 in
    let none = next_open f t below.most 1 base on (omega arith) in
    let long : length outs ≡ length (tries below.most (λ j i. f j) t 1 base) = ap length same in
    let last : 1 + length (tries below.most (λ j i. f j) t 1 base) ≡ n = (let w = words.1 in omega arith) in
    rw last at none

pub ready_is_new : (ts : List Template) (g : Graph) (root : ℕ) (input : Container) (fs : List Fact) (n : ℕ) (f : Fact) → Well ts deepest g → n < length fs
    → IsReadyBy ts g root input fs n f → output_of (take n fs) f.item.parts ≡ None
ready_is_new ts g root input fs n f well less ready =
    let s = ready.0 in
    let q : Part = ready.1 in
    let k : Known = by_facts (length fs) (take n fs) in
    let start : Path = record { root = root; parts = [] } in
    let row : FateRow = record { scope = s; name = q.name; fate = Ready q.attempt } in
    let r = row_at ts deepest k g input start row well (in_of (rows ts deepest k g input start) row ready.3) in
    let length_taken : length (take n fs) ≡ n = length-take-le n fs (omega arith) in
    let items : length (items_of (take n fs)) ≡ length (take n fs) = length-map (take n fs) (λ e. e.item.parts) in
    let cover : HasCover k n = record { items = items_of (take n fs); covers = λ p o given. facts_cover (take n fs) p o given; fewer = omega arith } in
    let none = row_new ts k start row r q.attempt refl n cover less in
    let item : f.item.parts ≡ s.parts ++ q ∷ [] = ap (λ p. p.parts) ready.2 in
    let scope : s.parts ≡ r.path = r.scope in
    let name : q ≡ part r.activity.name q.attempt = ap (λ m. part m q.attempt) r.name in
    let whole : f.item.parts ≡ r.path ++ part r.activity.name q.attempt ∷ [] = item ∙ ap (λ l. l ++ q ∷ []) scope ∙ ap (λ p. r.path ++ p ∷ []) name in
    ap (output_of (take n fs)) whole ∙ sym (path_given r.path k (part r.activity.name q.attempt ∷ [])) ∙ none

-- ---- a new completion counts

first_counts_at : (fs : List Fact) (i : ℕ) (f : Fact) → slice_get fs i ≡ Some f → output_of (take i fs) f.item.parts ≡ None → output_of fs f.item.parts ≡ Some f.output
first_counts_at [] i f is none = absurd (no_some is)
  where
    no_some : None ≡ Some f → ⊥
    no_some h = cc
first_counts_at (e ∷ fs) zero f is none =
    let same : e ≡ f = cc in
    rw same (rw (parts_itself f.item.parts) refl)
first_counts_at (e ∷ fs) (suc i) f is none = go (same_parts e.item.parts f.item.parts) refl (first_counts_at fs i f is)
  where
    go : (b : Bool) → same_parts e.item.parts f.item.parts ≡ b → (output_of (take i fs) f.item.parts ≡ None → output_of fs f.item.parts ≡ Some f.output)
        → output_of (e ∷ fs) f.item.parts ≡ Some f.output
    go true same rest = let wrong : Some e.output ≡ None = rw same at none in let n : ⊥ = cc in absurd n
    go false other rest = rw other (rest (rw other at none))

pub ready_counts : (ts : List Template) (g : Graph) (root : ℕ) (input : Container) (fs : List Fact) → Well ts deepest g → AreReady ts g root input fs (length fs)
    → (i : ℕ) (f : Fact) → slice_get fs i ≡ Some f → output_of fs f.item.parts ≡ Some f.output
ready_counts ts g root input fs well ready i f is =
    let inside = slice_get_within fs i f is in
    first_counts_at fs i f is (ready_is_new ts g root input fs i f well inside (ready i f inside is))
