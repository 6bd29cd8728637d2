-- What a text adds to a library in bounds is in bounds: its templates nest as deep as their shapes say, their activities
-- are few and have names, and their containers are small.
use Rattle.std.proofs.Common.{◌≡◌, ℕ, zero, suc, ◌+◌, ◌-◌, ◌^◌, ◌<◌, ◌≤◌, nat_lt, Bool, true, false, List, [], ◌∷◌, ◌++◌, length}
use Rattle.std.proofs.Common.{Option, Some, None, refl, sym, ap, subst, ◌∙◌, arith, ltb-true}
use Rattle.std.specs.List.{All, Contains}
use Rattle.std.specs.Option.{option_map, option_and_then}
use Rattle.std.specs.Prelude.{slice_get, unwrap_or, bytes_eq, if◌then◌else◌}
use Rattle.std.proofs.lemmas.List.Elements.{All-nil, All-cons, All-append, All-weaker}
use Rattle.std.proofs.lemmas.Option.{none-some}
use Rattle.flow_model.specs.ScopeContainers.{graph_of}
use Rattle.flow_model.specs.declared.graphs.Graph.{Graph, out-Graph}
use Rattle.flow_model.specs.declared.graphs.Leaf.{Leaf}
use Rattle.flow_model.specs.declared.graphs.Library.{Library}
use Rattle.flow_model.specs.declared.graphs.Template.{Template}
use Rattle.flow_model.specs.declared.graphs.Work.{Work, Program, Block, Process}
use Rattle.flow_model.specs.declared.trees.ActivityTree.{ActivityTree}
use Rattle.flow_model.specs.declared.trees.ElementTree.{ElementTree}
use Rattle.flow_model.specs.declared.trees.ItemTree.{ItemTree}
use Rattle.flow_model.specs.declared.trees.ProcessTree.{ProcessTree}
use Rattle.flow_model.specs.declared.trees.Tree.{Tree}
use Rattle.flow_model.specs.declared.trees.WorkTree.{WorkTree}
use Rattle.flow_model.specs.declared.trees.WorkTree.TheVariants as work
use Rattle.flow_model.specs.Words.{is_name}
use Rattle.flow_txn.specs.Ranges.{IsName}
use Rattle.leaf_rules.specs.Leaves.{with_code}
use Rattle.leaf_rules.specs.ReturnCodes.{return_code}
use Rattle.leaf_rules.specs.StructureLeaves.{leaves_in}
use Rattle.machine.specs.Imports.{Added, IsMeaning}
use Rattle.machine_scopes.proofs.Lists.{map_read, map_found, within}
use Rattle.process_rules.specs.Calling.{before_this, text_or, stored_named, place_among}
use Rattle.process_rules.specs.Imports.{last_place, newest_place, version_behind, next_version}
use Rattle.process_rules.specs.Knowing.{callee_named}
use Rattle.process_rules.specs.Shapes.{nothing, shape_at, callee_shape, named_shape, shapes_to, shapes_of, work_adds, graph_shape}
use Rattle.process_rules.specs.declared.people.Callee.{Callee}
use Rattle.process_rules.specs.declared.people.Callee.TheVariants as callee
use Rattle.process_rules.specs.declared.sizes.Shape.{Shape}
use Rattle.template_check.specs.Compiling.{IsReading, HaveNumbers}
use Rattle.template_check.specs.Meant.{Reading, AreParts, NoneLeft, NoPart, OnePart, IsOne, IsWork, ProgramOf, ProcessOf, BlockOf}
use Rattle.template_check.specs.Meant.{IsActivity, MeantTo, IsMeant, AreMeantFrom}
use Rattle.text_graphs.specs.Blocks.{IsBlockOf}
use Rattle.text_graphs.specs.GraphTexts.{GraphText, process_text, block_text}
use Rattle.text_graphs.specs.Graphs.{GraphAt}
use Rattle.text_graphs.specs.Texts.{activities_in, processes_in, structures_in}
use Rattle.text_laws.proofs.Inside.{StandsIn, process_stands, block_stands}
use Rattle.text_laws.proofs.Trees.{tree_one}
use Rattle.range_laws.specs.Bounds.{RunsOnly, IsInBounds, IsBounded}
use Rattle.range_laws.proofs.Judged.{FindNone, activities_few, find_none, leaves_small, nests_shallow}
use Rattle.range_laws.proofs.Named.{AreNamedTo, AreAllNamed, block_one, program_no_block, process_no_block, text_named}
use Rattle.range_laws.proofs.Queues.{all_at}
use Rattle.range_laws.proofs.Scenes.{some_is}
use Rattle.range_laws.proofs.Shapes.{block_adds, process_adds, no_deeper, there, shape_is}

-- ---- lists

contains_at : {X : Type 0} (xs : List X) (k : ℕ) (x : X) → slice_get xs k ≡ Some x → Contains xs x
contains_at [] k x at = absurd (none-some x at)
contains_at (y ∷ ys) zero x at = let e : y ≡ x = some_is y x at in (0, omega arith, e)
contains_at (y ∷ ys) (suc k) x at =
    let r = contains_at ys k x at in
    let less = r.1 in
    (suc r.0, omega (arith, less), r.2)

-- what stands at a place comes from what stands there
part_from : {X Y : Type 0} (R : X → Y → Type 0) (xs : List X) (ys : List Y) (i : ℕ) (y : Y) → AreParts (IsOne R) xs ys
    → slice_get ys i ≡ Some y → (x : X) × (slice_get xs i ≡ Some x) × R x y
part_from R _ _ i y NoneLeft at = absurd (none-some y at)
part_from R _ _ i y (NoPart one parts) at = absurd one
part_from R _ _ zero y (OnePart {x} {y = z} one parts) at = (x, refl, subst (R x) (some_is z y at) one)
part_from R _ _ (suc i) y (OnePart {xs} {ys} one parts) at = part_from R xs ys i y parts at

-- each gives one, so these are as many
parts_long : {X Y : Type 0} (R : X → Y → Type 0) (xs : List X) (ys : List Y) → AreParts (IsOne R) xs ys
    → length ys ≡ length xs
parts_long R _ _ NoneLeft = refl
parts_long R _ _ (NoPart one parts) = absurd one
parts_long R _ _ (OnePart {xs} {ys} one parts) = ap suc (parts_long R xs ys parts)

-- ---- more levels, and more templates

runs_weaker : (ts us : List Template) (P Q : Graph → Type 0) → ((g : Graph) → P g → Q g)
    → ((t : ℕ) (g : Graph) → graph_of ts t ≡ Some g → graph_of us t ≡ Some g) → (work : Work) → RunsOnly ts P work
    → RunsOnly us Q work
runs_weaker ts us P Q more kept (Program p) runs = tt
runs_weaker ts us P Q more kept (Block g) runs = more g runs
runs_weaker ts us P Q more kept (Process t) runs = (runs.0, kept t runs.0 runs.1, more runs.0 runs.2)

bounds_weaker : (ts us : List Template) → ((t : ℕ) (g : Graph) → graph_of ts t ≡ Some g → graph_of us t ≡ Some g)
    → (levels higher : ℕ) → levels ≤ higher → (g : Graph) → IsInBounds ts levels g → IsInBounds us higher g
bounds_weaker ts us kept zero higher le g here = absurd here
bounds_weaker ts us kept (suc levels) zero le g here = absurd (omega (arith, le))
bounds_weaker ts us kept (suc levels) (suc higher) le g here = record {
  few = here.few;
  each = λ a activity at. (
      let one = here.each a activity at in
      record {
        named = one.named;
        small = one.small;
        inside = runs_weaker ts us (IsInBounds ts levels) (IsInBounds us higher)
            (bounds_weaker ts us kept levels higher (omega (arith, le))) kept activity.work one.inside;
      });
}

graph_kept : (ts us : List Template) (t : ℕ) (g : Graph) → graph_of ts t ≡ Some g → graph_of (ts ++ us) t ≡ Some g
graph_kept [] us t g at = absurd (none-some g at)
graph_kept (x ∷ xs) us zero g at = at
graph_kept (x ∷ xs) us (suc t) g at = graph_kept xs us t g at

graph_at : (ts : List Template) (k : ℕ) (t : Template) → slice_get ts k ≡ Some t → graph_of ts k ≡ Some t.graph
graph_at [] k t at = absurd (none-some t.graph (let e : ⊥ = none-some t at in absurd e))
graph_at (x ∷ xs) zero t at = ap (λ (y : Template). Some y.graph) (some_is x t at)
graph_at (x ∷ xs) (suc k) t at = graph_at xs k t at

graph_behind : (ts us : List Template) (k : ℕ) (u : Template) → slice_get us k ≡ Some u
    → graph_of (ts ++ us) (length ts + k) ≡ Some u.graph
graph_behind [] us k u at = ap (graph_of us) (let e : 0 + k ≡ k = omega arith in e) ∙ graph_at us k u at
graph_behind (t ∷ ts) us k u at =
    ap (graph_of (t ∷ (ts ++ us))) (let e : length (t ∷ ts) + k ≡ suc (length ts + k) = omega arith in e)
    ∙ graph_behind ts us k u at

template_kept : (ts us : List Template) (t : Template) → IsBounded ts t → IsBounded (ts ++ us) t
template_kept ts us t one = record {
  fits = one.fits;
  shallow = one.shallow;
  graph = bounds_weaker ts (ts ++ us) (graph_kept ts us) (suc t.depth) (suc t.depth) (omega arith) t.graph one.graph;
}

-- ---- versions

version_small : (o : Option Template) → version_behind o < 2 ^ 32
version_small None = omega arith
version_small (Some t) = omega arith

module _ (library : Library) (ps : List ProcessTree) (us : List Template) (numbers : HaveNumbers library ps us)
    (k : ℕ) (u : Template) (at : slice_get us k ≡ Some u) where
  version_of : u.version < 2 ^ 32
  version_of =
      let read = map_read (λ (t : Template). t.version) us k u at in
      let next = map_found (λ (p : ProcessTree). next_version library p.name.name) ps k u.version
      (ap (λ ns. slice_get ns k) (sym numbers.versions) ∙ read) in
      subst (λ (n : ℕ). n < 2 ^ 32) (sym next.2)
      (version_small (option_and_then (λ place. slice_get library.templates place)
      (newest_place library next.0.name.name)))

-- ---- a text

module _ (library : Library) (items : List ItemTree) (r : Reading)
    (read : IsReading library items r) (us : List Template)
    (numbers : HaveNumbers library (processes_in items) us) (none : FindNone library items)
    (named : All (λ p. AreAllNamed p.elements) (processes_in items))
    (meant : AreMeantFrom r 0 (processes_in items) us)
    (before : All (IsBounded library.templates) library.templates) where
  abbrev ps : List ProcessTree
  ps = processes_in items

  -- all templates then
  abbrev ts : List Template
  ts = library.templates ++ us

  abbrev runs : ℕ → List ℕ → Shape
  runs number = named_shape (callee_named library ps) library (shapes_to (callee_named library ps) library ps number) number

  -- ---- leaves

  graph_leaves : (g : GraphText) → StandsIn items g → (leaves : List Leaf) → r.leaves g.input ≡ Some leaves
      → length leaves ≤ 512
  graph_leaves g stands leaves is =
      let at : GraphAt = record {
        process = g.process;
        place = stands.place;
        input = stands.input;
        output = stands.output;
        elements = g.elements;
      } in
      let has = read.leaves at (g.process, stands.process, stands.listed, stands.stands) in
      leaves_small (structures_in items) none.small leaves stands.input.name
      (sym has.input ∙ ap r.leaves stands.reads ∙ is)

  code_small : (o : Option (List Leaf)) (leaves : List Leaf) → ((found : List Leaf) → o ≡ Some found → length found ≤ 512)
      → with_code o ≡ Some leaves → length leaves < 2 ^ 16
  code_small None leaves small nothing' = absurd (none-some leaves nothing')
  code_small (Some found) leaves small is =
      let few = small found refl in
      let one : length leaves ≡ suc (length found) = ap length (sym (some_is (return_code ∷ found) leaves is)) in
      omega (arith, few, one)

  output_leaves : (g : GraphText) → StandsIn items g → (k : ℕ) (a : ActivityTree)
      → slice_get (activities_in g.elements) k ≡ Some a → (found : List Leaf) → r.leaves a.output.name ≡ Some found
      → length found ≤ 512
  output_leaves g stands k a at found is =
      let here : GraphAt = record {
        process = g.process;
        place = stands.place;
        input = stands.input;
        output = stands.output;
        elements = g.elements;
      } in
      let has = read.leaves here (g.process, stands.process, stands.listed, stands.stands) in
      let both = all_at (λ (b : ActivityTree). (r.leaves b.input.name ≡ leaves_in (structures_in items) b.input.name)
      × (r.leaves b.output.name ≡ leaves_in (structures_in items) b.output.name)) (activities_in g.elements) k a
      has.activities at in
      leaves_small (structures_in items) none.small found a.output.name (sym both.1 ∙ is)

  -- ---- activities

  graph_activities : (g : GraphText) → StandsIn items g → length (activities_in g.elements) ≤ 1024
  graph_activities g stands =
      let at : GraphAt = record {
        process = g.process;
        place = stands.place;
        input = stands.input;
        output = stands.output;
        elements = g.elements;
      } in
      activities_few library items none at (g.process, stands.process, stands.listed, stands.stands)

  -- ---- the processes that names stand for

  meant_at : (number k : ℕ) (qs : List ProcessTree) (vs : List Template) (p : ProcessTree)
      → AreMeantFrom r number qs vs → slice_get qs k ≡ Some p
      → (v : Template) × (slice_get vs k ≡ Some v) × IsMeant r (process_text (number + k) p) v.graph
  meant_at number k [] vs p all at = absurd (none-some p at)
  meant_at number k (q ∷ qs) [] p all at = absurd all
  meant_at number zero (q ∷ qs) (v ∷ vs) p all at =
      let same : q ≡ p = some_is q p at in
      let zero_more : number ≡ number + 0 = omega arith in (
        v,
        refl,
        subst (λ (n : ℕ). IsMeant r (process_text n p) v.graph) zero_more
            (subst (λ (x : ProcessTree). IsMeant r (process_text number x) v.graph) same all.0),
      )
  meant_at number (suc k) (q ∷ qs) (v ∷ vs) p all at =
      let more = meant_at (number + 1) k qs vs p all.1 at in
      let one_more : number + 1 + k ≡ number + suc k = omega arith in
      (more.0, more.1, subst (λ (n : ℕ). IsMeant r (process_text n p) more.0.graph) one_more more.2)

  -- the template of a process of the text
  template_of : (k : ℕ) (p : ProcessTree) → slice_get ps k ≡ Some p
      → (v : Template) × (slice_get us k ≡ Some v) × IsMeant r (process_text k p) v.graph
  template_of k p at =
      let found = meant_at 0 k ps us p meant at in
      let none_more : 0 + k ≡ k = omega arith in
      (found.0, found.1, subst (λ (n : ℕ). IsMeant r (process_text n p) found.0.graph) none_more found.2)

  -- what a name runs is there before: an earlier process of the text, or a template of the library
  abbrev IsThereBefore : ℕ → Callee → Type 0
  IsThereBefore number (callee.Text k) = k < number
  IsThereBefore number (callee.Library place) = (t : Template) × (slice_get library.templates place ≡ Some t)

  stored_there : (number : ℕ) (o : Option ℕ) (c : Callee)
      → option_and_then (λ place. option_map (λ t. callee.Library place) (slice_get library.templates place)) o ≡ Some c
      → IsThereBefore number c
  stored_there number None c none' = absurd (none-some c none')
  stored_there number (Some place) c is = go (slice_get library.templates place) refl is
    where
      go : (o : Option Template) → slice_get library.templates place ≡ o
          → option_map (λ t. callee.Library place) o ≡ Some c → IsThereBefore number c
      go None at none' = absurd (none-some c none')
      go (Some t) at found = subst (IsThereBefore number) (some_is (callee.Library place) c found) (t, at)

  named_there : (number : ℕ) (name : List ℕ) (o : Option ℕ) (c : Callee)
      → text_or (before_this number o) (stored_named library name) ≡ Some c → IsThereBefore number c
  named_there number name None c is = stored_there number (newest_place library name) c is
  named_there number name (Some k) c is = go (nat_lt k number) refl is
    where
      go : (b : Bool) → nat_lt k number ≡ b
          → text_or (if b then Some k else None) (stored_named library name) ≡ Some c → IsThereBefore number c
      go true so found =
          subst (IsThereBefore number) (some_is (callee.Text k) c found) (ltb-true k number so)
      go false so found = stored_there number (newest_place library name) c found

  callee_there : (number : ℕ) (name : List ℕ) (c : Callee) → callee_named library ps number name ≡ Some c
      → IsThereBefore number c
  callee_there number name c is = named_there number name (last_place (λ p. bytes_eq p.name.name name) ps) c is

  -- ---- the graphs of the text

  -- each graph that nests no deeper than this is in bounds
  abbrev AllNest : ℕ → Type 0
  AllNest d =
      (g : GraphText) (made : Graph) → IsMeant r g made → StandsIn items g → AreAllNamed g.elements
      → (graph_shape (runs g.process) g.elements).depth ≤ d → IsInBounds ts (suc d) made

  -- a template stands at a place, in bounds
  abbrev IsBoundedAt : ℕ → ℕ → Type 0
  IsBoundedAt levels place = (h : Graph) × (graph_of ts place ≡ Some h) × IsInBounds ts levels h

  module _ (d : ℕ) (deeper : (e : ℕ) → d ≡ suc e → AllNest e) where
    text_bounded : (number k : ℕ) → number < length ps → k < number
        → (shape_at (shapes_to (callee_named library ps) library ps number) k).depth + 1 ≤ d
        → IsBoundedAt d (length library.templates + k)
    text_bounded number k inside less deep =
        let p = there ps k (omega (arith, inside, less)) in
        let v = template_of k p.0 p.1 in
        let shape : (shape_at (shapes_to (callee_named library ps) library ps number) k).depth
        ≡ (graph_shape (runs k) p.0.elements).depth =
        ap (λ (s : Shape). s.depth)
        (shape_is (callee_named library ps) library ps number k p.0 (omega (arith, inside)) less p.1) in
        let one : d ≡ suc (d - 1) = omega (arith, deep) in (
          v.0.graph,
          graph_behind library.templates us k v.0 v.1,
          subst (λ (n : ℕ). IsInBounds ts n v.0.graph) (sym one)
              (deeper (d - 1) one (process_text k p.0) v.0.graph v.2 (process_stands items k p.0 p.1)
              (all_at (λ (q : ProcessTree). AreAllNamed q.elements) ps k p.0 named p.1) (omega (arith, deep, shape))),
        )

    library_bounded : (place : ℕ) (t : Template) → slice_get library.templates place ≡ Some t → t.depth + 1 ≤ d
        → IsBoundedAt d place
    library_bounded place t at deep =
        let one = all_at (IsBounded library.templates) library.templates place t before at in (
          t.graph,
          graph_kept library.templates us place t.graph (graph_at library.templates place t at),
          bounds_weaker library.templates ts (graph_kept library.templates us) (suc t.depth) d (omega (arith, deep))
              t.graph one.graph,
        )

    callee_bounded : (number : ℕ) → number < length ps → (c : Callee) → IsThereBefore number c
        → (callee_shape library (shapes_to (callee_named library ps) library ps number) (Some c)).depth + 1 ≤ d
        → IsBoundedAt d (place_among library c)
    callee_bounded number inside (callee.Text k) less deep = text_bounded number k inside less deep
    callee_bounded number inside (callee.Library place) found deep =
        let shape : (callee_shape library (shapes_to (callee_named library ps) library ps number)
        (Some (callee.Library place))).depth ≡ found.0.depth =
        ap (λ (o : Option Template). (unwrap_or (option_map (λ (t : Template). let s : Shape = record {
          depth = t.depth;
          size = t.size;
        } in s) o) nothing).depth) found.1 in
        library_bounded place found.0 found.1 (omega (arith, deep, shape))

    name_bounded : (number : ℕ) (name : List ℕ) (place : ℕ) → number < length ps → r.place number name ≡ Some place
        → (runs number name).depth + 1 ≤ d → IsBoundedAt d place
    name_bounded number name place inside is deep =
        go (callee_named library ps number name) refl (sym (read.places number name) ∙ is)
      where
        go : (o : Option Callee) → callee_named library ps number name ≡ o
            → option_map (place_among library) o ≡ Some place → IsBoundedAt d place
        go None so none' = absurd (none-some place none')
        go (Some c) so found =
            let shape : (runs number name).depth
            ≡ (callee_shape library (shapes_to (callee_named library ps) library ps number) (Some c)).depth =
            ap (λ (o : Option Callee). (callee_shape library (shapes_to (callee_named library ps) library ps number)
            o).depth) so in
            subst (IsBoundedAt d) (some_is (place_among library c) place found)
            (callee_bounded number inside c (callee_there number name c so) (omega (arith, deep, shape)))

    module _ (g : GraphText) (stands : StandsIn items g) (named' : AreAllNamed g.elements)
        (depth : (graph_shape (runs g.process) g.elements).depth ≤ d) (a : ActivityTree) (k : ℕ)
        (at : slice_get (activities_in g.elements) k ≡ Some a) where
      nests_less : (work_adds (runs g.process) a.work).depth ≤ d
      nests_less =
          let le = no_deeper (runs g.process) g.elements k a at in
          omega (arith, le, depth)

      -- the block is meant, to every depth
      block_meant : (inner : List ElementTree) → a.work ≡ work.Block inner → (h : Graph)
          → ((n : ℕ) → IsWork (MeantTo r n) r g a (Block h)) → IsMeant r (block_text g.process a inner) h
      block_meant inner is h works n = go (works n)
        where
          go : IsWork (MeantTo r n) r g a (Block h) → MeantTo r n (block_text g.process a inner) h
          go (ProgramOf e made) = absurd (program_no_block inner (sym e ∙ is))
          go (ProcessOf name place e found made) = absurd (process_no_block name inner (sym e ∙ is))
          go (BlockOf es e has) =
              subst (λ (xs : List ElementTree). MeantTo r n (block_text g.process a xs) h)
              (block_one es inner (sym e ∙ is)) has

      block_bounded : (inner : List ElementTree) → a.work ≡ work.Block inner → (h : Graph)
          → ((n : ℕ) → IsWork (MeantTo r n) r g a (Block h)) → IsInBounds ts d h
      block_bounded inner is h works =
          let adds : (work_adds (runs g.process) a.work).depth ≡ (graph_shape (runs g.process) inner).depth + 1 =
          ap (λ (w : WorkTree). (work_adds (runs g.process) w).depth) is
          ∙ ap (λ (s : Shape). s.depth) (block_adds (runs g.process) inner) in
          let le = nests_less in
          let one : d ≡ suc (d - 1) = omega (arith, adds, le) in
          subst (λ (n : ℕ). IsInBounds ts n h) (sym one)
          (deeper (d - 1) one (block_text g.process a inner) h (block_meant inner is h works)
          (block_stands items g a inner (contains_at (activities_in g.elements) k a at) is stands)
          (λ n. (all_at (λ (b : ActivityTree). (is_name b.name.name ≡ true)
          × ((es : List ElementTree) → IsBlockOf b es → AreNamedTo n es)) (activities_in g.elements) k a
          (named' (suc n)) at).1 inner is) (omega (arith, adds, le)))

      work_runs : (made : Work) → ((n : ℕ) → IsWork (MeantTo r n) r g a made) → IsWork (MeantTo r 0) r g a made
          → RunsOnly ts (IsInBounds ts d) made
      work_runs made works (ProgramOf e is) = subst (RunsOnly ts (IsInBounds ts d)) (sym is) tt
      work_runs made works (ProcessOf name place e found is) =
          let adds : (work_adds (runs g.process) a.work).depth ≡ (runs g.process name.name).depth + 1 =
          ap (λ (w : WorkTree). (work_adds (runs g.process) w).depth) e
          ∙ ap (λ (s : Shape). s.depth) (process_adds (runs g.process) name) in
          let le = nests_less in
          subst (RunsOnly ts (IsInBounds ts d)) (sym is)
          (name_bounded g.process name.name place (within ps g.process stands.process stands.listed) found
          (omega (arith, adds, le)))
      work_runs (Program p) works (BlockOf inner e has) = absurd has
      work_runs (Block h) works (BlockOf inner e has) = block_bounded inner e h works
      work_runs (Process t) works (BlockOf inner e has) = absurd has

    graph_step : AllNest d
    graph_step g made meant' stands named' depth = record {
      few =
          let same = parts_long (IsActivity (MeantTo r 0) r g) (activities_in g.elements) (out-Graph made).activities
          (meant' 1).activities in
          let most = graph_activities g stands in
          omega (arith, same, most);
      each = λ i activity at. (
          let part = λ (n : ℕ). part_from (IsActivity (MeantTo r n) r g) (activities_in g.elements)
          (out-Graph made).activities i activity (meant' (suc n)).activities at in
          let a = (part 0).0 in
          let there' = (part 0).1 in
          let one = (part 0).2 in
          let all_named = all_at (λ (b : ActivityTree). (is_name b.name.name ≡ true)
          × ((es : List ElementTree) → IsBlockOf b es → AreNamedTo 0 es)) (activities_in g.elements) i a (named' 1)
          there' in
          let works : (n : ℕ) → IsWork (MeantTo r n) r g a activity.work = λ n.
          subst (λ (x : ActivityTree). IsWork (MeantTo r n) r g x activity.work)
          (some_is (part n).0 a (sym (part n).1 ∙ there')) (part n).2.works in
          record {
            named = subst IsName (sym one.named) all_named.0;
            small = code_small (r.leaves a.output.name) activity.output.leaves (output_leaves g stands i a there')
                one.output;
            inside = work_runs g stands named' depth a i there' activity.work works (works 0);
          });
    }

  all_nest : (d : ℕ) → AllNest d
  all_nest zero = graph_step zero (λ e is. absurd (omega (arith, is)))
  all_nest (suc d) =
      graph_step (suc d) (λ e is. let same : d ≡ e = omega (arith, is) in subst AllNest same (all_nest d))

  -- ---- its templates

  process_of_template : (number k : ℕ) (qs : List ProcessTree) (vs : List Template) (v : Template)
      → AreMeantFrom r number qs vs → slice_get vs k ≡ Some v → (q : ProcessTree) × (slice_get qs k ≡ Some q)
  process_of_template number k [] [] v all at = absurd (none-some v at)
  process_of_template number k [] (w ∷ vs) v all at = absurd all
  process_of_template number k (q ∷ qs) [] v all at = absurd all
  process_of_template number zero (q ∷ qs) (w ∷ vs) v all at = (q, refl)
  process_of_template number (suc k) (q ∷ qs) (w ∷ vs) v all at = process_of_template (number + 1) k qs vs v all.1 at

  template_bounded : (k : ℕ) (u : Template) → slice_get us k ≡ Some u → IsBounded ts u
  template_bounded k u at =
      let p = process_of_template 0 k ps us u meant at in
      let v = template_of k p.0 p.1 in
      let same : v.0 ≡ u = some_is v.0 u (sym v.1 ∙ at) in
      let graph : IsMeant r (process_text k p.0) u.graph =
      subst (λ (t : Template). IsMeant r (process_text k p.0) t.graph) same v.2 in
      let stands = process_stands items k p.0 p.1 in
      let inside = within ps k p.0 p.1 in
      let least = nests_shallow library items none k p.0 p.1 in
      let shape : (shape_at (shapes_of library ps) k).depth ≡ (graph_shape (runs k) p.0.elements).depth =
      ap (λ (s : Shape). s.depth)
      (shape_is (callee_named library ps) library ps (length ps) k p.0 (omega arith) inside p.1) in
      let told = (numbers.shaped k u at).depth in
      let few = graph_leaves (process_text k p.0) stands (out-Graph u.graph).input.leaves (graph 1).input in
      record {
        fits = record { version = version_of library ps us numbers k u at; small = omega (arith, few) };
        shallow = omega (arith, told, least);
        graph = all_nest u.depth (process_text k p.0) u.graph graph stands
            (all_at (λ (q : ProcessTree). AreAllNamed q.elements) ps k p.0 named p.1)
            (omega (arith, told, least, shape));
      }

  all_from : {X : Type 0} (P : X → Type 0) (xs : List X) → ((k : ℕ) (x : X) → slice_get xs k ≡ Some x → P x) → All P xs
  all_from P [] each = All-nil P
  all_from P (x ∷ xs) each = All-cons P x xs (each 0 x refl) (all_from P xs (λ k y at. each (suc k) y at))

  pub all_bounded : All (IsBounded ts) ts
  all_bounded =
      All-append (IsBounded ts) library.templates us
      (All-weaker (IsBounded library.templates) (IsBounded ts) (template_kept library.templates us) library.templates
      before)
      (all_from (IsBounded ts) us template_bounded)

-- the templates of a library are bounded
abbrev pub AreBounded : List Template → Type 0
AreBounded ts = All (IsBounded ts) ts

-- what a text means, behind a library in bounds
pub meaning_bounded : (library : Library) (text : List ℕ) (added : Added) → IsMeaning library text added
    → AreBounded library.templates → AreBounded (library.templates ++ added.templates)
meaning_bounded library text added is before =
    let meant = is.meant in
    let tree = tree_one text is.faultless.tree meant.tree is.faultless.has meant.has in
    let none : FindNone library meant.tree.items =
    subst (λ (t : Tree). FindNone library t.items) tree
    (find_none library is.faultless.tree.items is.faultless.none) in
    all_bounded library meant.tree.items meant.reading meant.read added.templates meant.numbered none
    (text_named text meant.tree meant.has) meant.meant before
