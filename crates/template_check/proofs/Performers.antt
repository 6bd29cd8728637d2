-- Where rule 20 finds nothing in the graphs of a text, performers come before in what it means.
use Rattle.std.proofs.Common.{◌≡◌, ℕ, zero, suc, ◌+◌, List, [], ◌∷◌, length, filter_map, Option, Some, None, refl, sym, ap, subst, ◌∙◌, inl, inr, ⊎_elim, arith}
use Rattle.std.specs.Prelude.{slice_get, unwrap_or}
use Rattle.std.specs.List.{All, Contains}
use Rattle.std.specs.Option.{option_map, option_or}
use Rattle.flow_model.specs.ScopeContainers.{graph_in}
use Rattle.flow_model.specs.declared.graphs.Control.{Control}
use Rattle.flow_model.specs.declared.graphs.DoneBy.{DoneBy}
use Rattle.flow_model.specs.declared.graphs.DoneBy.TheVariants as doer
use Rattle.flow_model.specs.declared.graphs.Graph.{Graph, out-Graph}
use Rattle.flow_model.specs.declared.graphs.Program.{Program as ProgramOf}
use Rattle.flow_model.specs.declared.graphs.Template.{Template}
use Rattle.flow_model.specs.declared.graphs.Work.{Work, Program, Block, Process}
use Rattle.flow_model.specs.declared.trees.ActivityTree.{ActivityTree}
use Rattle.flow_model.specs.declared.trees.AttrAt.{AttrAt}
use Rattle.flow_model.specs.declared.trees.AttrTree.{AttrTree}
use Rattle.flow_model.specs.declared.trees.AttrTree.TheVariants as attr
use Rattle.flow_model.specs.declared.trees.ControlTree.{ControlTree}
use Rattle.flow_model.specs.declared.trees.ElementTree.{ElementTree}
use Rattle.flow_model.specs.declared.trees.ItemTree.{ItemTree}
use Rattle.flow_model.specs.declared.trees.ProcessTree.{ProcessTree}
use Rattle.graph_check.specs.Walks.{Reaches}
use Rattle.process_rules.specs.Doers.{IsPerformer, IsNoPerformer, NamesNoPerformer}
use Rattle.process_rules.specs.Numbering.{NumberedAt}
use Rattle.text_graphs.specs.Attributes.{done_by, doer_said, first_said}
use Rattle.text_graphs.specs.Blocks.{IsBlockOf}
use Rattle.text_graphs.specs.GraphTexts.{GraphText, process_text, block_text}
use Rattle.text_graphs.specs.Graphs.{GraphAt, block_at, process_at, Itself, Deeper, IsGraphInside, IsGraphOfProcess, InGraphs}
use Rattle.text_graphs.specs.Places.{AnyAt}
use Rattle.text_graphs.specs.Texts.{activities_in, controls_in, edges_in, edge_of, number_in, pair_of, processes_in}
use Rattle.text_graphs.proofs.Judging.{edges_below}
use Rattle.template_check.specs.Built.{PerformersComeBefore, ComeBeforeWith, ComeBeforeTo, ComeBeforeAlone}
use Rattle.template_check.specs.Meant.{AreParts, NoneLeft, NoPart, OnePart, IsOne, HasInside, IsActivity, IsControl, IsMeantWith, IsWork, ProgramOf as program_of, ProcessOf, BlockOf, MeantTo, AreMeantFrom, Reading}
use Rattle.template_check.specs.Wires.{pairs_of}
use Rattle.template_check.proofs.Laying.{walk_along}
use Rattle.template_check.proofs.Walking.{reaches_settled}

some_same : {X : Type 0} (a b : X) → Some a ≡ Some b → a ≡ b
some_same a b e = cc

-- ---- who is asked for

known_place : (o : Option ℕ) (b : ℕ) → option_map (λ place. doer.PerformerOf place) o ≡ Some (doer.PerformerOf b) → o ≡ Some b
known_place None b is = cc
known_place (Some k) b is = let same : k ≡ b = cc in ap Some same

module _ (elements : List ElementTree) (to : ℕ) where
  -- the attribute that asks for a performer names one from whom a walk leads here
  attribute_leads : (what : AttrTree) (b : ℕ) → doer_said elements what ≡ Some (doer.PerformerOf b) → ((p : ℕ) → IsNoPerformer elements to what p → ⊥) → (Reaches (edges_in elements) b to → ⊥) → ⊥
  attribute_leads (attr.When j) b is right never = cc
  attribute_leads (attr.Exit c) b is right never = cc
  attribute_leads (attr.Start manual) b is right never = cc
  attribute_leads (attr.Expires number) b is right never = cc
  attribute_leads (attr.Role name) b is right never = cc
  attribute_leads (attr.Person name) b is right never = cc
  attribute_leads attr.Starter b is right never = cc
  attribute_leads (attr.Performer name) b is right never =
      let at = known_place (number_in elements name.name) b is in
      right name.place (
        λ (performs : IsPerformer elements name.name to).
            let leads = performs.0 in
            let same : leads.0 ≡ b = some_same leads.0 b (sym leads.1 ∙ at) in
            never (subst (λ (n : ℕ). Reaches (edges_in elements) n to) same leads.2),
        refl,
      )

  first_leads : (attrs : List AttrAt) (b : ℕ) → first_said (doer_said elements) attrs ≡ Some (doer.PerformerOf b) → ((p : ℕ) → AnyAt (λ x. IsNoPerformer elements to x.what) attrs p → ⊥)
      → (Reaches (edges_in elements) b to → ⊥) → ⊥
  first_leads [] b is right never = cc
  first_leads (a ∷ attrs) b is right never = go (doer_said elements a.what) refl is (λ later. first_leads attrs b later (λ p h. right p (inr h)) never)
    where
      go : (o : Option DoneBy) → doer_said elements a.what ≡ o → option_or o (first_said (doer_said elements) attrs) ≡ Some (doer.PerformerOf b) → (first_said (doer_said elements) attrs ≡ Some (doer.PerformerOf b) → ⊥) → ⊥
      go None here is later = later is
      go (Some d) here is later = attribute_leads a.what b (here ∙ is) (λ p h. right p (inl h)) never

  said : (o : Option DoneBy) (b : ℕ) → unwrap_or o doer.Starter ≡ doer.PerformerOf b → o ≡ Some (doer.PerformerOf b)
  said None b is = cc
  said (Some d) b is = ap Some is

  performer_leads : (attrs : List AttrAt) (b : ℕ) → done_by elements attrs ≡ doer.PerformerOf b → ((p : ℕ) → AnyAt (λ x. IsNoPerformer elements to x.what) attrs p → ⊥) → Reaches (edges_in elements) b to
  performer_leads attrs b is right =
      ⊎_elim (λ reaches. reaches) (λ none. absurd (first_leads attrs b (said (first_said (doer_said elements) attrs) b is) right none))
      (reaches_settled (edges_in elements) (length (activities_in elements)) (λ a c edge. (edges_below elements a c edge).1) b to)

-- ---- a graph that is meant

-- each element that gives one stands at its place
part_at : {X Y : Type 0} (R : X → Y → Type 0) (xs : List X) (ys : List Y) → AreParts (IsOne R) xs ys → (k : ℕ) (y : Y) → slice_get ys k ≡ Some y → (x : X) × (slice_get xs k ≡ Some x) × R x y
part_at R _ _ NoneLeft k y is = cc
part_at R _ _ (NoPart none rest) k y is = absurd none
part_at {X} {Y} R (x ∷ xs) (z ∷ zs) (OnePart here rest) zero y is = let same : z ≡ y = cc in (x, refl, subst (R x) same here)
part_at R (x ∷ xs) (z ∷ zs) (OnePart here rest) (suc k) y is = part_at R xs zs rest k y is

controls_are : (r : Reading) (elements : List ElementTree) (cs : List ControlTree) (controls : List Control) → AreParts (IsOne (IsControl r.leaves elements)) cs controls → pairs_of controls ≡ filter_map (edge_of elements) cs
controls_are r elements _ _ NoneLeft = refl
controls_are r elements _ _ (NoPart none rest) = absurd none
controls_are r elements (c ∷ cs) (d ∷ controls) (OnePart here rest) =
    let edge : edge_of elements c ≡ Some (d.from, d.to) = ap (λ o. pair_of o (number_in elements c.to.name)) here.from ∙ ap (λ o. pair_of (Some d.from) o) here.to in
    rw edge (ap (λ (es : List (ℕ × ℕ)). (d.from, d.to) ∷ es) (controls_are r elements cs controls rest))

-- the program of an activity
program_meant : (P : GraphText → Graph → Type 0) (r : Reading) (g : GraphText) (a : ActivityTree) (made : Work) (p : ProgramOf) → IsWork P r g a made → made ≡ Program p → p.by ≡ done_by g.elements a.attrs
program_meant P r g a made p (program_of work is) now = let h = sym now ∙ is in program_same h
  where
    program_same : {p q : ProgramOf} → Program p ≡ Program q → p.by ≡ q.by
    program_same h = cc
program_meant P r g a made p (ProcessOf name place work at is) now = let h = sym now ∙ is in absurd (cc)
program_meant P r g a made p (BlockOf inner work has) now = absurd (subst (HasInside (P (block_text g.process a inner))) now has)

-- rule 20 finds nothing among these elements
abbrev pub IsRight : List ElementTree → Type 0
IsRight elements = (p : ℕ) → NumberedAt (λ number a. AnyAt (λ x. IsNoPerformer elements number x.what) a.attrs) (activities_in elements) p → ⊥

performers_before : (P : GraphText → Graph → Type 0) (r : Reading) (g : GraphText) (made : Graph) → IsRight g.elements → IsMeantWith P r g made → PerformersComeBefore made
performers_before P r g made right meant a b activity p at program by =
    let found = part_at (IsActivity P r g) (activities_in g.elements) (out-Graph made).activities meant.activities a activity at in
    let said : done_by g.elements found.0.attrs ≡ doer.PerformerOf b = sym (program_meant P r g found.0 activity.work p found.2.works program) ∙ by in
    let reaches = performer_leads g.elements a found.0.attrs b said (λ q h. right q (a, found.0, found.1, h)) in
    let same = controls_are r g.elements (controls_in g.elements) (out-Graph made).controls meant.controls in
    let walk = rw (← same) at reaches.1 in
    walk_along (out-Graph made).controls reaches.0 b a walk

-- ---- and the blocks inside it

-- the elements of the block that an activity runs, and what its graph is
inside_meant : (P : GraphText → Graph → Type 0) (r : Reading) (g : GraphText) (a : ActivityTree) (made : Work) (h : Graph) → IsWork P r g a made → graph_in [] made ≡ Some h
    → (inner : List ElementTree) × IsBlockOf a inner × P (block_text g.process a inner) h
inside_meant P r g a made h (program_of work is) runs = let none = rw is at runs in absurd (cc)
inside_meant P r g a made h (ProcessOf name place work at is) runs = let none = rw is at runs in absurd (cc)
inside_meant P r g a made h (BlockOf inner work has) runs = (inner, work, block made has runs)
  where
    block : (w : Work) → HasInside (P (block_text g.process a inner)) w → graph_in [] w ≡ Some h → P (block_text g.process a inner) h
    block (Program p) has runs = absurd has
    block (Block x) has runs = let same : x ≡ h = cc in subst (P (block_text g.process a inner)) same has
    block (Process t) has runs = absurd has

listed : {X : Type 0} (xs : List X) (k : ℕ) (x : X) → slice_get xs k ≡ Some x → Contains xs x
listed [] k x is = cc
listed (y ∷ xs) zero x is = let same : y ≡ x = cc in (0, omega arith, same)
listed (y ∷ xs) (suc k) x is = let h = listed xs k x is in (suc h.0, let l = h.1 in omega (arith, l), h.2)

module _ (r : Reading) (number : ℕ) where
  come_before : (depth : ℕ) (g : GraphText) (made : Graph) → IsRight g.elements → ((h : GraphAt) → IsGraphInside number g.elements h → IsRight h.elements) → MeantTo r (suc depth) g made
      → (P : Graph → Type 0) → ((x : GraphText) (h : Graph) → IsRight x.elements → ((y : GraphAt) → IsGraphInside number x.elements y → IsRight y.elements) → MeantTo r depth x h → P h)
      → ComeBeforeWith [] made P
  come_before depth g made right inside meant P gives = record {
    here = performers_before (MeantTo r depth) r g made right meant;
    inside = λ a activity h at runs.
        let found = part_at (IsActivity (MeantTo r depth) r g) (activities_in g.elements) (out-Graph made).activities meant.activities a activity at in
        let block = inside_meant (MeantTo r depth) r g found.0 activity.work h found.2.works runs in
        let has = listed (activities_in g.elements) a found.0 found.1 in
        gives (block_text g.process found.0 block.0) h
        (inside (block_at number found.0 block.0) (found.0, has, Itself block.0 block.1 refl))
        (λ y within. inside y (found.0, has, Deeper block.0 within.0 block.1 within.1 within.2))
        block.2;
  }

  alone_before : (depth : ℕ) (g : GraphText) (made : Graph) → IsRight g.elements → ((h : GraphAt) → IsGraphInside number g.elements h → IsRight h.elements) → MeantTo r (suc depth) g made → ComeBeforeTo [] depth made
  alone_before zero g made right inside meant = come_before 0 g made right inside meant (λ h. Unit {0}) (λ x h a b m. tt)
  alone_before (suc depth) g made right inside meant = come_before (suc depth) g made right inside meant (ComeBeforeTo [] depth) (alone_before depth)

-- ---- all templates of a text

-- rule 20 finds nothing in the graphs of these processes, the first of which has this number
abbrev AllRight : ℕ → List ProcessTree → Type 0
AllRight number ps = (k : ℕ) (p : ProcessTree) → slice_get ps k ≡ Some p → (h : GraphAt) → IsGraphOfProcess (number + k) p h → IsRight h.elements

all_before : (r : Reading) (number : ℕ) (ps : List ProcessTree) (ts : List Template) → AllRight number ps → AreMeantFrom r number ps ts → All (λ t. ComeBeforeAlone t.graph) ts
all_before r number [] [] right meant = λ k d less. absurd (omega (arith, less))
all_before r number [] (t ∷ ts) right meant = absurd meant
all_before r number (p ∷ ps) [] right meant = absurd meant
all_before r number (p ∷ ps) (t ∷ ts) right meant =
    go (all_before r (number + 1) ps ts (λ k q at h of. right (suc k) q at h (subst (λ (n : ℕ). IsGraphOfProcess n q h) (omega arith) of)) meant.1)
  where
    own : (h : GraphAt) → IsGraphOfProcess number p h → IsRight h.elements
    own h of = right 0 p refl h (subst (λ (n : ℕ). IsGraphOfProcess n p h) (omega arith) of)

    go : All (λ u. ComeBeforeAlone u.graph) ts → All (λ u. ComeBeforeAlone u.graph) (t ∷ ts)
    go rest zero d less = λ depth. alone_before r number depth (process_text number p) t.graph (own (process_at number p) (inl refl)) (λ h inside. own h (inr inside)) (meant.0 (suc depth))
    go rest (suc k) d less = rest k d (omega (arith, less))

-- where rule 20 finds nothing in a text, performers come before in all that it means
pub all_performed : (items : List ItemTree) (r : Reading) (ts : List Template) → ((p : ℕ) → InGraphs items NamesNoPerformer p → ⊥) → AreMeantFrom r 0 (processes_in items) ts → All (λ t. ComeBeforeAlone t.graph) ts
all_performed items r ts none meant =
    all_before r 0 (processes_in items) ts (λ k p at h of q wrong. none q (h, (k, p, at, subst (λ (n : ℕ). IsGraphOfProcess n p h) (omega arith) of), wrong)) meant
