-- The templates of a text that breaks no rule have leaves with names apart.
use Rattle.std.proofs.Common.{◌≡◌, ℕ, zero, suc, ◌+◌, List, [], ◌∷◌, Some, refl, sym, ap, subst, ◌∙◌, arith}
use Rattle.std.specs.List.{Contains}
use Rattle.std.specs.Prelude.{slice_get}
use Rattle.std.proofs.lemmas.List.Elements.{All-nil, All-cons}
use Rattle.std.proofs.lemmas.Option.{none-some}
use Rattle.flow_model.specs.ScopeContainers.{graph_in}
use Rattle.flow_model.specs.declared.graphs.Graph.{Graph, out-Graph}
use Rattle.flow_model.specs.declared.graphs.Leaf.{Leaf}
use Rattle.flow_model.specs.declared.graphs.Template.{Template}
use Rattle.flow_model.specs.declared.graphs.Work.{Work, Program, Block, Process}
use Rattle.flow_model.specs.declared.trees.ActivityTree.{ActivityTree}
use Rattle.flow_model.specs.declared.trees.ItemTree.{ItemTree}
use Rattle.flow_model.specs.declared.trees.ProcessTree.{ProcessTree}
use Rattle.leaf_rules.specs.StructureLeaves.{leaves_in}
use Rattle.leaf_rules.specs.Tables.{HasContainers}
use Rattle.template_check.specs.Compiling.{AreLeavesOf}
use Rattle.template_check.specs.Meant.{Reading, AreParts, NoneLeft, NoPart, OnePart, IsOne, IsWork, IsActivity, MeantTo}
use Rattle.template_check.specs.Meant.{IsMeant, AreMeantFrom, ProgramOf as RunsProgram, ProcessOf as RunsProcess}
use Rattle.template_check.specs.Meant.{BlockOf as RunsBlock}
use Rattle.text_graphs.specs.Graphs.{GraphAt}
use Rattle.text_graphs.specs.GraphTexts.{GraphText, process_text, block_text}
use Rattle.text_graphs.specs.Texts.{activities_in, processes_in, structures_in}
use Rattle.text_laws.proofs.Inside.{StandsIn, process_stands, block_stands}
use Rattle.admission_laws.specs.ApartLeaves.{AreLeavesApart, HasOutputsApartTo, HasLeavesApart, HaveLeavesApart}
use Rattle.admission_laws.proofs.Structures.{DeclareOnce, AreBesideCode, leaves_apart, code_before}
use Rattle.admission_laws.proofs.Written.{at_place}

-- ---- lists

contains_at : {X : Type 0} (xs : List X) (k : ℕ) (x : X) → slice_get xs k ≡ Some x → Contains xs x
contains_at [] k x there = absurd (none-some x there)
contains_at (y ∷ ys) zero x there = let same : y ≡ x = cc in (0, omega arith, same)
contains_at (y ∷ ys) (suc k) x there =
    let more = contains_at ys k x there in
    let less = more.1 in
    (suc more.0, omega (arith, less), more.2)

-- what stands at a place comes from what stands there
part_from : {X Y : Type 0} (R : X → Y → Type 0) (xs : List X) (ys : List Y) (i : ℕ) (y : Y) → AreParts (IsOne R) xs ys
    → slice_get ys i ≡ Some y → (x : X) × (slice_get xs i ≡ Some x) × R x y
part_from R _ _ i y NoneLeft there = absurd (none-some y there)
part_from R _ _ i y (NoPart one parts) there = absurd one
part_from R _ _ zero y (OnePart {x} {y = z} one parts) there =
    let same : z ≡ y = cc in
    (x, refl, subst (R x) same one)
part_from R _ _ (suc i) y (OnePart {xs} {ys} one parts) there = part_from R xs ys i y parts there

-- ---- a text

module _ (items : List ItemTree) (r : Reading) (read : AreLeavesOf items r.leaves)
    (once : DeclareOnce (structures_in items)) where
  -- the graph of a text, where it stands
  abbrev graph_there : (g : GraphText) → StandsIn items g → GraphAt
  graph_there g stands = record {
    process = g.process;
    place = stands.place;
    input = stands.input;
    output = stands.output;
    elements = g.elements;
  }

  containers : (g : GraphText) (stands : StandsIn items g)
      → HasContainers (leaves_in (structures_in items)) r.leaves (graph_there g stands)
  containers g stands = read (graph_there g stands) (g.process, stands.process, stands.listed, stands.stands)

  -- the leaves of the input of a graph
  input_apart : (g : GraphText) → StandsIn items g → (leaves : List Leaf) → r.leaves g.input ≡ Some leaves
      → AreLeavesApart leaves
  input_apart g stands leaves is =
      let has = containers g stands in
      (leaves_apart (structures_in items) once stands.input.name leaves
      (sym has.input ∙ ap r.leaves stands.reads ∙ is)).0

  -- the leaves of the structure of the output of an activity
  output_beside : (g : GraphText) → StandsIn items g → (k : ℕ) (a : ActivityTree)
      → slice_get (activities_in g.elements) k ≡ Some a → (found : List Leaf) → r.leaves a.output.name ≡ Some found
      → AreBesideCode found
  output_beside g stands k a there found is =
      let has = containers g stands in
      let both = at_place (λ (b : ActivityTree). (r.leaves b.input.name ≡ leaves_in (structures_in items) b.input.name)
      × (r.leaves b.output.name ≡ leaves_in (structures_in items) b.output.name)) (activities_in g.elements) k a
      has.activities there in
      leaves_apart (structures_in items) once a.output.name found (sym both.1 ∙ is)

  -- the graph of a block
  block_apart : (depth : ℕ) → ((g : GraphText) (made : Graph) → StandsIn items g → MeantTo r depth g made
      → HasOutputsApartTo depth made) → (g : GraphText) → StandsIn items g → (k : ℕ) (a : ActivityTree)
      → slice_get (activities_in g.elements) k ≡ Some a → (work : Work) → IsWork (MeantTo r depth) r g a work
      → (h : Graph) → graph_in [] work ≡ Some h → HasOutputsApartTo depth h
  block_apart depth deeper g stands k a at work (RunsProgram is made) h there =
      absurd (none-some h (sym (ap (graph_in []) made) ∙ there))
  block_apart depth deeper g stands k a at work (RunsProcess name place is found made) h there =
      absurd (none-some h (sym (ap (graph_in []) made) ∙ there))
  block_apart depth deeper g stands k a at (Program p) (RunsBlock inner is has) h there = absurd has
  block_apart depth deeper g stands k a at (Block block) (RunsBlock inner is has) h there =
      let same : block ≡ h = cc in
      subst (HasOutputsApartTo depth) same
      (deeper (block_text g.process a inner) block
      (block_stands items g a inner (contains_at (activities_in g.elements) k a at) is stands) has)
  block_apart depth deeper g stands k a at (Process t) (RunsBlock inner is has) h there = absurd has

  outputs_apart : (depth : ℕ) (g : GraphText) (made : Graph) → StandsIn items g → MeantTo r depth g made
      → HasOutputsApartTo depth made
  outputs_apart zero g made stands meant = tt
  outputs_apart (suc depth) g made stands meant = λ i activity there. (
      let part = part_from (IsActivity (MeantTo r depth) r g) (activities_in g.elements) (out-Graph made).activities i
      activity meant.activities there in
      record {
        output = code_before (r.leaves part.0.output.name) activity.output.leaves
            (output_beside g stands i part.0 part.1) part.2.output;
        inside = λ h at.
            block_apart depth (λ t k. outputs_apart depth t k) g stands i part.0 part.1 activity.work part.2.works h at;
      })

  graph_apart : (g : GraphText) (made : Graph) → StandsIn items g → IsMeant r g made → HasLeavesApart made
  graph_apart g made stands meant = record {
    input = input_apart g stands (out-Graph made).input.leaves (meant 1).input;
    outputs = λ depth. outputs_apart depth g made stands (meant depth);
  }

  templates_from : (number : ℕ) (ps : List ProcessTree) (ts : List Template)
      → ((k : ℕ) (p : ProcessTree) → slice_get ps k ≡ Some p → slice_get (processes_in items) (number + k) ≡ Some p)
      → AreMeantFrom r number ps ts → HaveLeavesApart ts
  templates_from number [] [] placed meant = All-nil (λ (t : Template). HasLeavesApart t.graph)
  templates_from number [] (t ∷ ts) placed meant = absurd meant
  templates_from number (p ∷ ps) [] placed meant = absurd meant
  templates_from number (p ∷ ps) (t ∷ ts) placed meant =
      let first : number + 0 ≡ number = omega arith in
      let stands = process_stands items number p
      (subst (λ n. slice_get (processes_in items) n ≡ Some p) first (placed 0 p refl)) in
      All-cons (λ (x : Template). HasLeavesApart x.graph) t ts
      (graph_apart (process_text number p) t.graph stands meant.0)
      (templates_from (number + 1) ps ts
      (λ k q at. let next : number + suc k ≡ number + 1 + k = omega arith in
      subst (λ n. slice_get (processes_in items) n ≡ Some q) next (placed (suc k) q at)) meant.1)

  pub templates_apart : (ts : List Template) → AreMeantFrom r 0 (processes_in items) ts → HaveLeavesApart ts
  templates_apart ts meant =
      templates_from 0 (processes_in items) ts
      (λ k p at. let same : k ≡ 0 + k = omega arith in
      subst (λ n. slice_get (processes_in items) n ≡ Some p) same at) meant
