-- A text that breaks no rule means templates, one for each of its processes, and people.
use Rattle.std.proofs.Common.{◌≡◌, ℕ, zero, suc, ◌+◌, Some, None, List, [], ◌∷◌, map, refl, ap, subst, arith}
use Rattle.std.specs.Prelude.{◌-◌, ◌^◌, min, slice_get}
use Rattle.std.proofs.lemmas.Option.{none-some}
use Rattle.flow_model.specs.declared.graphs.Graph.{Graph}
use Rattle.flow_model.specs.declared.graphs.Library.{Library}
use Rattle.flow_model.specs.declared.graphs.Template.{Template}
use Rattle.flow_model.specs.declared.trees.ItemTree.{ItemTree}
use Rattle.flow_model.specs.declared.trees.ProcessTree.{ProcessTree}
use Rattle.machine.proofs.Meaning.{means_one}
use Rattle.machine.specs.Imports.{Added, IsMeaning}
use Rattle.process_rules.specs.Imports.{next_version}
use Rattle.process_rules.specs.Shapes.{shape_at, shapes_of}
use Rattle.process_rules.specs.declared.sizes.Shape.{Shape}
use Rattle.template_check.specs.Compiling.{HasShape, HaveNumbers, IsReading, declared_people}
use Rattle.template_check.specs.Judged.{IsFaultless}
use Rattle.template_check.specs.Meant.{AreMeantFrom, IsMeant}
use Rattle.template_check.specs.Rules.{IsFirstBroken, later_rules}
use Rattle.text_graphs.specs.GraphTexts.{process_text}
use Rattle.text_graphs.specs.Texts.{processes_in}
use Rattle.text_laws.proofs.Inside.{StandsIn, process_stands}
use Rattle.meaning_laws.specs.Meanings.{reading_behind}
use Rattle.meaning_laws.proofs.Graphs.{graph_meant_there}

-- ---- templates

module _ (library : Library) (items : List ItemTree)
    (none : IsFirstBroken (later_rules library items) None) where
  abbrev shapes : List Shape
  shapes = shapes_of library (processes_in items)

  -- templates for processes of which the first has this number: named, numbered and meant as they ask
  record AreTemplatesFrom (number : ℕ) (ps : List ProcessTree) (ts : List Template) : Type 0 where
    pub named : map (λ t. t.name) ts ≡ map (λ p. p.name.name) ps
    pub versions : map (λ t. t.version) ts ≡ map (λ p. next_version library p.name.name) ps
    pub shaped : (k : ℕ) (t : Template) → slice_get ts k ≡ Some t → HasShape t (shape_at shapes (number + k))
    pub meant : AreMeantFrom (reading_behind library items) number ps ts

  -- there are such
  templates_from : (number : ℕ) (ps : List ProcessTree)
      → ((k : ℕ) (p : ProcessTree) → slice_get ps k ≡ Some p → StandsIn items (process_text (number + k) p))
      → (ts : List Template) × AreTemplatesFrom number ps ts
  templates_from number [] stands = (
    [],
    record { named = refl; versions = refl; shaped = λ k t there. absurd (none-some t there); meant = tt },
  )
  templates_from number (p ∷ ps) stands =
      let first : number + 0 ≡ number = omega arith in
      let here : StandsIn items (process_text number p) =
      subst (λ (n : ℕ). StandsIn items (process_text n p)) first (stands 0 p refl) in
      let graph = graph_meant_there library items none (process_text number p) here in
      let t : Template = record {
        name = p.name.name;
        version = next_version library p.name.name;
        graph = graph.0;
        depth = min (shape_at shapes number).depth (2 ^ 32 - 1);
        size = min (shape_at shapes number).size (2 ^ 32 - 1);
      } in
      let rest = templates_from (number + 1) ps
      (λ k q is. subst (λ (n : ℕ). StandsIn items (process_text n q))
      (let e : number + suc k ≡ number + 1 + k = omega arith in e) (stands (suc k) q is)) in (
        t ∷ rest.0,
        record {
          named = ap (λ (ns : List (List ℕ)). p.name.name ∷ ns) rest.1.named;
          versions = ap (λ (ns : List ℕ). next_version library p.name.name ∷ ns) rest.1.versions;
          shaped = shaped_next number t rest.0 (record { depth = refl; size = refl }) rest.1.shaped;
          meant = (graph.1, rest.1.meant);
        },
      )
    where
      shaped_next : (number : ℕ) (t : Template) (ts : List Template) → HasShape t (shape_at shapes number)
          → ((k : ℕ) (u : Template) → slice_get ts k ≡ Some u → HasShape u (shape_at shapes (number + 1 + k)))
          → (k : ℕ) (u : Template) → slice_get (t ∷ ts) k ≡ Some u → HasShape u (shape_at shapes (number + k))
      shaped_next number t ts here later zero u there =
          let same : t ≡ u = cc in
          let first : number ≡ number + 0 = omega arith in
          subst (λ (v : Template). HasShape v (shape_at shapes (number + 0))) same
          (subst (λ (n : ℕ). HasShape t (shape_at shapes n)) first here)
      shaped_next number t ts here later (suc k) u there =
          let next : number + 1 + k ≡ number + suc k = omega arith in
          subst (λ (n : ℕ). HasShape u (shape_at shapes n)) next (later k u there)

  -- for all processes of the text
  templates_there : (ts : List Template) × AreTemplatesFrom 0 (processes_in items) ts
  templates_there =
      templates_from 0 (processes_in items)
      (λ k p is. subst (λ (n : ℕ). StandsIn items (process_text n p)) (let e : k ≡ 0 + k = omega arith in e)
      (process_stands items k p is))

  -- they have its versions, depths and sizes
  numbered : HaveNumbers library (processes_in items) templates_there.0
  numbered = record {
    versions = templates_there.1.versions;
    shaped = λ k t there.
        subst (λ (n : ℕ). HasShape t (shape_at shapes n)) (let e : 0 + k ≡ k = omega arith in e)
        (templates_there.1.shaped k t there);
  }

  -- the reading is one of the text
  read : IsReading library items (reading_behind library items)
  read = record {
    leaves = λ g is. record { input = refl; output = refl; activities = λ k d less. (refl, refl) };
    places = λ number name. refl;
  }

-- ---- texts

-- each process of a text that breaks no rule means a graph
pub process_meant : (library : Library) (items : List ItemTree) (number : ℕ) (process : ProcessTree)
    → IsFirstBroken (later_rules library items) None → slice_get (processes_in items) number ≡ Some process
    → (made : Graph) × IsMeant (reading_behind library items) (process_text number process) made
process_meant library items number process none is =
    graph_meant_there library items none (process_text number process) (process_stands items number process is)

-- a text that breaks no rule has a meaning
pub text_meant : (library : Library) (text : List ℕ) → IsFaultless library text
    → (added : Added) × IsMeaning library text added
text_meant library text faultless =
    let items = faultless.tree.items in
    let made = templates_there library items faultless.none in (
      record { templates = made.0; people = declared_people items },
      record {
        faultless = faultless;
        named = record { tree = faultless.tree; has = faultless.has; named = made.1.named };
        meant = record {
          tree = faultless.tree;
          has = faultless.has;
          reading = reading_behind library items;
          read = read library items faultless.none;
          meant = made.1.meant;
          numbered = numbered library items faultless.none;
        };
        people = record { tree = faultless.tree; has = faultless.has; declared = refl };
      },
    )

-- and it means one thing
pub text_meant_once : (library : Library) (text : List ℕ) → IsFaultless library text
    → (added : Added) × IsMeaning library text added × ((other : Added) → IsMeaning library text other → other ≡ added)
text_meant_once library text faultless =
    let found = text_meant library text faultless in
    (found.0, found.1, λ other is. means_one library text other found.0 is found.1)
