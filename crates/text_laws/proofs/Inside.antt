-- The blocks of a text's graphs are graphs of the text, on whose containers two readings agree.
use Rattle.std.proofs.Common.{◌≡◌, inl, inr, ℕ, Some, List, refl, sym, ◌∙◌, subst}
use Rattle.std.specs.Prelude.{slice_get}
use Rattle.std.specs.List.{Contains}
use Rattle.flow_model.specs.declared.trees.ActivityTree.{ActivityTree}
use Rattle.flow_model.specs.declared.trees.ElementTree.{ElementTree}
use Rattle.flow_model.specs.declared.trees.ItemTree.{ItemTree}
use Rattle.flow_model.specs.declared.trees.NameAt.{NameAt}
use Rattle.flow_model.specs.declared.trees.ProcessTree.{ProcessTree}
use Rattle.leaf_rules.specs.Leaves.{Leafing}
use Rattle.template_check.specs.Compiling.{AreLeavesOf}
use Rattle.text_graphs.specs.Blocks.{IsBlockOf}
use Rattle.text_graphs.specs.Graphs.{GraphAt, block_at, IsGraphIn, Itself, Deeper, IsGraphInside, IsGraphOfProcess, IsGraphOf}
use Rattle.text_graphs.specs.GraphTexts.{GraphText, process_text, block_text}
use Rattle.text_graphs.specs.Texts.{activities_in, processes_in}
use Rattle.text_laws.proofs.Parts.{AgreeOn}

-- a block among the elements of a graph is one of the graphs that this one is among
block_in : (number : ℕ) (g : GraphAt) (a b : ActivityTree) (inner : List ElementTree) → Contains (activities_in g.elements) a
    → IsBlockOf a inner → IsGraphIn number g b → IsGraphIn number (block_at number a inner) b
block_in number g a b inner has is (Itself es block same) =
    Deeper es a block (subst (λ (h : GraphAt). Contains (activities_in h.elements) a) same has) (Itself inner is refl)
block_in number g a b inner has is (Deeper es c block in' h) =
    Deeper es c block in' (block_in number g a c inner has is h)

block_inside : (number : ℕ) (es : List ElementTree) (g : GraphAt) (a : ActivityTree) (inner : List ElementTree)
    → Contains (activities_in g.elements) a → IsBlockOf a inner → IsGraphInside number es g
    → IsGraphInside number es (block_at number a inner)
block_inside number es g a inner has is h = (h.0, h.1, block_in number g a h.0 inner has is h.2)

block_of_process : (number : ℕ) (p : ProcessTree) (g : GraphAt) (a : ActivityTree) (inner : List ElementTree)
    → Contains (activities_in g.elements) a → IsBlockOf a inner → IsGraphOfProcess number p g
    → IsGraphOfProcess number p (block_at number a inner)
block_of_process number p g a inner has is (inl same) =
    inr (a, subst (λ (h : GraphAt). Contains (activities_in h.elements) a) same has, Itself inner is refl)
block_of_process number p g a inner has is (inr inside) = inr (block_inside number p.elements g a inner has is inside)

-- a graph that has this text stands in the process of its number
pub record StandsIn (items : List ItemTree) (g : GraphText) : Type 0 where
  pub process : ProcessTree
  pub listed : slice_get (processes_in items) g.process ≡ Some process
  pub place : ℕ
  pub input : NameAt
  pub output : NameAt
  pub reads : input.name ≡ g.input
  pub writes : output.name ≡ g.output
  pub stands : IsGraphOfProcess g.process process (record { process = g.process; place = place; input = input; output = output; elements = g.elements })

pub process_stands : (items : List ItemTree) (number : ℕ) (p : ProcessTree) → slice_get (processes_in items) number ≡ Some p
    → StandsIn items (process_text number p)
process_stands items number p is = record {
  process = p;
  listed = is;
  place = p.place;
  input = p.input;
  output = p.output;
  reads = refl;
  writes = refl;
  stands = inl refl;
}

pub block_stands : (items : List ItemTree) (g : GraphText) (a : ActivityTree) (inner : List ElementTree) → Contains (activities_in g.elements) a
    → IsBlockOf a inner → StandsIn items g → StandsIn items (block_text g.process a inner)
block_stands items g a inner has is h = record {
  process = h.process;
  listed = h.listed;
  place = a.place;
  input = a.input;
  output = a.output;
  reads = refl;
  writes = refl;
  stands = block_of_process g.process h.process (record { process = g.process; place = h.place; input = h.input; output = h.output; elements = g.elements }) a inner has is h.stands;
}

-- two tellings of the leaves of a text agree on its graphs
pub agree_where_it_stands : (items : List ItemTree) (l m : Leafing) → AreLeavesOf items l → AreLeavesOf items m → (g : GraphText) → StandsIn items g
    → AgreeOn l m g
agree_where_it_stands items l m first second g h =
    let at : GraphAt = record { process = g.process; place = h.place; input = h.input; output = h.output; elements = g.elements } in
    let graph : IsGraphOf items at = (g.process, h.process, h.listed, h.stands) in
    let x = first at graph in
    let y = second at graph in
    record {
      input = subst (λ (name : List ℕ). l name ≡ m name) h.reads (x.input ∙ sym y.input);
      output = subst (λ (name : List ℕ). l name ≡ m name) h.writes (x.output ∙ sym y.output);
      activities = λ k d less. (
        (x.activities k d less).0 ∙ sym (y.activities k d less).0,
        (x.activities k d less).1 ∙ sym (y.activities k d less).1,
      );
    }
