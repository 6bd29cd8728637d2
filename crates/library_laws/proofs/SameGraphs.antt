-- In a larger library each activity of a served graph runs the graph that it ran.
use Rattle.std.proofs.Common.{◌≡◌, ℕ, zero, suc, List, [], ◌∷◌, ◌++◌, refl, Option, Some, None, sym, ◌∙◌}
use Rattle.std.proofs.lemmas.Option.{none-some}
use Rattle.std.specs.Prelude.{slice_get, option_and_then}
use Rattle.flow_model.specs.ScopeContainers.{graph_in}
use Rattle.flow_model.specs.declared.graphs.Activity.{Activity}
use Rattle.flow_model.specs.declared.graphs.Graph.{Graph, out-Graph}
use Rattle.flow_model.specs.declared.graphs.Template.{Template}
use Rattle.flow_model.specs.declared.graphs.Work.{Work, Program, Block, Process}
use Rattle.library_laws.specs.Larger.{Agrees}
use Rattle.navigator.specs.Serving.{HasGraph, Served}

pub longer_agrees : (ts more : List Template) → Agrees ts (ts ++ more)
longer_agrees [] more t g is = absurd (none-some g is)
longer_agrees (x ∷ ts) more zero g is = is
longer_agrees (x ∷ ts) more (suc t) g is = longer_agrees ts more t g is

pub and_then_same : {A B : Type 0} (o : Option A) (f f' : A → Option B) → ((x : A) → o ≡ Some x → f' x ≡ f x) → option_and_then f' o ≡ option_and_then f o
and_then_same None f f' same = refl
and_then_same (Some x) f f' same = same x refl

-- ---- the graph of an activity

pub same_graph : (ts ts' : List Template) (w : Work) → Agrees ts ts' → HasGraph ts w → graph_in ts' w ≡ graph_in ts w
same_graph ts ts' (Program p) agrees there = refl
same_graph ts ts' (Block g) agrees there = refl
same_graph ts ts' (Process t) agrees there = agrees t there.0 there.1 ∙ sym there.1

-- a graph whose activities run the same graphs in both libraries, each of which has this property
pub record HasSameGraphs (ts ts' : List Template) (g : Graph) (inner : Graph → Type 0) : Type 0 where
  pub graphs : (a : ℕ) (activity : Activity) → slice_get (out-Graph g).activities a ≡ Some activity → graph_in ts' activity.work ≡ graph_in ts activity.work
  pub inside : (a : ℕ) (activity : Activity) → slice_get (out-Graph g).activities a ≡ Some activity → (h : Graph) → graph_in ts activity.work ≡ Some h → inner h

-- the graphs inside one that is served to this many levels; at none, there are none
abbrev pub ServedInside : List Template → ℕ → Graph → Type 0
ServedInside ts zero h = ⊥
ServedInside ts (suc levels) h = Served ts levels h

pub same_graphs : (ts ts' : List Template) (levels : ℕ) (g : Graph) → Agrees ts ts' → Served ts levels g → HasSameGraphs ts ts' g (ServedInside ts levels)
same_graphs ts ts' zero g agrees served = record {
  graphs = λ a activity is. same_graph ts ts' activity.work agrees (served.graphs a activity is);
  inside = λ a activity is h of. served.inside a activity h is of;
}
same_graphs ts ts' (suc levels) g agrees served = record {
  graphs = λ a activity is. same_graph ts ts' activity.work agrees (served.graphs a activity is);
  inside = λ a activity is h of. served.inside a activity h is of;
}
