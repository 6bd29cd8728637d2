-- A graph that is served, well or aimed in a library is so in a larger one.
use Rattle.std.proofs.Common.{◌≡◌, ℕ, zero, suc, List, Some, sym, ◌∙◌}
use Rattle.std.specs.Prelude.{slice_get}
use Rattle.fate_laws.specs.WellFormed.{IsWell, Well}
use Rattle.flow_model.specs.ScopeContainers.{graph_in}
use Rattle.flow_model.specs.declared.graphs.Activity.{Activity}
use Rattle.flow_model.specs.declared.graphs.Graph.{Graph, out-Graph}
use Rattle.flow_model.specs.declared.graphs.Template.{Template}
use Rattle.flow_model.specs.declared.graphs.Work.{Work, Program, Block, Process}
use Rattle.navigator.specs.Driven.{IsServedRoot}
use Rattle.navigator.specs.Serving.{HasGraph, HasGraphs, IsServed, Served}
use Rattle.view_laws.specs.NextEvents.{IsAimed, Aimed}
use Rattle.view_laws.specs.Runs.{Root}
use Rattle.library_laws.proofs.SameGraphs.{HasSameGraphs, ServedInside, same_graphs}
use Rattle.library_laws.specs.Larger.{Agrees, moved}
use Rattle.library_laws.specs.Laws.{KeepsForm}

-- ---- one graph, where those inside it keep their form

module _ (ts ts' : List Template) (g : Graph) (P inner inner' : Graph → Type 0) (inside : HasSameGraphs ts ts' g P) (keeps : (h : Graph) → P h → inner h → inner' h) where
  before : (a : ℕ) (activity : Activity) → slice_get (out-Graph g).activities a ≡ Some activity → (h : Graph) → graph_in ts' activity.work ≡ Some h
      → graph_in ts activity.work ≡ Some h
  before a activity is h of = sym (inside.graphs a activity is) ∙ of

  well_here : IsWell ts g inner → IsWell ts' g inner'
  well_here well = record {
    order = well.order;
    peopled = well.peopled;
    flow = well.flow;
    wired = well.wired;
    simple = well.simple;
    named = well.named;
    inside = λ a activity is h of. let was = before a activity is h of in keeps h (inside.inside a activity is h was) (well.inside a activity is h was);
  }

  aimed_here : IsAimed ts g inner → IsAimed ts' g inner'
  aimed_here aimed = record {
    each = aimed.each;
    inside = λ a activity is h of. let was = before a activity is h of in keeps h (inside.inside a activity is h was) (aimed.inside a activity is h was);
  }

  served_here : HasGraphs ts' g → IsServed ts g inner → IsServed ts' g inner'
  served_here graphs served = record {
    usable = served.usable;
    graphs = graphs;
    incoming = served.incoming;
    sinking = served.sinking;
    few = served.few;
    inside = λ a activity h is of. let was = before a activity is h of in keeps h (inside.inside a activity is h was) (served.inside a activity h is was);
  }

work_there : (ts ts' : List Template) (w : Work) → Agrees ts ts' → HasGraph ts w → HasGraph ts' w
work_there ts ts' (Program p) agrees there = there
work_there ts ts' (Block g) agrees there = there
work_there ts ts' (Process t) agrees there = (there.0, agrees t there.0 there.1)

graphs_there : (ts ts' : List Template) (g : Graph) → Agrees ts ts' → HasGraphs ts g → HasGraphs ts' g
graphs_there ts ts' g agrees graphs = λ a activity is. work_there ts ts' activity.work agrees (graphs a activity is)

-- ---- to any depth

served_kept : (ts ts' : List Template) → Agrees ts ts' → (depth : ℕ) (g : Graph) → Served ts depth g → Served ts' depth g
served_kept ts ts' agrees zero g served =
    served_here ts ts' g (ServedInside ts zero) (λ h. ⊥) (λ h. ⊥) (same_graphs ts ts' zero g agrees served) (λ h ok is. is) (graphs_there ts ts' g agrees served.graphs) served
served_kept ts ts' agrees (suc depth) g served =
    served_here ts ts' g (ServedInside ts (suc depth)) (Served ts depth) (Served ts' depth) (same_graphs ts ts' (suc depth) g agrees served)
    (λ h ok is. served_kept ts ts' agrees depth h is) (graphs_there ts ts' g agrees served.graphs) served

well_kept : (ts ts' : List Template) → Agrees ts ts' → (depth : ℕ) (g : Graph) → Served ts depth g → Well ts depth g → Well ts' depth g
well_kept ts ts' agrees zero g served well =
    well_here ts ts' g (ServedInside ts zero) (λ h. Unit {0}) (λ h. Unit {0}) (same_graphs ts ts' zero g agrees served) (λ h ok is. is) well
well_kept ts ts' agrees (suc depth) g served well =
    well_here ts ts' g (ServedInside ts (suc depth)) (Well ts depth) (Well ts' depth) (same_graphs ts ts' (suc depth) g agrees served)
    (λ h ok is. well_kept ts ts' agrees depth h ok is) well

aimed_kept : (ts ts' : List Template) → Agrees ts ts' → (depth : ℕ) (g : Graph) → Served ts depth g → Aimed ts depth g → Aimed ts' depth g
aimed_kept ts ts' agrees zero g served aimed =
    aimed_here ts ts' g (ServedInside ts zero) (λ h. Unit {0}) (λ h. Unit {0}) (same_graphs ts ts' zero g agrees served) (λ h ok is. is) aimed
aimed_kept ts ts' agrees (suc depth) g served aimed =
    aimed_here ts ts' g (ServedInside ts (suc depth)) (Aimed ts depth) (Aimed ts' depth) (same_graphs ts ts' (suc depth) g agrees served)
    (λ h ok is. aimed_kept ts ts' agrees depth h ok is) aimed

pub form_kept : (ts ts' : List Template) (depth : ℕ) (g : Graph) → Agrees ts ts' → Served ts depth g → KeepsForm ts ts' depth g
form_kept ts ts' depth g agrees served = record {
  served = served_kept ts ts' agrees depth g served;
  well = λ well. well_kept ts ts' agrees depth g served well;
  aimed = λ aimed. aimed_kept ts ts' agrees depth g served aimed;
}

pub root_form : (ts' : List Template) (r : Root) → Agrees r.templates ts' → IsServedRoot r → IsServedRoot (moved ts' r)
root_form ts' r agrees root =
    let form = form_kept r.templates ts' r.depth r.graph agrees root.served in
    record { well = form.well root.well; served = form.served; aimed = form.aimed root.aimed }
