-- A legal run is legal in a larger library.
use Rattle.std.proofs.Common.{ℕ, zero, suc, List, [], ◌∷◌, ap, sym, ◌∙◌, subst}
use Rattle.std.specs.Prelude.{slice_get}
use Rattle.flow_model.specs.Scopes.{Known, at}
use Rattle.flow_model.specs.declared.graphs.Container.{Container}
use Rattle.flow_model.specs.declared.graphs.Graph.{Graph}
use Rattle.flow_model.specs.declared.graphs.Template.{Template}
use Rattle.flow_model.specs.declared.instances.Part.{Part}
use Rattle.navigator.specs.Serving.{Served}
use Rattle.view_laws.specs.LegalRuns.{Awaits, AreAwaited, IsLegal}
use Rattle.view_laws.specs.Messages.{Note}
use Rattle.view_laws.specs.Queues.{TakesFronts}
use Rattle.view_laws.specs.Runs.{Root, Event, Started, Turned, Completed, Held, Stopped, seen}
use Rattle.library_laws.proofs.SameDue.{messages_kept}
use Rattle.library_laws.proofs.SameGraphs.{HasSameGraphs, ServedInside, same_graphs}
use Rattle.library_laws.proofs.SameScopes.{scope_kept}
use Rattle.library_laws.specs.Larger.{Agrees, moved}

awaits_kept : (ts ts' : List Template) → Agrees ts ts' → (depth levels : ℕ) (k : Known) (g : Graph) (input : Container) (p : List Part) → ServedInside ts levels g
    → Awaits ts depth k g input p → Awaits ts' depth k g input p
awaits_kept ts ts' agrees depth zero k g input p served is = absurd served
awaits_kept ts ts' agrees depth (suc levels) k g input [] served is = is
awaits_kept ts ts' agrees depth (suc levels) k g input (q ∷ []) served is = record {
  place = is.place;
  activity = is.activity;
  program = is.program;
  is = is.is;
  runs = is.runs;
  name = is.name;
  ready = (scope_kept ts ts' levels depth k g input agrees served).fates is.place ∙ is.ready;
}
awaits_kept ts ts' agrees zero (suc levels) k g input (q ∷ (s ∷ p)) served is = is
awaits_kept ts ts' agrees (suc depth) (suc levels) k g input (q ∷ (s ∷ p)) served is =
    let inside : HasSameGraphs ts ts' g (ServedInside ts levels) = same_graphs ts ts' levels g agrees served in
    record {
      place = is.place;
      activity = is.activity;
      graph = is.graph;
      number = is.number;
      start = is.start;
      is = is.is;
      of = inside.graphs is.place is.activity is.is ∙ is.of;
      named = is.named;
      started = ap (λ begun. slice_get begun is.number) ((scope_kept ts ts' levels (suc depth) k g input agrees served).starts is.place is.activity is.is) ∙ is.started;
      within = awaits_kept ts ts' agrees depth levels (at q k) is.graph is.start.input (s ∷ p) (inside.inside is.place is.activity is.is is.graph is.of) is.within;
    }

all_awaited : (ts' : List Template) (r : Root) → Agrees r.templates ts' → Served r.templates r.depth r.graph → (h : List Event) → AreAwaited r h → AreAwaited (moved ts' r) h
all_awaited ts' r agrees served [] is = is
all_awaited ts' r agrees served (Completed f ∷ h) is =
    (all_awaited ts' r agrees served h is.0, is.1, awaits_kept r.templates ts' agrees r.depth (suc r.depth) (seen h) r.graph r.input f.item.parts served is.2)
all_awaited ts' r agrees served (Started ∷ h) is = all_awaited ts' r agrees served h is
all_awaited ts' r agrees served (Turned m ∷ h) is = all_awaited ts' r agrees served h is
all_awaited ts' r agrees served (Held p b ∷ h) is = all_awaited ts' r agrees served h is
all_awaited ts' r agrees served (Stopped ∷ h) is = all_awaited ts' r agrees served h is

pub run_kept : (ts' : List Template) (r : Root) (q : Note → ℕ) (h : List Event) → Agrees r.templates ts' → Served r.templates r.depth r.graph
    → IsLegal r q h → IsLegal (moved ts' r) q h
run_kept ts' r q h agrees served legal = record {
  fronts = subst (λ x. TakesFronts x h) (sym (messages_kept ts' r q agrees served).queues) legal.fronts;
  awaited = all_awaited ts' r agrees served h legal.awaited;
}
