-- The computed run is legal: its completions were awaited, and the laws of the next event speak of it.
use Rattle.std.proofs.Common.{◌≡◌, ℕ, zero, suc, ◌<◌, true, List, [], ◌∷◌, refl, Option, Some, None, arith, ap, ◌∙◌}
use Rattle.std.specs.Prelude.{length, slice_get}
use Rattle.flow_model.specs.declared.graphs.Activity.{Activity}
use Rattle.flow_model.specs.declared.graphs.Control.{Control}
use Rattle.flow_model.specs.declared.graphs.Graph.{Graph, out-Graph}
use Rattle.flow_model.specs.ScopeContainers.{graph_in}
use Rattle.view_laws.proofs.Example.{opened, inner, graph, templates, root, scope, done, first, all, one_queue, legal, well, no_activity, no_graph, work_at}
use Rattle.view_laws.proofs.NextEvents.{signals_may_come}
use Rattle.view_laws.specs.LegalRuns.{AreAwaited}
use Rattle.view_laws.specs.Messages.{BeginNote, SignalNote, EndNote}
use Rattle.view_laws.specs.NextEvents.{Aimed, MayGoOn, IsNextSignal}
use Rattle.view_laws.specs.Runs.{Event, Turned, Completed}

abbrev before_signal : List Event
before_signal = Turned (EndNote (scope 2)) ∷ Completed (done 2 1) ∷ Turned (BeginNote (scope 2)) ∷ Turned (EndNote (scope 1)) ∷ first

awaited_first : AreAwaited root first
unfolding opened
awaited_first = (
  tt,
  refl,
  record {
    place = 0;
    activity = _;
    graph = inner;
    number = 0;
    start = record { attempt = 1; input = record { values = [] } };
    is = refl;
    of = refl;
    named = refl;
    started = refl;
    within = record { place = 0; activity = _; program = _; is = refl; runs = refl; name = refl; ready = refl };
  },
)

awaited : AreAwaited root all
unfolding opened
awaited = (
  awaited_first,
  refl,
  record {
    place = 0;
    activity = _;
    graph = inner;
    number = 1;
    start = record { attempt = 2; input = record { values = [] } };
    is = refl;
    of = refl;
    named = refl;
    started = refl;
    within = record { place = 0; activity = _; program = _; is = refl; runs = refl; name = refl; ready = refl };
  },
)

-- ---- the connector leads to an activity

no_connector : (c : Control) → None ≡ Some c → ⊥
no_connector c h = cc

target : Option Control → ℕ
target None = 0
target (Some c) = c.to

one_less : (m : ℕ) → 1 ≡ m → m < 2
one_less m is = omega arith

aimed_inner : Aimed templates 0 inner
unfolding opened
aimed_inner = record { each = λ n c is. absurd (no_connector c is); inside = λ a activity is h of. tt }

each : (n : ℕ) (c : Control) → slice_get (out-Graph graph).controls n ≡ Some c → c.to < length (out-Graph graph).activities
unfolding opened target
each zero c is = one_less c.to (ap target is)
each (suc n) c is = absurd (no_connector c is)

same_graph : (h : Graph) → Some inner ≡ Some h → Aimed templates 0 h
same_graph h is = let e : inner ≡ h = cc in rw (← e) aimed_inner

inside : (a : ℕ) (activity : Activity) → slice_get (out-Graph graph).activities a ≡ Some activity → (h : Graph) → graph_in templates activity.work ≡ Some h → Aimed templates 0 h
unfolding opened work_at
inside zero activity is h of = same_graph h (ap work_at is ∙ of)
inside (suc zero) activity is h of = absurd (no_graph h (ap work_at is ∙ of))
inside (suc (suc a)) activity is h of = absurd (no_activity activity is)

aimed : Aimed templates 1 graph
aimed = record { each = each; inside = inside }

-- ---- so its last SIGNAL may come

may : MayGoOn root one_queue (Turned (SignalNote [] 0 1 true)) before_signal
may = record { well = well; aimed = aimed; legal = record { fronts = legal; awaited = awaited }; runs = refl }

next : IsNextSignal root before_signal [] 0 1 true
next = signals_may_come root one_queue before_signal [] 0 1 true may
