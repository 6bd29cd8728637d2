-- Templates that are sound but for the processes that they run are so with those; a sound one is laid and well formed.
use Rattle.std.proofs.Common.{◌≡◌, ℕ, zero, suc, ◌<◌, List, [], ◌∷◌, length, get_or, Option, Some, None, ap, subst, ◌∙◌, arith}
use Rattle.std.specs.List.{All}
use Rattle.std.specs.Prelude.{slice_get}
use Rattle.std.proofs.lemmas.List.Elements.{All-map}
use Rattle.std.proofs.lemmas.Option.{get_or_from_slice_get, slice_get_within}
use Rattle.fate_laws.specs.Layout.{Laid, OfInside}
use Rattle.fate_laws.specs.WellFormed.{IsWell, Well}
use Rattle.flow_model.specs.ScopeContainers.{graph_in, graph_of}
use Rattle.flow_model.specs.declared.graphs.Activity.{Activity}
use Rattle.flow_model.specs.declared.graphs.Control.{Control}
use Rattle.flow_model.specs.declared.graphs.Graph.{Graph, out-Graph}
use Rattle.flow_model.specs.declared.graphs.Template.{Template}
use Rattle.flow_model.specs.declared.graphs.Work.{Work, Program, Block, Process}
use Rattle.flow_model.specs.declared.trees.ProcessTree.{ProcessTree}
use Rattle.text_graphs.specs.Blocks.{lists_of, IsCovered}
use Rattle.template_check.specs.Built.{IsSoundGraph, SoundTo, IsSoundAlone, AreSound, IsSound, ComeBeforeTo, ComeBeforeAlone}
use Rattle.text_graphs.specs.Texts.{lines_in, AreNamesApart, IsConnected, IsJudged, IsLimited, IsLineAlong}
use Rattle.text_graphs.specs.declared.scopes.Scope.{Scope}
use Rattle.text_graphs.proofs.Differing.{one_place}
use Rattle.text_graphs.proofs.Listing.{judged_blocks}
use Rattle.view_laws.specs.NextEvents.{IsAimed, Aimed}

-- the graph of a template of the list
template_sound : (ts : List Template) (t : ℕ) (h : Graph) → All (λ u. IsSoundAlone u.graph) ts → graph_of ts t ≡ Some h → IsSoundAlone h
template_sound [] t h all is = cc
template_sound (x ∷ xs) zero h all is = let same : x.graph ≡ h = cc in subst IsSoundAlone same (all 0 x (omega arith))
template_sound (x ∷ xs) (suc t) h all is = template_sound xs t h (λ k d less. all (suc k) d (omega arith)) is

template_performed : (ts : List Template) (t : ℕ) (h : Graph) → All (λ u. ComeBeforeAlone u.graph) ts → graph_of ts t ≡ Some h → ComeBeforeAlone h
template_performed [] t h all is = cc
template_performed (x ∷ xs) zero h all is = let same : x.graph ≡ h = cc in subst ComeBeforeAlone same (all 0 x (omega arith))
template_performed (x ∷ xs) (suc t) h all is = template_performed xs t h (λ k d less. all (suc k) d (omega arith)) is

module _ (ts : List Template) where
  widened : (P Q : Graph → Type 0) (o : Option Activity) → ((h : Graph) → P h → Q h) → OfInside ts P o → OfInside ts Q o
  widened P Q None gives inside = tt
  widened P Q (Some activity) gives inside = λ h is. gives h (inside h is)

  -- a graph that is sound to a depth is laid
  pub sound_laid : (depth : ℕ) (g : Graph) → SoundTo ts depth g → Laid ts depth g
  sound_laid zero g sound = record { here = sound.here.laid; inside = sound.inside }
  sound_laid (suc depth) g sound = record {
    here = sound.here.laid;
    inside = λ a. widened (SoundTo ts depth) (Laid ts depth) (slice_get (out-Graph g).activities a) (sound_laid depth) (sound.inside a);
  }

  run_by : (P : Graph → Type 0) (o : Option Activity) → OfInside ts P o → (activity : Activity) → o ≡ Some activity → (h : Graph) → graph_in ts activity.work ≡ Some h → P h
  run_by P None inside activity is h runs = cc
  run_by P (Some x) inside activity is h runs = let same : x ≡ activity = cc in inside h (ap (λ (a : Activity). graph_in ts a.work) same ∙ runs)

  well_here : (g : Graph) (P : Graph → Type 0) → IsSoundGraph g → ((a : ℕ) → OfInside ts P (slice_get (out-Graph g).activities a)) → IsWell ts g P
  well_here g P sound inside = record {
    order = (out-Graph g).wiring.order;
    peopled = sound.peopled;
    flow = sound.laid.flow;
    wired = sound.wired;
    simple = sound.simple;
    named = λ a b x y at_a at_b same. one_place (λ (z : Activity). z.name) (out-Graph g).activities a b x y sound.named at_a at_b same;
    inside = λ a activity is h runs. run_by P (slice_get (out-Graph g).activities a) (inside a) activity is h runs;
  }

  -- and well formed
  pub sound_well : (depth : ℕ) (g : Graph) → SoundTo ts depth g → Well ts depth g
  sound_well zero g sound = well_here g (λ h. Unit {0}) sound.here sound.inside
  sound_well (suc depth) g sound = well_here g (Well ts depth) sound.here (λ a. widened (SoundTo ts depth) (Well ts depth) (slice_get (out-Graph g).activities a) (sound_well depth) (sound.inside a))

  aimed_here : (g : Graph) (P : Graph → Type 0) → IsSoundGraph g → ((a : ℕ) → OfInside ts P (slice_get (out-Graph g).activities a)) → IsAimed ts g P
  aimed_here g P sound inside = record {
    each = λ n c is. subst (λ (d : Control). d.to < length (out-Graph g).activities) (get_or_from_slice_get (out-Graph g).controls n c c is) (sound.aimed n c (slice_get_within (out-Graph g).controls n c is));
    inside = λ a activity is h runs. run_by P (slice_get (out-Graph g).activities a) (inside a) activity is h runs;
  }

  -- and its connectors lead to its activities
  pub sound_aimed : (depth : ℕ) (g : Graph) → SoundTo ts depth g → Aimed ts depth g
  sound_aimed zero g sound = aimed_here g (λ h. Unit {0}) sound.here sound.inside
  sound_aimed (suc depth) g sound = aimed_here g (Aimed ts depth) sound.here (λ a. widened (SoundTo ts depth) (Aimed ts depth) (slice_get (out-Graph g).activities a) (sound_aimed depth) (sound.inside a))

module _ (ts : List Template) (all : AreSound ts) where
  -- what an activity runs is sound by itself
  run_sound : (o : Option Activity) → ((depth : ℕ) → OfInside [] (SoundTo [] depth) o) → OfInside ts IsSoundAlone o
  run_sound None inside = tt
  run_sound (Some activity) inside = λ h. by_work activity.work h (λ is depth. inside depth h is)
    where
      by_work : (w : Work) (h : Graph) → (graph_in [] w ≡ Some h → IsSoundAlone h) → graph_in ts w ≡ Some h → IsSoundAlone h
      by_work (Program p) h alone is = cc
      by_work (Block g) h alone is = alone is
      by_work (Process k) h alone is = template_sound ts k h all.alone is

  runs_sound : (g : Graph) → IsSoundAlone g → (a : ℕ) → OfInside ts IsSoundAlone (slice_get (out-Graph g).activities a)
  runs_sound g alone a = run_sound (slice_get (out-Graph g).activities a) (λ depth. (alone (suc depth)).inside a)

  pub sound_with : (depth : ℕ) (g : Graph) → IsSoundAlone g → SoundTo ts depth g
  sound_with zero g alone = record {
    here = (alone 0).here;
    inside = λ a. widened ts IsSoundAlone (λ h. Unit {0}) (slice_get (out-Graph g).activities a) (λ h l. tt) (runs_sound g alone a);
  }
  sound_with (suc depth) g alone = record {
    here = (alone 0).here;
    inside = λ a. widened ts IsSoundAlone (SoundTo ts depth) (slice_get (out-Graph g).activities a) (sound_with depth) (runs_sound g alone a);
  }

  pub laid_together : (depth : ℕ) → All (λ t. Laid ts depth t.graph) ts
  laid_together depth = λ k d less. let g = (get_or ts k d).graph in sound_laid ts depth g (sound_with depth g (all.alone k d less))

  pub well_together : (depth : ℕ) → All (λ t. Well ts depth t.graph) ts
  well_together depth = λ k d less. let g = (get_or ts k d).graph in sound_well ts depth g (sound_with depth g (all.alone k d less))

  pub aimed_together : (depth : ℕ) → All (λ t. Aimed ts depth t.graph) ts
  aimed_together depth = λ k d less. let g = (get_or ts k d).graph in sound_aimed ts depth g (sound_with depth g (all.alone k d less))

  -- what an activity runs has its performers before
  run_performed : (w : Work) (h : Graph) → (graph_in [] w ≡ Some h → ComeBeforeAlone h) → graph_in ts w ≡ Some h → ComeBeforeAlone h
  run_performed (Program p) h alone is = cc
  run_performed (Block g) h alone is = alone is
  run_performed (Process k) h alone is = template_performed ts k h all.performed is

  runs_performed : (g : Graph) → ComeBeforeAlone g → (a : ℕ) (activity : Activity) (h : Graph) → slice_get (out-Graph g).activities a ≡ Some activity → graph_in ts activity.work ≡ Some h → ComeBeforeAlone h
  runs_performed g alone a activity h at runs = run_performed activity.work h (λ is depth. (alone (suc depth)).inside a activity h at is) runs

  performed_with : (depth : ℕ) (g : Graph) → ComeBeforeAlone g → ComeBeforeTo ts depth g
  performed_with zero g alone = record { here = (alone 0).here; inside = λ a activity h at runs. tt }
  performed_with (suc depth) g alone = record { here = (alone 0).here; inside = λ a activity h at runs. performed_with depth h (runs_performed g alone a activity h at runs) }

  pub performed_together : (depth : ℕ) → All (λ t. ComeBeforeTo ts depth t.graph) ts
  performed_together depth = λ k d less. performed_with depth (get_or ts k d).graph (all.performed k d less)

-- where the rules find nothing in the graphs of a text, its processes are sound
pub sound_text : (scopes : List Scope) (processes : List ProcessTree) → All (λ s. AreNamesApart s.elements.now) scopes → All (λ s. IsConnected s.elements.now) scopes
    → All (λ s. All (IsLineAlong s.elements.now) (lines_in s.elements.now)) scopes → All (λ s. IsLimited s.elements.now) scopes
    → All (λ p. IsCovered (lists_of scopes) p.elements) processes → All (λ p. IsSound p.elements) processes
sound_text scopes processes named connected along limited covered =
    let each : All (λ (s : Scope). IsJudged s.elements.now) scopes = λ k d less. record { named = named k d less; connected = connected k d less; along = along k d less; limited = limited k d less } in
    let judged = All-map IsJudged (λ (s : Scope). s.elements.now) scopes each in
    λ k d less depth. let here = covered k d less in judged_blocks (lists_of scopes) judged depth (get_or processes k d).elements here.0 (here.1 depth)
