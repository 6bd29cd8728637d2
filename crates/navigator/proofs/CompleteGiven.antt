-- What the completion of an item gives.
use Rattle.std.proofs.Common.{◌≡◌, ℕ, Bool, true, false, ◌==◌, if◌then◌else◌, List, [], Some, None, refl, ap, sym, ◌∙◌, arith, inl}
use Rattle.std.specs.Prelude.{slice_get, slice_set}
use Rattle.std.proofs.lemmas.Option.{slice_get_within}
use Rattle.activity_states.specs.States.{State, completed}
use Rattle.activity_states.specs.declared.states.Completed.{Completed}
use Rattle.fate_laws.specs.WellFormed.{Well}
use Rattle.flow_model.specs.Conditions.{holds}
use Rattle.flow_model.specs.Fates.{ended}
use Rattle.flow_model.specs.ScopeContainers.{graph_in}
use Rattle.flow_model.specs.Scopes.{Known, at, Start, attempts, output, tree_ends, tree_fate}
use Rattle.flow_model.specs.declared.graphs.Activity.{Activity}
use Rattle.flow_model.specs.declared.graphs.Container.{Container}
use Rattle.flow_model.specs.declared.graphs.Graph.{Graph, out-Graph}
use Rattle.flow_model.specs.declared.graphs.Program.{Program as ProgramOf}
use Rattle.flow_model.specs.declared.graphs.Template.{Template}
use Rattle.flow_model.specs.declared.graphs.Work.{Work, Program as RunsProgram, Block, Process}
use Rattle.flow_model.specs.declared.instances.Fate.{Fate}
use Rattle.flow_model.specs.declared.instances.Fate.TheVariants.{Ready}
use Rattle.flow_model.specs.declared.instances.Part.{Part}
use Rattle.flow_model.specs.declared.instances.Path.{Path}
use Rattle.flow_model.specs.declared.instances.SourceEnd.TheVariants as end
use Rattle.navigator.proofs.FreshHere.{IsGivenAt, Grown}
use Rattle.navigator.proofs.Places.{present}
use Rattle.navigator.proofs.SameActivities.{step_is, named_of, place_found}
use Rattle.navigator.proofs.SettledHere.{grown_one, opens_given, settles_given}
use Rattle.navigator.proofs.ShownAgain.{IsSameInside}
use Rattle.navigator.proofs.ToldNotes.{none_told}
use Rattle.navigator.specs.Events.{Receives, Completes as Completion}
use Rattle.view_laws.specs.NextEvents.{Aimed}
use Rattle.navigator.specs.Reading.{place_of}
use Rattle.navigator.specs.Serving.{Served}
use Rattle.navigator.specs.Steps.{Told, Fields, fields, CompletesBy}
use Rattle.navigator.specs.Events.{nothing}
use Rattle.navigator.specs.Views.{ShowsStart, ShowsWork, ShowsWithin, shows_attempt, Shows}
use Rattle.navigator.specs.declared.scopes.ActivityState.{ActivityState, Program, Nested}
use Rattle.navigator.specs.declared.scopes.ScopeState.{ScopeState, out-ScopeState}
use Rattle.view_laws.specs.Learning.{with_output}

-- ---- the completion of an item

program_in : (w : Work) (program : ProgramOf) (fate : Fate) (outs : List Container) (starts : List Start) (shows : ShowsStart) (state : ActivityState) → w ≡ RunsProgram program
    → ShowsWork w fate outs starts shows state → (p : State) × (state ≡ Program p)
program_in (RunsProgram w) program fate outs starts shows (Program p) runs is = (p, refl)
program_in (RunsProgram w) program fate outs starts shows (Nested n) runs is = absurd is
program_in (Block g) program fate outs starts shows state runs is = let never : ⊥ = cc in absurd never
program_in (Process t) program fate outs starts shows state runs is = let never : ⊥ = cc in absurd never

-- the attempt of an item is ready
pub record IsReadyAt (ts : List Template) (depth : ℕ) (k : Known) (g : Graph) (input : Container) (q : Part) : Type 0 where
  pub begun : k.begun [] ≡ true
  pub place : ℕ
  pub activity : Activity
  pub program : ProgramOf
  pub is : slice_get (out-Graph g).activities place ≡ Some activity
  pub runs : activity.work ≡ RunsProgram program
  pub name : activity.name ≡ q.name
  pub ready : tree_fate ts depth k g input place ≡ Ready q.attempt

same_completed : (q : Part) (out : Container) (k : Known) (r : Part) → IsSameInside (at r k) (at r (with_output q out k))
same_completed q out k r = record { most = refl; begun = refl; sent = refl; below = λ p. refl }

module _ (ts : List Template) (depth : ℕ) (k : Known) (g : Graph) (input : Container) (s s' : ScopeState) (path : Path) (clock : ℕ) (tells : Told) (q : Part) (by : Completed)
    (well : Well ts depth g) (served : Served ts depth g) (aimed : Aimed ts depth g) (may : IsReadyAt ts depth k g input q)
    (shows : Shows ts depth k g input s) (shows_then : Shows ts depth (with_output q by.output k) g input s') (receives : Receives ts path clock (Completion q.name by) nothing tells g s s') where
  abbrev k' : Known
  k' = with_output q by.output k

  abbrev place : ℕ
  place = may.place

  stands : (state : ActivityState) × (slice_get (out-ScopeState s).states.items place ≡ Some state)
  stands =
      let l = shows.stated in
      let i = slice_get_within (out-Graph g).activities place may.activity may.is in
      present (out-ScopeState s).states.items place (omega (arith, l, i))

  program_before : (p : State) × (stands.0 ≡ Program p)
  program_before =
      program_in may.activity.work may.program _ (attempts ts k (output ts depth) g input (tree_ends ts depth k g input) place) _
      (shows_attempt (ShowsWithin ts depth) k may.activity.name (graph_in ts may.activity.work)) stands.0 may.runs (shows.states place may.activity stands.0 may.is stands.1)

  stands_program : slice_get (out-ScopeState s).states.items place ≡ Some (Program program_before.0)
  stands_program = stands.1 ∙ ap Some program_before.1

  completes : CompletesBy (holds may.activity.exit by.output) g path clock place may.activity program_before.0 by (fields s) (fields s') nothing tells
  completes =
      let found : place_of g q.name ≡ Some place = ap (place_of g) (sym may.name) ∙ place_found g place may.activity (named_of ts depth g well) may.is in
      receives place may.activity program_before.0 found may.is stands_program

  was : tree_ends ts depth k g input place ≡ end.Unsettled
  was =
      step_is ts depth k g input well place
      ∙ ap (λ f. ended f (attempts ts k (output ts depth) g input (tree_ends ts depth k g input) place)) may.ready

  grown : (x : State) → (fields s').states ≡ slice_set (fields s).states place (Program x) → (b : ℕ) (y : Activity) (old new : ActivityState) → slice_get (out-Graph g).activities b ≡ Some y
      → slice_get (out-ScopeState s).states.items b ≡ Some old → slice_get (out-ScopeState s').states.items b ≡ Some new → Grown ts y old new (if b == place then None else None)
  grown x set =
      grown_one ts g (fields s).states (fields s').states place may.activity (Program program_before.0) (Program x) None may.is stands_program set (inl (refl, refl))

  completes_given : (b : Bool) → CompletesBy b g path clock place may.activity program_before.0 by (fields s) (fields s') nothing tells → IsGivenAt ts depth k k' g input path tells
  completes_given true is =
      settles_given ts depth k k' g input s s' path tells well served aimed shows shows_then (same_completed q by.output k) place may.activity may.is None
      (ap (λ (f : Fields). f.begun) is.0) (grown (completed program_before.0 by true clock) (ap (λ (f : Fields). f.states) is.0)) (none_told g path tells.begins (ap (λ (t : Told). t.begins) is.1))
      (end.Finished by.output) was (ap (λ (f : Fields). f.begun) is.0 ∙ shows.begun ∙ may.begun) (ap (λ (f : Fields). f.ends) is.0) (ap (λ (f : Fields). f.unsettled) is.0)
      (ap (λ (t : Told). t.signals) is.1) (ap (λ (t : Told). t.ends) is.1)
  completes_given false is =
      opens_given ts depth k k' g input s s' path tells well served aimed shows shows_then (same_completed q by.output k) place may.activity may.is None
      (ap (λ (f : Fields). f.begun) is.0) (grown (completed program_before.0 by false clock) (ap (λ (f : Fields). f.states) is.0)) (none_told g path tells.begins (ap (λ (t : Told). t.begins) is.1))
      (ap (λ (f : Fields). f.ends) is.0) (ap (λ (f : Fields). f.unsettled) is.0) (ap (λ (t : Told). t.signals) is.1) (ap (λ (t : Told). t.ends) is.1)

  -- what the completion of an item gives
  pub complete_given : IsGivenAt ts depth k k' g input path tells
  complete_given = completes_given (holds may.activity.exit by.output) completes
