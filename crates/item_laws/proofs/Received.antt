-- What an event that may come does to the scope that receives it.
use Rattle.std.proofs.Common.{◌≡◌, ℕ, ◌+◌, ◌<◌, Bool, true, List, [], ◌∷◌, ◌++◌, length, Option, Some, None, refl, ap, sym, ◌∙◌, subst, arith}
use Rattle.std.specs.Prelude.{slice_get, slice_set, bytes_eq, is_none}
use Rattle.std.specs.List.{list_any}
use Rattle.std.proofs.lemmas.Option.{slice_get_within}
use Rattle.activity_states.specs.States.{State, waiting, dead, opened, finished, fate_of, held}
use Rattle.activity_states.specs.declared.states.Completed.{Completed}
use Rattle.dead_paths.specs.Tallies.{Counts}
use Rattle.dead_paths.specs.declared.joins.Tally.{Tally}
use Rattle.fate_laws.specs.WellFormed.{Well}
use Rattle.flow_model.specs.Conditions.{holds}
use Rattle.flow_model.specs.Fates.{joined}
use Rattle.flow_model.specs.ScopeContainers.{graph_in}
use Rattle.flow_model.specs.Scopes.{Known, Start, values_at, attempts, fate_given, output, tree_ends}
use Rattle.flow_model.specs.declared.graphs.Activity.{Activity}
use Rattle.flow_model.specs.declared.graphs.Container.{Container}
use Rattle.flow_model.specs.declared.graphs.Graph.{Graph, out-Graph}
use Rattle.flow_model.specs.declared.graphs.Program.{Program as ProgramOf}
use Rattle.flow_model.specs.declared.graphs.Template.{Template}
use Rattle.flow_model.specs.declared.graphs.Work.{Work, Program as RunsProgram, Block, Process}
use Rattle.flow_model.specs.declared.instances.Fate.{Fate}
use Rattle.flow_model.specs.declared.instances.Fate.TheVariants as fates
use Rattle.flow_model.specs.declared.instances.Hold.{Hold}
use Rattle.flow_model.specs.declared.instances.Hold.TheVariants.{Nobody}
use Rattle.flow_model.specs.declared.instances.Part.{Part}
use Rattle.flow_model.specs.declared.instances.Path.{Path}
use Rattle.flow_model.specs.declared.names.Name.{Name}
use Rattle.item_laws.proofs.ScopesInside.{inner_is, started_scope}
use Rattle.navigator.proofs.EndedScopes.{rows_inside}
use Rattle.navigator.proofs.Places.{present}
use Rattle.navigator.proofs.Replaced.{found_at}
use Rattle.navigator.proofs.SameActivities.{named_of, simple_of, place_found}
use Rattle.navigator.proofs.SignalValues.{IsTold, value_told}
use Rattle.navigator.specs.Events.{Receives, Signals, Ends as EndsOf, Completes}
use Rattle.navigator.specs.Reading.{place_of}
use Rattle.navigator.specs.Serving.{Served}
use Rattle.navigator.specs.Steps.{Fields, Told, fields, Decides, TakesSignal, EndsBy, CompletesBy, given_by}
use Rattle.navigator.specs.Views.{ShowsStart, ShowsWork, ShowsWithin, shows_attempt, Shows}
use Rattle.navigator.specs.declared.scopes.ActivityState.{ActivityState, Program, Nested}
use Rattle.navigator.specs.declared.scopes.ScopeState.{ScopeState}
use Rattle.view_laws.specs.Coming.{started_in, IsByMessages, MaySignal, MayEnd, MayComplete}
use Rattle.view_laws.specs.Learning.{with_signal}

some_none : (xs ys : List (Option Bool)) → list_any is_none (xs ++ None ∷ ys) ≡ true
some_none [] ys = refl
some_none (None ∷ xs) ys = refl
some_none (Some b ∷ xs) ys = some_none xs ys

-- ---- a SIGNAL

-- the activity to which it leads waits, and is decided by one value more
pub record SignalStep (ts : List Template) (depth : ℕ) (k : Known) (g : Graph) (input : Container) (s s' : ScopeState) (path : Path) (clock : ℕ) (before after : Told) (b : ℕ) : Type 0 where
  pub activity : Activity
  pub is : slice_get (out-Graph g).activities b ≡ Some activity
  pub was : ActivityState
  pub there : slice_get (fields s).states b ≡ Some was
  pub waits : fate_given ts k (output ts depth) g input (tree_ends ts depth k g input) b ≡ fates.Waiting
  pub tallies : List Tally
  pub join : Option Bool
  pub decides : Decides ts g path clock b activity join (record (fields s) { tallies = tallies }) (fields s') before after

-- what is decided once the value is taken
decided_then : (ts : List Template) (g : Graph) (path : Path) (clock b : ℕ) (activity : Activity) (vs : List (Option Bool)) (old new : Fields) (before after : Told) → TakesSignal ts g path clock b activity vs old new before after
    → (tallies : List Tally) × Decides ts g path clock b activity (joined activity.join vs) (record old { tallies = tallies }) new before after
decided_then ts g path clock b activity vs old new before after takes =
    (slice_set old.tallies b takes.takes.tally, subst (λ m. Decides ts g path clock b activity (joined activity.join vs) m new before after) takes.takes.scope takes.decides)

pub signal_step : (ts : List Template) (depth : ℕ) (k : Known) (g : Graph) (input : Container) (s s' : ScopeState) (path : Path) (clock : ℕ) (before after : Told) (a b : ℕ) (v : Bool) (name : Name)
    → Well ts depth g → IsByMessages k → MaySignal ts depth k g input a b v → place_of g name ≡ Some b → Shows ts depth k g input s
    → Receives ts path clock (Signals name v) before after g s s' → SignalStep ts depth k g input s s' path clock before after b
signal_step ts depth k g input s s' path clock before after a b v name well by may place shows receives =
    let found = found_at (λ (x : Activity). bytes_eq x.name name) (out-Graph g).activities b place in
    let activity = found.0 in
    let there = found.1 in
    let within : b < length (out-Graph g).activities = slice_get_within (out-Graph g).activities b activity there in
    let tallied : b < length (fields s).tallies = omega (arith, shows.tallied) in
    let stated : b < length (fields s).states = omega (arith, shows.stated) in
    let t = present (fields s).tallies b tallied in
    let was = present (fields s).states b stated in
    let e = tree_ends ts depth k g input in
    let told : IsTold v (values_at k (out-Graph g).controls e b) (values_at (with_signal a b v k) (out-Graph g).controls e b)
    = value_told k a b v by may.unsent (out-Graph g).controls e e may.number may.connector (simple_of ts depth g well) may.among may.from may.to in
    let takes = receives b activity t.0 told.before told.behind place there t.1 (subst (Counts t.0) told.old (shows.tallies b t.0 t.1)) in
    let none : joined activity.join (values_at k (out-Graph g).controls e b) ≡ None = rw (told.old, some_none told.before told.behind) refl in
    let values = told.before ++ Some v ∷ told.behind in
    let decides = decided_then ts g path clock b activity values (fields s) (fields s') before after takes in
    record {
      activity = activity;
      is = there;
      was = was.0;
      there = was.1;
      waits = rw (may.begun, there, none) refl;
      tallies = decides.0;
      join = joined activity.join values;
      decides = decides.1;
    }

-- ---- the END of an attempt

-- its activity is finished, or has one more scope
pub record EndStep (g h : Graph) (s s' : ScopeState) (path : Path) (before after : Told) (a : ℕ) (activity : Activity) : Type 0 where
  pub was : ActivityState
  pub there : slice_get (fields s).states a ≡ Some was
  pub out : Container
  pub ends : EndsBy (holds activity.exit out) g h path a activity was out (fields s) (fields s') before after

pub end_step : (ts : List Template) (depth : ℕ) (k : Known) (g : Graph) (input : Container) (s s' : ScopeState) (path : Path) (clock : ℕ) (before after : Told) (q : Part)
    → Well ts depth g → Served ts depth g → (may : MayEnd ts depth k g input q) → Shows ts depth k g input s
    → Receives ts path clock (EndsOf q.name q.attempt) before after g s s' → EndStep g may.graph s s' path before after may.place may.activity
end_step ts depth k g input s s' path clock before after q well served may shows receives =
    let one = started_scope ts depth k g input s q may.place may.activity may.number may.start may.graph (named_of ts depth g well) shows may.is may.of may.named may.started in
    let found = inner_is s may.place q.attempt may.number one.nested one.inner one.stated one.counted one.found in
    let rows = rows_inside ts depth g may.place may.activity may.graph served may.is may.of in
    record {
      was = Nested one.nested;
      there = one.stated;
      out = given_by may.graph one.inner;
      ends = receives may.place may.activity (Nested one.nested) may.graph one.inner one.named may.is one.stated may.of rows.sinking found;
    }

-- ---- a completion

-- the attempt of this number is open
pub record IsNext (j : ℕ) (x : ActivityState) : Type 0 where
  pub done : List Completed
  pub hold : Hold
  pub takes : ℕ
  pub since : ℕ
  pub is : x ≡ Program (opened done hold takes since)
  pub count : length done + 1 ≡ j

next_of_state : (p : State) (j : ℕ) → fate_of (held p Nobody) ≡ fates.Ready j → IsNext j (Program p)
next_of_state waiting j is = let n : ⊥ = cc in absurd n
next_of_state dead j is = let n : ⊥ = cc in absurd n
next_of_state (opened cs hold takes since) j is = record { done = cs; hold = hold; takes = takes; since = since; is = refl; count = cc }
next_of_state (finished cs) j is = let n : ⊥ = cc in absurd n

next_of : (w : Work) (program : ProgramOf) (fate : Fate) (outs : List Container) (starts : List Start) (shows : ShowsStart) (x : ActivityState) (j : ℕ) → w ≡ RunsProgram program → fate ≡ fates.Ready j
    → ShowsWork w fate outs starts shows x → IsNext j x
next_of (RunsProgram w) program fate outs starts shows (Program p) j runs ready is = next_of_state p j (is.stands ∙ ready)
next_of (RunsProgram w) program fate outs starts shows (Nested n) j runs ready is = absurd is
next_of (Block g) program fate outs starts shows x j runs ready is = let n : ⊥ = cc in absurd n
next_of (Process t) program fate outs starts shows x j runs ready is = let n : ⊥ = cc in absurd n

-- the attempt of its activity is open, and is completed
pub record CompleteStep (g : Graph) (s s' : ScopeState) (path : Path) (clock : ℕ) (before after : Told) (a : ℕ) (activity : Activity) (j : ℕ) (c : Completed) : Type 0 where
  pub was : ActivityState
  pub next : IsNext j was
  pub there : slice_get (fields s).states a ≡ Some (Program (opened next.done next.hold next.takes next.since))
  pub completes : CompletesBy (holds activity.exit c.output) g path clock a activity (opened next.done next.hold next.takes next.since) c (fields s) (fields s') before after

-- the state of its activity
next_at : (ts : List Template) (depth : ℕ) (k : Known) (g : Graph) (input : Container) (s : ScopeState) (q : Part) → (may : MayComplete ts depth k g input q) → Shows ts depth k g input s
    → (x : ActivityState) × (slice_get (fields s).states may.place ≡ Some x) × IsNext q.attempt x
next_at ts depth k g input s q may shows =
    let within : may.place < length (out-Graph g).activities = slice_get_within (out-Graph g).activities may.place may.activity may.is in
    let stated : may.place < length (fields s).states = omega (arith, shows.stated) in
    let was = present (fields s).states may.place stated in (
      was.0,
      was.1,
      next_of may.activity.work may.program (fate_given ts k (output ts depth) g input (tree_ends ts depth k g input) may.place)
          (attempts ts k (output ts depth) g input (tree_ends ts depth k g input) may.place) (started_in ts depth k g input may.place may.activity)
          (shows_attempt (ShowsWithin ts depth) k may.activity.name (graph_in ts may.activity.work)) was.0 q.attempt may.runs may.ready (shows.states may.place may.activity was.0 may.is was.1),
    )

pub complete_step : (ts : List Template) (depth : ℕ) (k : Known) (g : Graph) (input : Container) (s s' : ScopeState) (path : Path) (clock : ℕ) (before after : Told) (q : Part) (c : Completed)
    → Well ts depth g → (may : MayComplete ts depth k g input q) → Shows ts depth k g input s
    → Receives ts path clock (Completes q.name c) before after g s s' → CompleteStep g s s' path clock before after may.place may.activity q.attempt c
complete_step ts depth k g input s s' path clock before after q c well may shows receives =
    let was = next_at ts depth k g input s q may shows in
    let next = was.2 in
    let place : place_of g q.name ≡ Some may.place = ap (place_of g) (sym may.name) ∙ place_found g may.place may.activity (named_of ts depth g well) may.is in
    let there : slice_get (fields s).states may.place ≡ Some (Program (opened next.done next.hold next.takes next.since)) = was.1 ∙ ap Some next.is in
    record { was = was.0; next = next; there = there; completes = receives may.place may.activity (opened next.done next.hold next.takes next.since) place may.is there }
