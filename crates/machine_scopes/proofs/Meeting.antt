-- What may come is met.
use Rattle.std.proofs.Common.{◌≡◌, ℕ, zero, suc, ◌+◌, Bool, List, [], ◌∷◌, ◌++◌, Option, Some, None}
use Rattle.std.proofs.Common.{option_and_then, refl, sym, ap, subst, ◌∙◌, arith}
use Rattle.std.specs.Prelude.{slice_get}
use Rattle.activity_states.specs.States.{State}
use Rattle.activity_states.specs.declared.states.Completed.{Completed}
use Rattle.fate_laws.specs.StartedScopes.{ScopeFact}
use Rattle.fate_laws.specs.WellFormed.{Well}
use Rattle.flow_model.specs.ScopeContainers.{graph_in}
use Rattle.flow_model.specs.Scopes.{Known, at, part, Start, values_at, attempts, fate_given, output}
use Rattle.flow_model.specs.Scopes.{tree_ends}
use Rattle.flow_model.specs.Wiring.{IsSinking}
use Rattle.flow_model.specs.declared.graphs.Activity.{Activity}
use Rattle.flow_model.specs.declared.graphs.Container.{Container}
use Rattle.flow_model.specs.declared.graphs.Graph.{Graph, out-Graph}
use Rattle.flow_model.specs.declared.graphs.Program.{Program as ProgramOf}
use Rattle.flow_model.specs.declared.graphs.Template.{Template}
use Rattle.flow_model.specs.declared.graphs.Work.{Work, Program as RunsProgram, Block, Process}
use Rattle.flow_model.specs.declared.instances.Fate.{Fate}
use Rattle.flow_model.specs.declared.instances.Message.{Message}
use Rattle.flow_model.specs.declared.instances.Message.TheVariants.{Begin, Signal, End}
use Rattle.flow_model.specs.declared.instances.Part.{Part}
use Rattle.flow_model.specs.declared.instances.Path.{Path}
use Rattle.flow_model.specs.declared.names.Name.{Name}
use Rattle.dead_paths.specs.Tallies.{Counts}
use Rattle.std.specs.Prelude.{bytes_eq}
use Rattle.machine.specs.Moves as m
use Rattle.navigator.proofs.Leading.{has_scopes, started_place}
use Rattle.navigator.proofs.Replaced.{found_at}
use Rattle.navigator.proofs.SameActivities.{named_of, simple_of, place_found}
use Rattle.navigator.proofs.SignalValues.{value_told}
use Rattle.navigator.proofs.Stepping.{leads_along}
use Rattle.navigator.proofs.TakesShown.{usable_of}
use Rattle.navigator.specs.Events.{Signals}
use Rattle.navigator.specs.Reading.{place_of, attempt_place, scope_of}
use Rattle.navigator.specs.Serving.{Served}
use Rattle.navigator.specs.Showing.{graph_along, signal_between, signal_in, note_in}
use Rattle.navigator.specs.Steps.{fields}
use Rattle.navigator.specs.Views.{ShowsStart, ShowsWork, shows_attempt, ShowsWithin, Shows}
use Rattle.navigator.specs.declared.scopes.ActivityState.{ActivityState, Program, Nested}
use Rattle.navigator.specs.declared.scopes.NestedState.{NestedState, out-NestedState}
use Rattle.navigator.specs.declared.scopes.ScopeState.{ScopeState}
use Rattle.view_laws.specs.Coming.{IsByMessages, MayBegin, MaySignal, MayEnd, MayComplete, Leads, Comes}
use Rattle.view_laws.specs.Coming.{ComesOutput, started_in}
use Rattle.view_laws.specs.Messages.{Note, BeginNote, SignalNote, EndNote}
use Rattle.machine_scopes.specs.Events.{MeetsBegin, MeetsSignal, MeetsEnd, MeetsCompletion, Meets}
use Rattle.machine_scopes.specs.Seen.{Along}
use Rattle.machine_scopes.specs.Turns.{MeetsMessage, MeetsItem}
use Rattle.machine_scopes.proofs.Lists.{present, within}

sinking_of : (ts : List Template) (depth : ℕ) (g : Graph) → Served ts depth g → IsSinking g
sinking_of ts zero g served = served.sinking
sinking_of ts (suc depth) g served = served.sinking

-- the place of a named activity
named_place : (ts : List Template) (depth : ℕ) (g : Graph) (a : ℕ) (activity : Activity) (name : Name)
    → Well ts depth g → slice_get (out-Graph g).activities a ≡ Some activity → activity.name ≡ name
    → place_of g name ≡ Some a
named_place ts depth g a activity name well there named =
    ap (place_of g) (sym named) ∙ place_found g a activity (named_of ts depth g well) there

-- ---- an attempt that has started

module _ (ts : List Template) (depth : ℕ) (k : Known) (g : Graph) (input : Container) (s : ScopeState)
    (shows : Shows ts depth k g input s) (a : ℕ) (activity : Activity)
    (there : slice_get (out-Graph g).activities a ≡ Some activity) where
  state_at : (state : ActivityState) × (slice_get (fields s).states a ≡ Some state)
  state_at =
      let less = within (out-Graph g).activities a activity there in present (fields s).states a
      (omega (arith, shows.stated, less))

  shown_at : ShowsWork activity.work (fate_given ts k (output ts depth) g input (tree_ends ts depth k g input) a)
      (attempts ts k (output ts depth) g input (tree_ends ts depth k g input) a)
      (started_in ts depth k g input a activity)
      (shows_attempt (ShowsWithin ts depth) k activity.name (graph_in ts activity.work)) state_at.0
  shown_at = shows.states a activity state_at.0 there state_at.1

  -- its scope is there, and shows its view
  pub attempt_there : (h : Graph) (i : ℕ) (start : Start) → graph_in ts activity.work ≡ Some h
      → slice_get (started_in ts depth k g input a activity) i ≡ Some start
      → (n : NestedState) × (inner : ScopeState) × (slice_get (fields s).states a ≡ Some (Nested n))
      × (slice_get (out-NestedState n).scopes.items i ≡ Some inner)
      × ShowsWithin ts depth (at (part activity.name start.attempt) k) h start.input inner
  attempt_there h i start runs started =
      let has = has_scopes ts activity.work h _ _ _ _ state_at.0 runs shown_at in
      let less = within (started_in ts depth k g input a activity) i start started in
      let inner = present (out-NestedState has.nested).scopes.items i (omega (arith, has.shown.count, less)) in (
        has.nested,
        inner.0,
        state_at.1 ∙ ap Some has.is,
        inner.1,
        subst (λ o. shows_attempt (ShowsWithin ts depth) k activity.name o start inner.0) runs
            (has.shown.scopes i start inner.0 started inner.1),
      )

-- ---- along a path

along : (ts : List Template) (fact : ScopeFact) (P : Graph → ScopeState → Type 0)
    → ((depth : ℕ) (k : Known) (g : Graph) (input : Container) (s : ScopeState) → Well ts depth g → Served ts depth g
    → IsByMessages k → fact depth k g input → Shows ts depth k g input s → P g s)
    → (p : List Part) (depth : ℕ) (k : Known) (g : Graph) (input : Container) (s : ScopeState) → Well ts depth g
    → Served ts depth g → IsByMessages k → Leads fact ts depth k g input p → Shows ts depth k g input s
    → Along ts P p g s
along ts fact P here [] depth k g input s well served by leads shows = here depth k g input s well served by leads shows
along ts fact P here (q ∷ p) zero k g input s well served by leads shows = absurd leads
along ts fact P here (q ∷ p) (suc depth) k g input s well served by leads shows =
    let scope = attempt_there ts (suc depth) k g input s shows leads.place leads.activity leads.is leads.graph
    leads.number leads.start leads.of leads.started in
    record {
      place = leads.place;
      attempt = leads.number;
      activity = leads.activity;
      graph = leads.graph;
      nested = scope.0;
      inner = scope.1;
      named =
          named_place ts (suc depth) g leads.place leads.activity q.name well leads.is
          (ap (λ (r : Part). r.name) leads.named);
      there = leads.is;
      runs = leads.of;
      counted =
          ap (λ (r : Part). attempt_place r.attempt) (sym leads.named)
          ∙ started_place ts k (output ts (suc depth)) g input
          (tree_ends ts (suc depth) k g input) leads.place leads.activity leads.number leads.start leads.started;
      stands = scope.2;
      has = scope.3;
      behind =
          along ts fact P here p depth (at q k) leads.graph leads.start.input scope.1
          (well.inside leads.place leads.activity leads.is leads.graph leads.of)
          (served.inside leads.place leads.activity leads.graph leads.is leads.of)
          (λ r a b o. by (q ∷ r) a b o) leads.within
          (subst (λ r. ShowsWithin ts (suc depth) (at r k) leads.graph leads.start.input scope.1) leads.named
          scope.4);
    }

-- ---- in the scope that receives it

begin_met : (ts : List Template) (depth : ℕ) (k : Known) (g : Graph) (input : Container) (s : ScopeState)
    → Well ts depth g → Served ts depth g → IsByMessages k → MayBegin ts depth k g input → Shows ts depth k g input s
    → MeetsBegin g s
begin_met ts depth k g input s well served by may shows = record {
  usable = usable_of ts depth g served;
  values = values_at k (out-Graph g).controls (tree_ends ts depth k g input);
  tallied = record { long = shows.tallied; counts = λ a t found. shows.tallies a t found };
}

found_named : (g : Graph) (b : ℕ) (name : Name) → place_of g name ≡ Some b → (activity : Activity)
    × (slice_get (out-Graph g).activities b ≡ Some activity)
found_named g b name is =
    let found = found_at (λ (x : Activity). bytes_eq x.name name) (out-Graph g).activities b is in (found.0, found.1)

signal_met : (ts : List Template) (a b : ℕ) (v : Bool) (name : Name) (depth : ℕ) (k : Known) (g : Graph)
    (input : Container) (s : ScopeState) → Well ts depth g → Served ts depth g → IsByMessages k
    → MaySignal ts depth k g input a b v × (place_of g name ≡ Some b) → Shows ts depth k g input s
    → MeetsSignal name g s
signal_met ts a b v name depth k g input s well served by may shows =
    let activity = found_named g b name may.1 in
    let less = within (out-Graph g).activities b activity.0 activity.1 in
    let tally = present (fields s).tallies b (omega (arith, shows.tallied, less)) in
    let e = tree_ends ts depth k g input in
    let told = value_told k a b v by may.0.unsent (out-Graph g).controls e e may.0.number may.0.connector
    (simple_of ts depth g well) may.0.among may.0.from may.0.to in
    record {
      usable = usable_of ts depth g served;
      place = b;
      activity = activity.0;
      tally = tally.0;
      before = told.before;
      behind = told.behind;
      named = may.1;
      there = activity.1;
      tallied = tally.1;
      counts = subst (Counts tally.0) told.old (shows.tallies b tally.0 tally.1);
    }

end_met : (ts : List Template) (q : Part) (depth : ℕ) (k : Known) (g : Graph) (input : Container) (s : ScopeState)
    → Well ts depth g → Served ts depth g → IsByMessages k → MayEnd ts depth k g input q → Shows ts depth k g input s
    → MeetsEnd ts q.name q.attempt g s
end_met ts q zero k g input s well served by may shows =
    absurd (served.inside may.place may.activity may.graph may.is may.of)
end_met ts q (suc depth) k g input s well served by may shows =
    let scope = attempt_there ts (suc depth) k g input s shows may.place may.activity may.is may.graph may.number
    may.start may.of may.started in
    let counted : attempt_place q.attempt ≡ Some may.number = ap (λ
    (r : Part). attempt_place r.attempt) (sym may.named)
    ∙ started_place ts k (output ts (suc depth)) g input
    (tree_ends ts (suc depth) k g input) may.place may.activity may.number may.start may.started in
    record {
      usable = usable_of ts (suc depth) g served;
      place = may.place;
      activity = may.activity;
      was = Nested scope.0;
      graph = may.graph;
      inner = scope.1;
      named =
          named_place ts (suc depth) g may.place may.activity q.name well may.is (ap (λ (r : Part). r.name) may.named);
      there = may.is;
      stands = scope.2;
      runs = may.of;
      sinking = sinking_of ts depth may.graph (served.inside may.place may.activity may.graph may.is may.of);
      has =
          ap (option_and_then (λ state. scope_of state q.attempt)) scope.2
          ∙ ap (option_and_then (slice_get (out-NestedState scope.0).scopes.items)) counted ∙ scope.3;
    }

program_there : (w : Work) (program : ProgramOf) (fate : Fate) (outs : List Container) (starts : List Start)
    (shows : ShowsStart) (state : ActivityState) → w ≡ RunsProgram program → ShowsWork w fate outs starts shows state
    → (p : State) × (state ≡ Program p)
program_there (RunsProgram w) program fate outs starts shows (Program p) runs is = (p, refl)
program_there (RunsProgram w) program fate outs starts shows (Nested n) runs is = absurd is
program_there (Block g) program fate outs starts shows state runs is = let never : ⊥ = cc in absurd never
program_there (Process t) program fate outs starts shows state runs is = let never : ⊥ = cc in absurd never

completion_met : (ts : List Template) (q : Part) (depth : ℕ) (k : Known) (g : Graph) (input : Container)
    (s : ScopeState) → Well ts depth g → Served ts depth g → IsByMessages k → MayComplete ts depth k g input q
    → Shows ts depth k g input s → MeetsCompletion q.name g s
completion_met ts q depth k g input s well served by may shows =
    let state = state_at ts depth k g input s shows may.place may.activity may.is in
    let program = program_there may.activity.work may.program _ _ _ _ state.0 may.runs
    (shown_at ts depth k g input s shows may.place may.activity may.is) in
    record {
      usable = usable_of ts depth g served;
      place = may.place;
      activity = may.activity;
      state = program.0;
      named = named_place ts depth g may.place may.activity q.name well may.is may.name;
      there = may.is;
      stands = state.1 ∙ ap Some program.1;
    }

-- ---- a message, a completion

last_is : (xs : List Part) (q : Part) → m.last_part (xs ++ q ∷ []) ≡ Some q
last_is [] q = refl
last_is (x ∷ []) q = refl
last_is (x ∷ (y ∷ ys)) q = last_is (y ∷ ys) q

front_is : (xs : List Part) (q : Part) → m.front_parts (xs ++ q ∷ []) ≡ xs
front_is [] q = refl
front_is (x ∷ []) q = refl
front_is (x ∷ (y ∷ ys)) q = ap (λ zs. x ∷ zs) (front_is (y ∷ ys) q)

module _ (ts : List Template) (depth : ℕ) (k k' : Known) (g : Graph) (input : Container) (s : ScopeState)
    (well : Well ts depth g) (served : Served ts depth g) (by : IsByMessages k)
    (shows : Shows ts depth k g input s) where
  signal_comes : (path : Path) (from to : Name) (v : Bool) (note : Note) (o : Option Graph) (x y : Option ℕ)
      → graph_along ts path.parts g ≡ o → signal_in path.parts from to v o ≡ Some note
      → Comes ts depth k g input note k'
      → Along ts (Meets ts (Signals to v)) path.parts g s
  signal_comes path from to v note None x y at is comes = let never : None ≡ Some note = is in cc
  signal_comes path from to v note (Some h) x y at is comes = go (place_of h from) (place_of h to) refl is
    where
      go : (x y : Option ℕ) → place_of h to ≡ y → signal_between path.parts v x y ≡ Some note
          → Along ts (Meets ts (Signals to v)) path.parts g s
      go None y at_to is = let never : None ≡ Some note = is in cc
      go (Some a) None at_to is = let never : None ≡ Some note = is in cc
      go (Some a) (Some b) at_to is =
          let same : SignalNote path.parts a b v ≡ note = cc in
          let leads = (subst (λ z. Comes ts depth k g input z k') (sym same) comes).0 in
          along ts (λ d j u i. MaySignal ts d j u i a b v × (place_of u to ≡ Some b)) (MeetsSignal to)
          (λ d j u i t w sv bm may shown. signal_met ts a b v to d j u i t w sv bm may shown)
          path.parts depth k g input s well served by
          (leads_along ts (λ d j u i. MaySignal ts d j u i a b v)
          (λ u. place_of u to ≡ Some b) h at_to path.parts depth k g input well at leads) shows

  pub message_met : (message : Message) (note : Note) → note_in ts g message ≡ Some note
      → Comes ts depth k g input note k' → MeetsMessage ts message g s
  message_met (Begin path) note is comes =
      let same : BeginNote path.parts ≡ note = cc in
      along ts (MayBegin ts) MeetsBegin (λ d j u i t w sv bm may shown. begin_met ts d j u i t w sv bm may
      shown) path.parts depth k g input s well served by
      (subst (λ z. Comes ts depth k g input z k') (sym same) comes).0 shows
  message_met (Signal path from to v) note is comes =
      signal_comes path from to v note (graph_along ts path.parts g) None None refl is comes
  message_met (End path) note is comes =
      let same : EndNote path.parts ≡ note = cc in
      let ends = subst (λ z. Comes ts depth k g input z k') (sym same) comes in
      record {
        last = ends.1;
        is = ap m.last_part ends.2 ∙ last_is ends.0 ends.1;
        along =
            subst (λ ps. Along ts (MeetsEnd ts ends.1.name ends.1.attempt) ps g s)
            (sym (ap m.front_parts ends.2 ∙ front_is ends.0 ends.1))
            (along ts (λ d j u i. MayEnd ts d j u i ends.1) (MeetsEnd ts ends.1.name ends.1.attempt)
            (λ d j u i t w sv bm may shown. end_met ts ends.1 d j u i t w sv bm may shown) ends.0 depth k g input s
            well served by ends.3 shows);
      }

  pub completion_comes : (item : Path) (c : Completed) → ComesOutput ts depth k g input item.parts c.output k'
      → MeetsItem ts c item g s
  completion_comes item c comes = record {
    last = comes.1;
    is = ap m.last_part comes.2 ∙ last_is comes.0 comes.1;
    along =
        subst (λ ps. Along ts (MeetsCompletion comes.1.name) ps g s)
        (sym (ap m.front_parts comes.2 ∙ front_is comes.0 comes.1))
        (along ts (λ d j u i. MayComplete ts d j u i comes.1) (MeetsCompletion comes.1.name)
        (λ d j u i t w sv bm may shown. completion_met ts comes.1 d j u i t w sv bm may shown) comes.0 depth k g
        input s well served by comes.3 shows);
  }
