-- A change of who holds an item changes nothing of what is shown.
use Rattle.std.proofs.Common.{◌≡◌, ℕ, zero, suc, ◌<◌, List, map, length, Option, Some, refl, ap, sym, ◌∙◌, subst, arith, inl, inr, get_or}
use Rattle.std.specs.Prelude.{not, slice_get, slice_set, count_by}
use Rattle.std.proofs.lemmas.Bool.Decides.{eqb_tells}
use Rattle.std.proofs.lemmas.Option.{slice_get_within, slice_get_read}
use Rattle.activity_states.specs.States.{State, waiting, dead, opened, finished, held, taken}
use Rattle.blocks_subprocs.specs.Ends.{ends_of}
use Rattle.flow_model.specs.Fates.{is_settled}
use Rattle.flow_model.specs.ScopeContainers.{graph_in}
use Rattle.flow_model.specs.Scopes.{Known, Start, output, scope_ends}
use Rattle.flow_model.specs.declared.graphs.Activity.{Activity}
use Rattle.flow_model.specs.declared.graphs.Container.{Container}
use Rattle.flow_model.specs.declared.graphs.Graph.{Graph, out-Graph}
use Rattle.flow_model.specs.declared.graphs.Template.{Template}
use Rattle.flow_model.specs.declared.graphs.Work.{Work, Program as RunsProgram, Block, Process}
use Rattle.flow_model.specs.declared.instances.Fate.{Fate}
use Rattle.flow_model.specs.declared.instances.Hold.{Hold}
use Rattle.flow_model.specs.declared.names.Name.{Name}
use Rattle.navigator.specs.Showing.{DiffersInHold, StaysShown, StaysShownNested, StaysShownWork}
use Rattle.navigator.specs.Steps.{Fields, fields, with_state}
use Rattle.navigator.specs.Views.{ShowsProgram, ShowsNested, ShowsWork, ShowsStart, shows_attempt, ShowsActivity, ShowsWithin, Shows}
use Rattle.navigator.specs.declared.scopes.ActivityState.{ActivityState, Program, Nested}
use Rattle.navigator.specs.declared.scopes.NestedState.{NestedState, out-NestedState}
use Rattle.navigator.specs.declared.scopes.ScopeState.{ScopeState}
use Rattle.navigator.proofs.Leading.{set_other, set_long}
use Rattle.navigator.proofs.Places.{set_read}

-- ---- program activities

pub alike_held : (p : State) (hold : Hold) → DiffersInHold p (held p hold)
alike_held waiting hold = record { fate = refl; outputs = refl }
alike_held dead hold = record { fate = refl; outputs = refl }
alike_held (opened cs was takes since) hold = record { fate = refl; outputs = refl }
alike_held (finished cs) hold = record { fate = refl; outputs = refl }

pub alike_taken : (p : State) → DiffersInHold p (taken p)
alike_taken waiting = record { fate = refl; outputs = refl }
alike_taken dead = record { fate = refl; outputs = refl }
alike_taken (opened cs was takes since) = record { fate = refl; outputs = refl }
alike_taken (finished cs) = record { fate = refl; outputs = refl }

program_alike : (fate : Fate) (outs : List Container) (p p' : State) → DiffersInHold p p' → ShowsProgram fate outs p → ShowsProgram fate outs p'
program_alike fate outs p p' same is = record {
  stands = same.fate ∙ is.stands;
  outputs = λ opens. ap (λ cs. map (λ c. c.output) cs) same.outputs ∙ is.outputs opens;
}

pub work_alike : (w : Work) (fate : Fate) (outs : List Container) (starts : List Start) (shows : ShowsStart) (p p' : State) → DiffersInHold p p'
    → ShowsWork w fate outs starts shows (Program p) → ShowsWork w fate outs starts shows (Program p')
work_alike (RunsProgram w) fate outs starts shows p p' same is = program_alike fate outs p p' same is
work_alike (Block g) fate outs starts shows p p' same is = is
work_alike (Process t) fate outs starts shows p p' same is = is

-- ---- a scope

-- what is read at a place where another element can be put stands there
read_there : {X : Type 0} (xs : List X) (i : ℕ) (old new found : X) → old ≡ get_or xs i old → slice_get (slice_set xs i new) i ≡ Some found → slice_get xs i ≡ Some old
read_there xs i old new found read replaced =
    let within : i < length (slice_set xs i new) = slice_get_within (slice_set xs i new) i found replaced in
    let long = set_long xs i new in
    slice_get_read xs (length xs) i old refl (omega arith) read

-- where the state of one activity shows what the one before did, so does the scope
pub stays_by_state : (ts : List Template) (g : Graph) (s s' : ScopeState) (a : ℕ) (old state : ActivityState) → old ≡ get_or (fields s).states a old → fields s' ≡ with_state a state (fields s)
    → ((depth : ℕ) (k : Known) (input : Container) (activity : Activity) → slice_get (out-Graph g).activities a ≡ Some activity
    → ShowsActivity ts k (output ts depth) (ShowsWithin ts depth) g input (scope_ends ts k (output ts depth) g input) a activity old
    → ShowsActivity ts k (output ts depth) (ShowsWithin ts depth) g input (scope_ends ts k (output ts depth) g input) a activity state)
    → StaysShown ts g s s'
stays_by_state ts g s s' a old state read around more = λ depth k input shows. record {
  begun = ap (λ (f : Fields). f.begun) around ∙ shows.begun;
  reads = ap (λ (f : Fields). f.input) around ∙ shows.reads;
  tallied = ap (λ (f : Fields). length f.tallies) around ∙ shows.tallied;
  tallies = λ b t found. shows.tallies b t (sym (ap (λ (f : Fields). slice_get f.tallies b) around) ∙ found);
  ended = ap (λ (f : Fields). length f.ends) around ∙ shows.ended;
  ends = λ b. ap (λ (f : Fields). ends_of f.ends b) around ∙ shows.ends b;
  stated = ap (λ (f : Fields). length f.states) around ∙ set_long (fields s).states a state ∙ shows.stated;
  states = λ x activity found there is. each depth k input shows x activity found there is;
  unsettled = ap (λ (f : Fields). f.unsettled) around ∙ shows.unsettled ∙ ap (λ (f : Fields). count_by (λ x. not (is_settled x)) f.ends) (sym around);
}
  where
    each : (depth : ℕ) (k : Known) (input : Container) → Shows ts depth k g input s → (x : ℕ) (activity : Activity) (found : ActivityState) → slice_get (out-Graph g).activities x ≡ Some activity
        → slice_get (fields s').states x ≡ Some found
        → ShowsActivity ts k (output ts depth) (ShowsWithin ts depth) g input (scope_ends ts k (output ts depth) g input) x activity found
    each depth k input shows x activity found there is = elim (eqb_tells x a) [
      | inl same ↦
          let here : slice_get (out-Graph g).activities a ≡ Some activity = ap (slice_get (out-Graph g).activities) (sym same.1) ∙ there in
          let replaced : slice_get (slice_set (fields s).states a state) a ≡ Some found = ap (slice_get (slice_set (fields s).states a state)) (sym same.1) ∙ ap (λ (f : Fields). slice_get f.states x) (sym around) ∙ is in
          let at : slice_get (fields s).states a ≡ Some old = read_there (fields s).states a old state found read replaced in
          let new : slice_get (fields s').states a ≡ Some state = ap (λ (f : Fields). slice_get f.states a) around ∙ set_read (fields s).states a old state at in
          let both : Some found ≡ Some state = sym is ∙ ap (slice_get (fields s').states) same.1 ∙ new in
          let found_is : found ≡ state = cc in
          rw (found_is, same.1) (more depth k input activity here (shows.states a activity old here at))
      | inr apart ↦
          let before : slice_get (fields s).states x ≡ Some found = sym (set_other (fields s).states a x state apart.1) ∙ ap (λ (f : Fields). slice_get f.states x) (sym around) ∙ is in
          shows.states x activity found there before
    ]

-- ---- further in

attempt_stays : (ts : List Template) (h : Graph) (depth : ℕ) (k : Known) (name : Name) (start : Start) (t t' : ScopeState) → StaysShown ts h t t'
    → shows_attempt (ShowsWithin ts depth) k name (Some h) start t → shows_attempt (ShowsWithin ts depth) k name (Some h) start t'
attempt_stays ts h zero k name start t t' stays is = absurd is
attempt_stays ts h (suc depth) k name start t t' stays is = stays depth _ start.input is

-- where one scope shows what the one before did, so does the activity
pub nested_stays : (ts : List Template) (h : Graph) (n n' : NestedState) (i : ℕ) (inner next : ScopeState) → inner ≡ get_or (out-NestedState n).scopes.items i inner
    → (out-NestedState n').scopes.items ≡ slice_set (out-NestedState n).scopes.items i next → (out-NestedState n').stage ≡ (out-NestedState n).stage → StaysShown ts h inner next
    → StaysShownNested ts h n n'
nested_stays ts h n n' i inner next read scopes stage stays = λ depth k name fate starts is.
    let long : length (out-NestedState n').scopes.items ≡ length (out-NestedState n).scopes.items = ap length scopes ∙ set_long (out-NestedState n).scopes.items i next in
    record {
      stands = rw (stage, long) is.stands;
      count = long ∙ is.count;
      scopes = λ c start t at found. each depth k name fate starts is c start t at found;
    }
  where
    each : (depth : ℕ) (k : Known) (name : Name) (fate : Fate) (starts : List Start) → ShowsNested fate starts (shows_attempt (ShowsWithin ts depth) k name (Some h)) n
        → (c : ℕ) (start : Start) (t : ScopeState) → slice_get starts c ≡ Some start → slice_get (out-NestedState n').scopes.items c ≡ Some t
        → shows_attempt (ShowsWithin ts depth) k name (Some h) start t
    each depth k name fate starts is c start t at found = elim (eqb_tells c i) [
      | inl same ↦
          let replaced : slice_get (slice_set (out-NestedState n).scopes.items i next) i ≡ Some t
          = ap (slice_get (slice_set (out-NestedState n).scopes.items i next)) (sym same.1) ∙ ap (λ xs. slice_get xs c) (sym scopes) ∙ found in
          let there : slice_get (out-NestedState n).scopes.items i ≡ Some inner = read_there (out-NestedState n).scopes.items i inner next t read replaced in
          let here : slice_get (out-NestedState n').scopes.items i ≡ Some next = ap (λ xs. slice_get xs i) scopes ∙ set_read (out-NestedState n).scopes.items i inner next there in
          let both : Some t ≡ Some next = sym found ∙ ap (slice_get (out-NestedState n').scopes.items) same.1 ∙ here in
          let t_is : t ≡ next = cc in
          let was = is.scopes i start inner (ap (slice_get starts) (sym same.1) ∙ at) there in
          subst (λ (u : ScopeState). shows_attempt (ShowsWithin ts depth) k name (Some h) start u) (sym t_is) (attempt_stays ts h depth k name start inner next stays was)
      | inr apart ↦
          let before : slice_get (out-NestedState n).scopes.items c ≡ Some t = sym (set_other (out-NestedState n).scopes.items i c next apart.1) ∙ ap (λ xs. slice_get xs c) (sym scopes) ∙ found in
          is.scopes c start t at before
    ]

pub work_stays : (ts : List Template) (h : Graph) (n n' : NestedState) → StaysShownNested ts h n n' → StaysShownWork ts h (Nested n) (Nested n')
work_stays ts h n n' stays = λ w depth k name fate outs starts runs is. go w depth k name fate outs starts runs is
  where
    go : (w : Work) (depth : ℕ) (k : Known) (name : Name) (fate : Fate) (outs : List Container) (starts : List Start) → graph_in ts w ≡ Some h
        → ShowsWork w fate outs starts (shows_attempt (ShowsWithin ts depth) k name (Some h)) (Nested n)
        → ShowsWork w fate outs starts (shows_attempt (ShowsWithin ts depth) k name (Some h)) (Nested n')
    go (RunsProgram w) depth k name fate outs starts runs is = absurd is
    go (Block g) depth k name fate outs starts runs is = stays depth k name fate starts is
    go (Process t) depth k name fate outs starts runs is = stays depth k name fate starts is

-- an activity that runs no graph of its own stays, and so does one whose state stays
pub activity_stays : (ts : List Template) (h : Graph) (depth : ℕ) (k : Known) (w : Work) (name : Name) (fate : Fate) (outs : List Container) (starts : List Start) (state state' : ActivityState)
    → graph_in ts w ≡ Some h → StaysShownWork ts h state state'
    → ShowsWork w fate outs starts (shows_attempt (ShowsWithin ts depth) k name (graph_in ts w)) state
    → ShowsWork w fate outs starts (shows_attempt (ShowsWithin ts depth) k name (graph_in ts w)) state'
activity_stays ts h depth k w name fate outs starts state state' runs stays is =
    let shows = λ (o : Option Graph) (x : ActivityState). ShowsWork w fate outs starts (shows_attempt (ShowsWithin ts depth) k name o) x in
    subst (λ (o : Option Graph). shows o state') (sym runs) (stays w depth k name fate outs starts runs (subst (λ (o : Option Graph). shows o state) runs is))
