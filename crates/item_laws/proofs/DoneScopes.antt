-- A scope that is complete has no open item, nor has any scope below it.
use Rattle.std.proofs.Common.{◌≡◌, ℕ, zero, suc, Bool, true, false, List, [], ◌∷◌, length, Option, Some, None, cond, refl, ap, sym, ◌∙◌, arith}
use Rattle.std.specs.Prelude.{◌==◌, ◌&&◌, slice_get, option_and_then, option_map}
use Rattle.std.proofs.lemmas.Option.{none-some}
use Rattle.activity_states.specs.States.{State, waiting, dead, opened, finished, fate_of, held}
use Rattle.fate_laws.proofs.Complete.{settled_at}
use Rattle.fate_laws.specs.WellFormed.{Well}
use Rattle.flow_model.specs.Containers.{with_return_code}
use Rattle.flow_model.specs.Fates.{ended, is_settled}
use Rattle.flow_model.specs.ScopeContainers.{graph_in, is_complete}
use Rattle.flow_model.specs.Scopes.{Known, at, part, Runs, Start, scope_gives, gives, attempts, fate_given, output, tree_ends}
use Rattle.flow_model.specs.declared.graphs.Activity.{Activity}
use Rattle.flow_model.specs.declared.graphs.Container.{Container}
use Rattle.flow_model.specs.declared.graphs.Graph.{Graph, out-Graph}
use Rattle.flow_model.specs.declared.graphs.Template.{Template}
use Rattle.flow_model.specs.declared.graphs.Work.{Work, Program as RunsProgram, Block, Process}
use Rattle.flow_model.specs.declared.instances.Fate.{Fate}
use Rattle.flow_model.specs.declared.instances.Hold.TheVariants.{Nobody}
use Rattle.flow_model.specs.declared.instances.Mode.TheVariants.{Done}
use Rattle.flow_model.specs.declared.instances.Part.{Part}
use Rattle.item_laws.proofs.OpenScopes.{open_attempt, open_item, item_of, open_here, open_inside, scope_in, open_below, open_in, open_is}
use Rattle.item_laws.proofs.ScopesInside.{started_at_place}
use Rattle.item_laws.proofs.SettledAttempts.{each_gave}
use Rattle.item_laws.specs.OpenItems.{open_at, NoneOpen}
use Rattle.navigator.proofs.EndedScopes.{gives_scope}
use Rattle.navigator.proofs.ReadScopes.{shown_complete}
use Rattle.navigator.proofs.SameActivities.{step_is}
use Rattle.navigator.specs.Instances.{mode_of}
use Rattle.navigator.specs.Reading.{place_of, attempt_place, scope_of}
use Rattle.navigator.specs.Steps.{fields}
use Rattle.navigator.specs.Views.{ShowsStart, ShowsWork, ShowsWithin, shows_attempt, Shows}
use Rattle.navigator.specs.declared.scopes.ActivityState.{ActivityState, Program, Nested}
use Rattle.navigator.specs.declared.scopes.NestedState.{NestedState, out-NestedState}
use Rattle.navigator.specs.declared.scopes.ScopeState.{ScopeState, out-ScopeState}
use Rattle.view_laws.proofs.Unfinished.{place_inside, output_complete}
use Rattle.view_laws.specs.Coming.{started_in}

-- ---- an activity that is settled

-- an activity that is settled has no open attempt
shut_attempt : (p : State) (fate : Fate) (outs : List Container) (j : ℕ) → fate_of (held p Nobody) ≡ fate → is_settled (ended fate outs) ≡ true → open_attempt p j ≡ None
shut_attempt waiting fate outs j is settled = refl
shut_attempt dead fate outs j is settled = refl
shut_attempt (finished cs) fate outs j is settled = refl
shut_attempt (opened cs hold takes since) fate outs j is settled = let n : false ≡ true = rw (← is) at settled in let m : ⊥ = cc in absurd m

shut_item : (w : Work) (fate : Fate) (outs : List Container) (starts : List Start) (shows : ShowsStart) (x : ActivityState) (j : ℕ) → is_settled (ended fate outs) ≡ true
    → ShowsWork w fate outs starts shows x → open_item x j ≡ None
shut_item (RunsProgram w) fate outs starts shows (Program p) j settled is = shut_attempt p fate outs j is.stands settled
shut_item (RunsProgram w) fate outs starts shows (Nested n) j settled is = refl
shut_item (Block g) fate outs starts shows (Program p) j settled is = absurd is
shut_item (Block g) fate outs starts shows (Nested n) j settled is = refl
shut_item (Process t) fate outs starts shows (Program p) j settled is = absurd is
shut_item (Process t) fate outs starts shows (Nested n) j settled is = refl

-- what gives something has told its end, and its scope gives it
gave : (k : Known) (runs : Runs) (h : Graph) (q : Part) (i out : Container) → scope_gives k runs (Some h) q i ≡ Some out → (o : Container) × (runs (at q k) h i ≡ Some o)
gave k runs h q i out is = by (k.closed (q ∷ [])) (runs (at q k) h i) refl is
  where
    by : (b : Bool) (o : Option Container) → runs (at q k) h i ≡ o → cond b (option_map with_return_code o) None ≡ Some out → (o : Container) × (runs (at q k) h i ≡ Some o)
    by false o gives is = absurd (none-some out is)
    by true None gives is = absurd (none-some out is)
    by true (Some o) gives is = (o, gives)

module _ (ts : List Template) (depth : ℕ) (k : Known) (g : Graph) (input : Container) (well : Well ts depth g) (complete : is_complete g (tree_ends ts depth k g input) ≡ true)
    (a : ℕ) (activity : Activity) (is : slice_get (out-Graph g).activities a ≡ Some activity) where
  abbrev fate : Fate
  fate = fate_given ts k (output ts depth) g input (tree_ends ts depth k g input) a

  abbrev outs : List Container
  outs = attempts ts k (output ts depth) g input (tree_ends ts depth k g input) a

  settled : is_settled (ended fate outs) ≡ true
  settled =
      let inside = place_inside g a activity is in
      ap is_settled (sym (step_is ts depth k g input well a)) ∙ settled_at (tree_ends ts depth k g input) (length (out-Graph g).activities) 0 a complete (omega arith) (omega arith)

  -- the scope of each attempt is complete
  scope_gave : (h : Graph) (i : ℕ) (start : Start) → graph_in ts activity.work ≡ Some h → slice_get (started_in ts depth k g input a activity) i ≡ Some start
      → (o : Container) × (output ts depth (at (part activity.name start.attempt) k) h start.input ≡ Some o)
  scope_gave h i start runs there =
      let some = each_gave ts depth k g input a activity is settled start i there in
      gave k (output ts depth) h (part activity.name start.attempt) start.input some.0 (sym (gives_scope ts h k (output ts depth) activity.name activity.work start.attempt start.input runs) ∙ some.1)

-- ---- a scope

-- no item is open below a scope where none is in the scope of any attempt
module _ (ts : List Template) (depth : ℕ) (k : Known) (g : Graph) (input : Container) (s : ScopeState) (shows : Shows ts depth k g input s) (q : Part) (item : List Part)
    (none : (a : ℕ) (activity : Activity) (h : Graph) (i : ℕ) (start : Start) (t : ScopeState) → slice_get (out-Graph g).activities a ≡ Some activity → graph_in ts activity.work ≡ Some h
    → slice_get (started_in ts depth k g input a activity) i ≡ Some start → ShowsWithin ts depth (at (part activity.name start.attempt) k) h start.input t → open_at ts h t item ≡ None) where
  in_scopes : (a : ℕ) (activity : Activity) (h : Graph) (n : NestedState) → slice_get (out-Graph g).activities a ≡ Some activity → graph_in ts activity.work ≡ Some h
      → slice_get (fields s).states a ≡ Some (Nested n) → (i : ℕ) (t : ScopeState) → slice_get (out-NestedState n).scopes.items i ≡ Some t → open_at ts h t item ≡ None
  in_scopes a activity h n is runs there i t found =
      let one = started_at_place ts depth k g input s a activity h n i t shows is runs there found in
      none a activity h i one.start t is runs one.started one.shows

  in_state : (a : ℕ) (activity : Activity) (h : Graph) (x : Option ActivityState) → slice_get (out-Graph g).activities a ≡ Some activity → graph_in ts activity.work ≡ Some h
      → slice_get (fields s).states a ≡ x → open_inside ts (Some h) (option_and_then (λ z. scope_of z q.attempt) x) item ≡ None
  in_state a activity h None is runs there = refl
  in_state a activity h (Some (Program p)) is runs there = refl
  in_state a activity h (Some (Nested n)) is runs there = by (attempt_place q.attempt)
    where
      at_number : (i : ℕ) (t : Option ScopeState) → slice_get (out-NestedState n).scopes.items i ≡ t → open_inside ts (Some h) t item ≡ None
      at_number i None found = refl
      at_number i (Some t) found = in_scopes a activity h n is runs there i t found

      by : (o : Option ℕ) → open_inside ts (Some h) (option_and_then (slice_get (out-NestedState n).scopes.items) o) item ≡ None
      by None = refl
      by (Some i) = at_number i (slice_get (out-NestedState n).scopes.items i) refl

  inside_none : open_below ts g q item (fields s) ≡ None
  inside_none = by (place_of g q.name)
    where
      in_graph : (a : ℕ) (activity : Activity) (h : Option Graph) → slice_get (out-Graph g).activities a ≡ Some activity → graph_in ts activity.work ≡ h
          → open_inside ts h (scope_in (fields s) a q.attempt) item ≡ None
      in_graph a activity None is runs = refl
      in_graph a activity (Some h) is runs = in_state a activity h (slice_get (fields s).states a) is runs refl

      in_activity : (a : ℕ) (activity : Option Activity) → slice_get (out-Graph g).activities a ≡ activity
          → option_and_then (λ z. open_inside ts (graph_in ts z.work) (scope_in (fields s) a q.attempt) item) activity ≡ None
      in_activity a None is = refl
      in_activity a (Some activity) is = in_graph a activity (graph_in ts activity.work) is refl

      by : (o : Option ℕ) → option_and_then (λ a. option_and_then (λ z. open_inside ts (graph_in ts z.work) (scope_in (fields s) a q.attempt) item) (slice_get (out-Graph g).activities a)) o ≡ None
      by None = refl
      by (Some a) = in_activity a (slice_get (out-Graph g).activities a) refl

-- no item of a scope is open where it is complete
module _ (ts : List Template) (depth : ℕ) (k : Known) (g : Graph) (input : Container) (s : ScopeState) (well : Well ts depth g) (shows : Shows ts depth k g input s)
    (complete : is_complete g (tree_ends ts depth k g input) ≡ true) (q : Part) where
  here_none : open_here g q (fields s) ≡ None
  here_none = by (fields s).begun (place_of g q.name)
    where
      at_place : (a : ℕ) (activity : Option Activity) (x : Option ActivityState) → slice_get (out-Graph g).activities a ≡ activity → slice_get (fields s).states a ≡ x → item_of activity x q.attempt ≡ None
      at_place a None x is there = refl
      at_place a (Some activity) None is there = refl
      at_place a (Some activity) (Some x) is there =
          shut_item activity.work _ (attempts ts k (output ts depth) g input (tree_ends ts depth k g input) a) (started_in ts depth k g input a activity)
          (shows_attempt (ShowsWithin ts depth) k activity.name (graph_in ts activity.work)) x q.attempt (settled ts depth k g input well complete a activity is) (shows.states a activity x is there)

      by : (b : Bool) (o : Option ℕ) → cond b (option_and_then (λ a. item_of (slice_get (out-Graph g).activities a) (slice_get (fields s).states a) q.attempt) o) None ≡ None
      by false o = refl
      by true None = refl
      by true (Some a) = at_place a (slice_get (out-Graph g).activities a) (slice_get (fields s).states a) refl refl

-- ---- any path

complete_in : (ts : List Template) (item : List Part) (depth : ℕ) (k : Known) (g : Graph) (input : Container) (s : ScopeState) → Well ts depth g → Shows ts depth k g input s
    → is_complete g (tree_ends ts depth k g input) ≡ true → open_in ts g (fields s) item ≡ None
complete_in ts [] depth k g input s well shows complete = refl
complete_in ts (q ∷ []) depth k g input s well shows complete = here_none ts depth k g input s well shows complete q
complete_in ts (q ∷ (r ∷ rs)) zero k g input s well shows complete = inside_none ts zero k g input s shows q (r ∷ rs) (λ a activity h i start t is runs there shown. absurd shown)
complete_in ts (q ∷ (r ∷ rs)) (suc depth) k g input s well shows complete =
    inside_none ts (suc depth) k g input s shows q (r ∷ rs) (λ a activity h i start t is runs there shown.
    let out = scope_gave ts (suc depth) k g input well complete a activity is h i start runs there in
    open_is ts h t (r ∷ rs)
    ∙ complete_in ts (r ∷ rs) depth (at (part activity.name start.attempt) k) h start.input t (well.inside a activity is h runs) shown
    (output_complete ts depth (at (part activity.name start.attempt) k) h start.input out.0 out.1))

-- where a root is done its scope is complete
done_complete : (b c : Bool) (terminated suspended : Bool) → mode_of terminated (b && c) suspended ≡ Done → c ≡ true
done_complete b c true suspended is = let n : ⊥ = cc in absurd n
done_complete false c false true is = let n : ⊥ = cc in absurd n
done_complete false c false false is = let n : ⊥ = cc in absurd n
done_complete true true false suspended is = refl
done_complete true false false true is = let n : ⊥ = cc in absurd n
done_complete true false false false is = let n : ⊥ = cc in absurd n

pub done_none : (ts : List Template) (depth : ℕ) (k : Known) (g : Graph) (input : Container) (s : ScopeState) (terminated suspended : Bool) → Well ts depth g → Shows ts depth k g input s
    → mode_of terminated ((out-ScopeState s).begun && ((out-ScopeState s).unsettled == 0)) suspended ≡ Done → NoneOpen ts g s
done_none ts depth k g input s terminated suspended well shows done item =
    let complete = done_complete (k.begun []) (is_complete g (tree_ends ts depth k g input)) terminated suspended
    (ap (λ b. mode_of terminated b suspended) (sym (shown_complete ts depth k g input s shows)) ∙ done) in
    open_is ts g s item ∙ complete_in ts item depth k g input s well shows complete
