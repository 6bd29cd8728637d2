-- A SIGNAL keeps what a scope shows.
use Rattle.std.proofs.Common.{◌≡◌, ℕ, ◌+◌, ◌<◌, Bool, true, false, ◌&&◌, List, [], ◌∷◌, ◌++◌, map, length, Option, Some, None, refl, ap, sym, ◌∙◌, subst, arith, inl, inr}
use Rattle.std.specs.Prelude.{◌==◌, ◌≢◌, not, slice_get, slice_set, count_by, is_none, unwrap_or, bytes_eq, if◌then◌else◌}
use Rattle.std.specs.List.{filter, list_any}
use Rattle.std.proofs.lemmas.Bool.Decides.{eqb_tells}
use Rattle.std.proofs.lemmas.Option.{slice_get_within}
use Rattle.blocks_subprocs.specs.Ends.{ends_of}
use Rattle.dead_paths.specs.Tallies.{Counts}
use Rattle.dead_paths.specs.declared.joins.Tally.{Tally}
use Rattle.fate_laws.proofs.Extends.{Extends}
use Rattle.fate_laws.specs.WellFormed.{Well}
use Rattle.flow_model.specs.Fates.{Ends, joined, ended, is_settled, connector_value}
use Rattle.flow_model.specs.ScopeContainers.{base_of}
use Rattle.flow_model.specs.Scopes.{Known, at, part, Runs, values_at, attempts, fate_given, step, output, tree_ends}
use Rattle.flow_model.specs.declared.graphs.Activity.{Activity}
use Rattle.flow_model.specs.declared.graphs.Container.{Container}
use Rattle.flow_model.specs.declared.graphs.Control.{Control}
use Rattle.flow_model.specs.declared.graphs.Graph.{Graph, out-Graph}
use Rattle.flow_model.specs.declared.graphs.Template.{Template}
use Rattle.flow_model.specs.declared.instances.Fate.TheVariants as fates
use Rattle.flow_model.specs.declared.instances.Part.{Part}
use Rattle.flow_model.specs.declared.instances.Path.{Path}
use Rattle.flow_model.specs.declared.instances.SourceEnd.TheVariants as end
use Rattle.flow_model.specs.declared.names.Name.{Name}
use Rattle.navigator.proofs.Leading.{set_other, set_long}
use Rattle.navigator.proofs.OneChanged.{graphs_of, ChangesOne, HasEnds, one_changed, same_gives, new_scope_shows}
use Rattle.navigator.proofs.Opened.{new_gives, is_opened, is_shut_none, is_shut_false, opened_shows, dead_shows, waiting_shows}
use Rattle.navigator.proofs.Places.{present, set_read}
use Rattle.navigator.proofs.Replaced.{count_less, found_at}
use Rattle.navigator.proofs.SameActivities.{IsSameActivity, same_activity, simple_of, step_is, ends_by_steps}
use Rattle.navigator.proofs.SignalValues.{IsTold, equal, value_told, values_stay}
use Rattle.navigator.specs.Events.{Receives, Signals}
use Rattle.navigator.specs.Reading.{place_of}
use Rattle.navigator.specs.Serving.{HasGraph, Served}
use Rattle.navigator.specs.Steps.{Fields, Told, fields, with_state, settled, changed_at, dead_state, dies, Opens, Decides}
use Rattle.navigator.specs.Views.{ShowsActivity, ShowsEnds, ShowsWithin, Shows}
use Rattle.navigator.specs.declared.scopes.ActivityState.{ActivityState}
use Rattle.navigator.specs.declared.scopes.ScopeState.{ScopeState}
use Rattle.view_laws.specs.Coming.{IsNew, IsByMessages, MaySignal}
use Rattle.view_laws.specs.Learning.{with_signal}

some_none : (xs ys : List (Option Bool)) → list_any is_none (xs ++ None ∷ ys) ≡ true
some_none [] ys = refl
some_none (None ∷ xs) ys = refl
some_none (Some b ∷ xs) ys = some_none xs ys

-- what counts of a connector is what was sent after a SIGNAL too
signal_by : (k : Known) (a b : ℕ) (v : Bool) → IsByMessages k → IsByMessages (with_signal a b v k)
signal_by k a b v by [] c d o = go ((a == c) && (b == d)) refl
  where
    go : (t : Bool) → ((a == c) && (b == d)) ≡ t → (with_signal a b v k).sent [] c d o ≡ (with_signal a b v k).sent [] c d None
    go true is = rw is refl
    go false is = rw is (by [] c d o)
signal_by k a b v by (q ∷ p) c d o = by (q ∷ p) c d o

-- so values don't depend on how the activities have ended
values_free : (k : Known) → IsByMessages k → (all cs : List Control) (e E : Ends)
    → map (λ c. k.sent [] c.from c.to (connector_value all c (E c.from))) cs ≡ map (λ c. k.sent [] c.from c.to (connector_value all c (e c.from))) cs
values_free k by all [] e E = refl
values_free k by all (c ∷ cs) e E =
    let one : k.sent [] c.from c.to (connector_value all c (E c.from)) ≡ k.sent [] c.from c.to (connector_value all c (e c.from))
    = by [] c.from c.to (connector_value all c (E c.from)) ∙ sym (by [] c.from c.to (connector_value all c (e c.from))) in
    let rest = values_free k by all cs e E in
    cc

-- the ends with one activity dead
dead_at : ℕ → Ends → Ends
dead_at b e x = if x == b then end.Dead else e x

dead_here : (b : ℕ) (e : Ends) → dead_at b e b ≡ end.Dead
unfolding dead_at
dead_here b e = rw (equal b b refl) refl

dead_elsewhere : (b : ℕ) (e : Ends) (x : ℕ) → x ≢ b → dead_at b e x ≡ e x
unfolding dead_at
dead_elsewhere b e x apart = elim (eqb_tells x b) [ inl is ↦ absurd (apart is.1) | inr other ↦ rw other.0 refl ]

module _ (ts : List Template) (depth : ℕ) (k : Known) (g : Graph) (input : Container) (a b : ℕ) (v : Bool) (well : Well ts depth g) (by : IsByMessages k)
    (may : MaySignal ts depth k g input a b v) (activity : Activity) (there : slice_get (out-Graph g).activities b ≡ Some activity) where
  abbrev known : Known
  known = with_signal a b v k

  abbrev runs : Runs
  runs = output ts depth

  abbrev e : Ends
  e = tree_ends ts depth k g input

  abbrev controls : List Control
  controls = (out-Graph g).controls

  inside : (q : Part) → at q known ≡ at q k
  inside q = refl

  values : (E : Ends) (x : ℕ) → x ≢ b → values_at known controls E x ≡ values_at k controls e x
  values E x apart = values_stay k a b v by may.unsent controls e E x apart

  told : IsTold v (values_at k controls e b) (values_at known controls e b)
  told = value_told k a b v by may.unsent controls e e may.number may.connector (simple_of ts depth g well) may.among may.from may.to

  others : (E : Ends) → Extends e E → (x : ℕ) (y : Activity) → x ≢ b → slice_get (out-Graph g).activities x ≡ Some y → IsSameActivity ts k known runs g input e E x y
  others E extends x y apart at =
      same_activity ts k known runs g input e E x y at refl refl (values E x apart) (same_gives ts k known runs inside y.name y.work) (may.fed x y at) extends

  waits : fate_given ts k runs g input e b ≡ fates.Waiting
  waits =
      let none : joined activity.join (values_at k controls e b) ≡ None = rw (told.old, some_none told.before told.behind) refl in
      rw (may.begun, there, none) refl

  unsettled : e b ≡ end.Unsettled
  unsettled = step_is ts depth k g input well b ∙ ap (λ f. ended f (attempts ts k runs g input e b)) waits

  -- the ends after it are kept by a step
  each_step : (E : Ends) → ((x : ℕ) → x ≢ b → E x ≡ e x) → Extends e E → E b ≡ step ts known runs g input E b → (x : ℕ) → E x ≡ step ts known runs g input E x
  each_step E keeps extends here x = elim (eqb_tells x b) [
    | inl is ↦ subst (λ y. E y ≡ step ts known runs g input E y) (sym is.1) here
    | inr other ↦ go (slice_get (out-Graph g).activities x) refl other.1
  ]
    where
      go : (o : Option Activity) → slice_get (out-Graph g).activities x ≡ o → x ≢ b → E x ≡ step ts known runs g input E x
      go None none apart =
          let old : step ts k runs g input e x ≡ end.Unsettled = rw (may.begun, none) refl in
          let new : step ts known runs g input E x ≡ end.Unsettled = rw (may.begun, none) refl in
          keeps x apart ∙ step_is ts depth k g input well x ∙ old ∙ sym new
      go (Some y) at apart = keeps x apart ∙ step_is ts depth k g input well x ∙ sym (others E extends x y apart at).end

  same_ends : Extends e e
  same_ends = record { kept = λ x h. refl }

  dead_ends : Extends e (dead_at b e)
  dead_ends = record {
    kept = λ x h. elim (eqb_tells x b) [
      | inl is ↦ let never : false ≡ true = ap is_settled (sym (ap e is.1 ∙ unsettled)) ∙ h in let n : ⊥ = cc in absurd n
      | inr other ↦ dead_elsewhere b e x other.1
    ];
  }

  finish : (E : Ends) (s' : ScopeState) → ((x : ℕ) → E x ≡ step ts known runs g input E x) → ShowsEnds ts known runs (ShowsWithin ts depth) g input E s' → Shows ts depth known g input s'
  finish E s' steps shown = subst (λ F. ShowsEnds ts known runs (ShowsWithin ts depth) g input F s') (sym (ends_by_steps ts depth known g input well E steps)) shown

  module _ (s s' : ScopeState) (path : Path) (clock : ℕ) (before after : Told) (served : Served ts depth g) (has : HasGraph ts activity.work) (shows : Shows ts depth k g input s)
      (t tally : Tally) (was : ActivityState) (tallied : slice_get (fields s).tallies b ≡ Some t) (stated : slice_get (fields s).states b ≡ Some was)
      (counts : Counts tally (values_at known controls e b)) where
    -- the tally of the activity counts one value more
    abbrev taken : Fields
    taken = record (fields s) { tallies = slice_set (fields s).tallies b tally }

    shown_before : ShowsActivity ts k runs (ShowsWithin ts depth) g input e b activity was
    shown_before = shows.states b activity was there stated

    changed_so : (state : ActivityState) (f : Fields) → f.begun ≡ (fields s).begun → f.input ≡ (fields s).input → f.tallies ≡ slice_set (fields s).tallies b tally
        → length f.ends ≡ length (fields s).ends → f.states ≡ slice_set (fields s).states b state → ChangesOne b tally state (fields s) f
    changed_so state f begun reads tallies ended states = record {
      begun = begun;
      reads = reads;
      tallies = tallies;
      tallied = ap length tallies ∙ set_long (fields s).tallies b tally;
      ended = ended;
      stated = ap length states ∙ set_long (fields s).states b state;
      here = ap (λ ss. slice_get ss b) states ∙ set_read (fields s).states b was state stated;
      elsewhere = λ x apart. ap (λ ss. slice_get ss x) states ∙ set_other (fields s).states b x state apart;
    }

    shown_then : (E : Ends) → Extends e E → (state : ActivityState) → ChangesOne b tally state (fields s) (fields s') → HasEnds E (fields s')
        → Counts tally (values_at known controls E b) → ShowsActivity ts known runs (ShowsWithin ts depth) g input E b activity state
        → ShowsEnds ts known runs (ShowsWithin ts depth) g input E s'
    shown_then E extends state changes ends counted shown =
        one_changed ts k known runs (ShowsWithin ts depth) g input e E b activity there refl inside (values E) (others E extends) s s' t tally state shows tallied changes ends counted shown

    on_none : joined activity.join (values_at known controls e b) ≡ None → fields s' ≡ taken → Shows ts depth known g input s'
    on_none none is =
        let shut = is_shut_none ts known runs g input e b activity there may.begun none in
        let changes : ChangesOne b tally was (fields s) taken = record {
          begun = refl;
          reads = refl;
          tallies = refl;
          tallied = set_long (fields s).tallies b tally;
          ended = refl;
          stated = refl;
          here = stated;
          elsewhere = λ x apart. refl;
        } in
        let ends : HasEnds e taken = record { ends = shows.ends; unsettled = shows.unsettled } in
        finish e s' (each_step e (λ x apart. refl) same_ends (unsettled ∙ sym shut.end))
        (shown_then e same_ends was (subst (λ f. ChangesOne b tally was (fields s) f) (sym is) changes) (subst (λ f. HasEnds e f) (sym is) ends) counts
        (waiting_shows ts k known runs (ShowsWithin ts depth) g input e e b activity was waits shown_before shut))

    new_first : IsNew known (part activity.name 1)
    new_first =
        let new = may.unstarted activity there in
        record { ungiven = new.ungiven; unclosed = new.unclosed; untouched = new.untouched }

    on_true : joined activity.join (values_at known controls e b) ≡ Some true → Opens ts g path clock b activity (slice_get (fields s).states b) taken (fields s') before after
        → Shows ts depth known g input s'
    on_true is_true opens =
        let base : Container = base_of g activity b input e in
        let fed = may.fed_then activity there (ap is_none is_true) in
        let opened = is_opened ts known runs g input e b activity there may.begun is_true fed (new_gives ts known runs activity.name activity.work 1 base new_first) in
        let to = opened_shows ts k known runs (ShowsWithin ts depth) g input e e b activity was waits shown_before path clock taken (fields s') before after has opened
        (λ h u runs_it fresh. new_scope_shows ts depth (at (part activity.name 1) known) g b activity h base u served there runs_it new_first.untouched fresh)
        shows.reads shows.ends (subst (λ o. Opens ts g path clock b activity o taken (fields s') before after) stated opens) in
        let changes : ChangesOne b tally to.state (fields s) (with_state b to.state taken) = changed_so to.state (with_state b to.state taken) refl refl refl refl refl in
        let ends : HasEnds e (with_state b to.state taken) = record { ends = shows.ends; unsettled = shows.unsettled } in
        finish e s' (each_step e (λ x apart. refl) same_ends (unsettled ∙ sym opened.end))
        (shown_then e same_ends to.state (subst (λ f. ChangesOne b tally to.state (fields s) f) (sym to.scope) changes) (subst (λ f. HasEnds e f) (sym to.scope) ends) counts to.shown)

    on_false : joined activity.join (values_at known controls e b) ≡ Some false → fields s' ≡ dies b taken → Shows ts depth known g input s'
    on_false is_false is =
        let E : Ends = dead_at b e in
        let one_more : values_at known controls E b ≡ values_at known controls e b = values_free known (signal_by k a b v by) controls (filter (λ c. c.to == b) controls) e E in
        let shut = is_shut_false ts known runs g input E b activity there may.begun (ap (joined activity.join) one_more ∙ is_false) in
        let f : Fields = settled b end.Dead (with_state b (dead_state was) taken) in
        let is_f : fields s' ≡ f = is ∙ ap (λ o. settled b end.Dead (changed_at dead_state b o taken)) stated in
        let inside_states : b < length (fields s).states = slice_get_within (fields s).states b was stated in
        let within : b < length (fields s).ends = omega (arith, shows.stated, shows.ended) in
        let stands = present (fields s).ends b within in
        let unsettled_here : stands.0 ≡ end.Unsettled = ap (λ o. unwrap_or o end.Unsettled) (sym stands.1) ∙ shows.ends b ∙ unsettled in
        let changes : ChangesOne b tally (dead_state was) (fields s) f = changed_so (dead_state was) f refl refl refl (set_long (fields s).ends b end.Dead) refl in
        let less : count_by (λ x. not (is_settled x)) (slice_set (fields s).ends b end.Dead) + 1 ≡ count_by (λ x. not (is_settled x)) (fields s).ends
        = count_less (λ x. not (is_settled x)) (fields s).ends b stands.0 end.Dead stands.1 (ap (λ x. not (is_settled x)) unsettled_here) refl in
        let left : (fields s).unsettled ≡ count_by (λ x. not (is_settled x)) (fields s).ends = shows.unsettled in
        let ends : HasEnds E f = record {
          ends = λ x. elim (eqb_tells x b) [
            | inl same ↦
                subst (λ y. ends_of (slice_set (fields s).ends b end.Dead) y ≡ E y) (sym same.1)
                (ap (λ o. unwrap_or o end.Unsettled) (set_read (fields s).ends b stands.0 end.Dead stands.1) ∙ sym (dead_here b e))
            | inr other ↦
                ap (λ o. unwrap_or o end.Unsettled) (set_other (fields s).ends b x end.Dead other.1) ∙ shows.ends x ∙ sym (dead_elsewhere b e x other.1)
          ];
          unsettled = omega arith;
        } in
        finish E s' (each_step E (dead_elsewhere b e) dead_ends (dead_here b e ∙ sym shut.end))
        (shown_then E dead_ends (dead_state was) (subst (λ h. ChangesOne b tally (dead_state was) (fields s) h) (sym is_f) changes) (subst (λ h. HasEnds E h) (sym is_f) ends)
        (subst (Counts tally) (sym one_more) counts)
        (dead_shows ts k known runs (ShowsWithin ts depth) g input e E b activity was waits shown_before shut))

    decided : (o : Option Bool) → joined activity.join (values_at known controls e b) ≡ o → Decides ts g path clock b activity o taken (fields s') before after → Shows ts depth known g input s'
    decided None is decides = on_none is decides.0
    decided (Some true) is decides = on_true is decides
    decided (Some false) is decides = on_false is decides.0

-- where a scope shows the view, and a SIGNAL comes that may come, it shows the view after it
pub signal_shows : (ts : List Template) (depth : ℕ) (k : Known) (g : Graph) (input : Container) (s s' : ScopeState) (path : Path) (clock : ℕ) (before after : Told) (a b : ℕ) (v : Bool) (name : Name)
    → Well ts depth g → Served ts depth g → IsByMessages k → MaySignal ts depth k g input a b v → place_of g name ≡ Some b → Shows ts depth k g input s
    → Receives ts path clock (Signals name v) before after g s s' → Shows ts depth (with_signal a b v k) g input s'
signal_shows ts depth k g input s s' path clock before after a b v name well served by may place shows receives =
    let found = found_at (λ (x : Activity). bytes_eq x.name name) (out-Graph g).activities b place in
    let activity = found.0 in
    let there = found.1 in
    let within : b < length (out-Graph g).activities = slice_get_within (out-Graph g).activities b activity there in
    let tallied : b < length (fields s).tallies = omega (arith, shows.tallied) in
    let stated : b < length (fields s).states = omega (arith, shows.stated) in
    let t = present (fields s).tallies b tallied in
    let was = present (fields s).states b stated in
    let is_told = told ts depth k g input a b v well by may activity there in
    let takes = receives b activity t.0 is_told.before is_told.behind place there t.1 (subst (Counts t.0) is_told.old (shows.tallies b t.0 t.1)) in
    let values : ℕ → List (Option Bool) = values_at (with_signal a b v k) (out-Graph g).controls (tree_ends ts depth k g input) in
    let told_values = is_told.before ++ Some v ∷ is_told.behind in
    let f : Fields = record (fields s) { tallies = slice_set (fields s).tallies b takes.takes.tally } in
    let decides : Decides ts g path clock b activity (joined activity.join told_values) f (fields s') before after
    = subst (λ m. Decides ts g path clock b activity (joined activity.join told_values) m (fields s') before after) takes.takes.scope takes.decides in
    decided ts depth k g input a b v well by may activity there s s' path clock before after served (graphs_of ts depth g served b activity there) shows t.0 takes.takes.tally was.0 t.1 was.1
    (subst (Counts takes.takes.tally) (sym is_told.new) takes.takes.counts) (joined activity.join (values b)) refl
    (subst (λ vs. Decides ts g path clock b activity (joined activity.join vs) f (fields s') before after) (sym is_told.new) decides)
