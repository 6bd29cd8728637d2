-- A BEGIN keeps what a scope shows.
use Rattle.std.proofs.Common.{◌≡◌, ℕ, zero, suc, ◌<◌, ◌≤◌, Bool, true, false, List, [], ◌∷◌, map, length, get_or, Option, Some, None, refl, ap, sym, ◌∙◌, subst, arith, inl, inr}
use Rattle.std.specs.Prelude.{◌==◌, ◌≢◌, ◌⊎◌, not, slice_get, count_by, is_none}
use Rattle.std.specs.List.{filter, list_any}
use Rattle.std.proofs.lemmas.Bool.Decides.{eqb_tells}
use Rattle.std.proofs.lemmas.Option.{slice_get_within}
use Rattle.blocks_subprocs.specs.Ends.{ends_of}
use Rattle.fate_laws.proofs.Solutions.{order_of, settled_inside}
use Rattle.fate_laws.proofs.Wired.{fed_where_known}
use Rattle.fate_laws.specs.WellFormed.{Well}
use Rattle.flow_model.specs.Fates.{Ends, joined, is_settled, connector_value}
use Rattle.flow_model.specs.ScopeContainers.{base_of}
use Rattle.flow_model.specs.Scopes.{Known, at, part, Runs, values_at, is_fed, fate_given, step, rounds, output, tree_ends}
use Rattle.flow_model.specs.declared.graphs.Activity.{Activity}
use Rattle.flow_model.specs.declared.graphs.Container.{Container}
use Rattle.flow_model.specs.declared.graphs.Control.{Control}
use Rattle.flow_model.specs.declared.graphs.Graph.{Graph, out-Graph}
use Rattle.flow_model.specs.declared.graphs.Join.{Join}
use Rattle.flow_model.specs.declared.graphs.Join.TheVariants.{All, AtLeastOne, AtLeast}
use Rattle.flow_model.specs.declared.graphs.Template.{Template}
use Rattle.flow_model.specs.declared.instances.Fate.TheVariants as fates
use Rattle.flow_model.specs.declared.instances.Path.{Path}
use Rattle.flow_model.specs.declared.instances.SourceEnd.TheVariants as end
use Rattle.navigator.proofs.Leading.{set_other, set_long}
use Rattle.navigator.proofs.OneChanged.{graphs_of, new_scope_shows}
use Rattle.navigator.proofs.Opened.{IsOpened, IsShut, new_gives, is_opened, is_shut_none, opened_shows, waiting_shows}
use Rattle.navigator.proofs.Places.{present, set_read}
use Rattle.navigator.proofs.SameActivities.{ends_by_steps}
use Rattle.navigator.specs.Events.{Receives, Begins}
use Rattle.navigator.specs.Serving.{HasGraphs, Served}
use Rattle.navigator.specs.Steps.{Fields, Told, fields, with_state, Opens, Decides, DecidesFirst, AreTallied}
use Rattle.navigator.specs.Views.{ShowsScope, ShowsActivity, ShowsEnds, ShowsWithin, Shows}
use Rattle.navigator.specs.declared.scopes.ActivityState.{ActivityState}
use Rattle.navigator.specs.declared.scopes.ScopeState.{ScopeState}
use Rattle.view_laws.specs.Coming.{IsNew, IsByMessages, MayBegin}
use Rattle.view_laws.specs.Learning.{with_begin}

-- with no value a join is true
no_values : (rule : Join) → joined rule [] ≡ Some true
no_values All = refl
no_values AtLeastOne = refl
no_values (AtLeast n) = refl

-- a join is known where no connector leads to the activity, and then it is true
pub record IsTrueJoin (rule : Join) (vs : List (Option Bool)) : Type 0 where
  pub is : joined rule vs ≡ Some true
  pub known : list_any is_none vs ≡ false

-- the first n activities of a scope that begins show the view after it, the others are as before
pub record BegunFirst (ts : List Template) (k : Known) (runs : Runs) (below : ShowsScope) (g : Graph) (input : Container) (e : Ends) (n : ℕ) (old f : Fields) : Type 0 where
  pub begun : f.begun ≡ true
  pub reads : f.input ≡ old.input
  pub tallies : f.tallies ≡ old.tallies
  pub ends : f.ends ≡ old.ends
  pub unsettled : f.unsettled ≡ old.unsettled
  pub stated : length f.states ≡ length old.states
  pub done : (x : ℕ) (activity : Activity) (state : ActivityState) → x < n → slice_get (out-Graph g).activities x ≡ Some activity → slice_get f.states x ≡ Some state
      → ShowsActivity ts k runs below g input e x activity state
  pub left : (x : ℕ) → n ≤ x → slice_get f.states x ≡ slice_get old.states x

module _ (ts : List Template) (k : Known) (runs : Runs) (below : ShowsScope) (g : Graph) (input : Container) (e : Ends) (n : ℕ) (old middle f : Fields)
    (first : BegunFirst ts k runs below g input e n old middle) (activity : Activity) (there : slice_get (out-Graph g).activities n ≡ Some activity)
    (state : ActivityState) (here : slice_get f.states n ≡ Some state) (elsewhere : (x : ℕ) → x ≢ n → slice_get f.states x ≡ slice_get middle.states x)
    (shown : ShowsActivity ts k runs below g input e n activity state) where
  -- one activity more
  first_more : f.begun ≡ middle.begun → f.input ≡ middle.input → f.tallies ≡ middle.tallies → f.ends ≡ middle.ends → f.unsettled ≡ middle.unsettled
      → length f.states ≡ length middle.states → BegunFirst ts k runs below g input e (suc n) old f
  first_more begun reads tallies ends unsettled stated = record {
    begun = begun ∙ first.begun;
    reads = reads ∙ first.reads;
    tallies = tallies ∙ first.tallies;
    ends = ends ∙ first.ends;
    unsettled = unsettled ∙ first.unsettled;
    stated = stated ∙ first.stated;
    done = λ x y now less at found. elim (eqb_tells x n) [
      | inl is ↦
          let activity_here : slice_get (out-Graph g).activities n ≡ Some y = ap (slice_get (out-Graph g).activities) (sym is.1) ∙ at in
          let state_here : slice_get f.states n ≡ Some now = ap (slice_get f.states) (sym is.1) ∙ found in
          let one : activity ≡ y = cc in
          let two : state ≡ now = cc in
          subst (λ z. ShowsActivity ts k runs below g input e z y now) (sym is.1)
          (subst (λ w. ShowsActivity ts k runs below g input e n w now) one (subst (λ w. ShowsActivity ts k runs below g input e n activity w) two shown))
      | inr other ↦
          let apart : x ≢ n = other.1 in
          first.done x y now (omega arith) at (sym (elsewhere x other.1) ∙ found)
    ];
    left = λ x less. elsewhere x (λ same. omega arith) ∙ first.left x (omega arith);
  }

module _ (ts : List Template) (depth : ℕ) (k : Known) (g : Graph) (input : Container) (well : Well ts depth g) (served : Served ts depth g) (graphs : HasGraphs ts g) (by : IsByMessages k)
    (may : MayBegin ts depth k g input) (s : ScopeState) (shows : Shows ts depth k g input s) (path : Path) (clock : ℕ) where
  abbrev known : Known
  known = with_begin k

  abbrev runs : Runs
  runs = output ts depth

  abbrev e : Ends
  e = tree_ends ts depth k g input

  abbrev controls : List Control
  controls = (out-Graph g).controls

  abbrev value : Control → Option Bool
  value c = k.sent [] c.from c.to (connector_value controls c (e c.from))

  still : (n a : ℕ) → rounds (step ts k runs g input) n a ≡ end.Unsettled
  still zero a = refl
  still (suc n) a = rw may.itself.unbegun refl

  unsettled : (a : ℕ) → e a ≡ end.Unsettled
  unsettled a = still (length (out-Graph g).activities) a

  waits : (a : ℕ) → fate_given ts k runs g input e a ≡ fates.Waiting
  waits a = rw may.itself.unbegun refl

  unknown : (c : Control) → value c ≡ None
  unknown c = by [] c.from c.to (connector_value controls c (e c.from)) ∙ may.itself.unsent c.from c.to

  joins : (rule : Join) (cs : List Control) → (joined rule (map value cs) ≡ None) ⊎ IsTrueJoin rule (map value cs)
  joins rule [] = inr (record { is = no_values rule; known = refl })
  joins rule (c ∷ cs) = inl (rw (unknown c) refl)

  fed : (a : ℕ) → list_any is_none (values_at k controls e a) ≡ false → is_fed (out-Graph g).lines a e ≡ true
  fed a is =
      let order = order_of ts depth g well in
      fed_where_known ts k runs g input order.order order.flow (λ n d less v h. let never : None ≡ Some v = sym (unknown (get_or controls n d)) ∙ h in let m : ⊥ = cc in absurd m) order.wired
      (settled_inside ts depth k g input) a is

  new_first : (activity : Activity) → IsNew known (part activity.name 1)
  new_first activity =
      let new = may.inside (part activity.name 1) in
      record { ungiven = new.ungiven; unclosed = new.unclosed; untouched = new.untouched }

  opened_then : (a : ℕ) (activity : Activity) → slice_get (out-Graph g).activities a ≡ Some activity → IsTrueJoin activity.join (values_at k controls e a)
      → IsOpened ts known runs g input e a activity
  opened_then a activity there join =
      is_opened ts known runs g input e a activity there refl join.is (fed a join.known)
      (new_gives ts known runs activity.name activity.work 1 (base_of g activity a input e) (new_first activity))

  shut_then : (a : ℕ) (activity : Activity) → slice_get (out-Graph g).activities a ≡ Some activity → joined activity.join (values_at k controls e a) ≡ None
      → IsShut ts known runs g input e a activity fates.Waiting
  shut_then a activity there none = is_shut_none ts known runs g input e a activity there refl none

  -- no activity is settled by it
  each_step : (a : ℕ) → e a ≡ step ts known runs g input e a
  each_step a = unsettled a ∙ sym (go (slice_get (out-Graph g).activities a) refl)
    where
      go : (o : Option Activity) → slice_get (out-Graph g).activities a ≡ o → step ts known runs g input e a ≡ end.Unsettled
      go None none = rw none refl
      go (Some activity) there = elim (joins activity.join (filter (λ c. c.to == a) controls)) [
        | inl none ↦ (shut_then a activity there none).end
        | inr join ↦ (opened_then a activity there join).end
      ]

  abbrev First : ℕ → Fields → Type 0
  First n f = BegunFirst ts known runs (ShowsWithin ts depth) g input e n (fields s) f

  decided : (n : ℕ) (activity : Activity) (was : ActivityState) (middle f : Fields) (before after : Told) → First n middle → slice_get (out-Graph g).activities n ≡ Some activity
      → slice_get (fields s).states n ≡ Some was → Decides ts g path clock n activity (joined activity.join (values_at k controls e n)) middle f before after → First (suc n) f
  decided n activity was middle f before after first there stands decides = elim (joins activity.join (filter (λ c. c.to == n) controls)) [
    | inl none ↦ on_none none (subst (λ o. Decides ts g path clock n activity o middle f before after) none decides)
    | inr join ↦ on_true join (subst (λ o. Decides ts g path clock n activity o middle f before after) join.is decides)
  ]
    where
      shown_before : ShowsActivity ts k runs (ShowsWithin ts depth) g input e n activity was
      shown_before = shows.states n activity was there stands

      now : slice_get middle.states n ≡ Some was
      now = first.left n (omega arith) ∙ stands

      on_none : joined activity.join (values_at k controls e n) ≡ None → Decides ts g path clock n activity None middle f before after → First (suc n) f
      on_none none is =
          let shown = waiting_shows ts k known runs (ShowsWithin ts depth) g input e e n activity was (waits n) shown_before (shut_then n activity there none) in
          subst (λ x. First (suc n) x) (sym is.0)
          (first_more ts known runs (ShowsWithin ts depth) g input e n (fields s) middle middle first activity there was now (λ x apart. refl) shown refl refl refl refl refl refl)

      on_true : IsTrueJoin activity.join (values_at k controls e n) → Decides ts g path clock n activity (Some true) middle f before after → First (suc n) f
      on_true join opens =
          let base = base_of g activity n input e in
          let to = opened_shows ts k known runs (ShowsWithin ts depth) g input e e n activity was (waits n) shown_before path clock middle f before after (graphs n activity there)
          (opened_then n activity there join)
          (λ h t runs_it fresh. new_scope_shows ts depth (at (part activity.name 1) known) g n activity h base t served there runs_it (new_first activity).untouched fresh)
          (first.reads ∙ shows.reads) (λ x. ap (λ es. ends_of es x) first.ends ∙ shows.ends x)
          (subst (λ o. Opens ts g path clock n activity o middle f before after) now opens) in
          subst (λ x. First (suc n) x) (sym to.scope)
          (first_more ts known runs (ShowsWithin ts depth) g input e n (fields s) middle (with_state n to.state middle) first activity there to.state (set_read middle.states n was to.state now)
          (λ x apart. set_other middle.states n x to.state apart) to.shown refl refl refl refl refl (set_long middle.states n to.state))

  first_begun : (n : ℕ) (f : Fields) (before after : Told) → n ≤ length (out-Graph g).activities
      → DecidesFirst ts g path clock (values_at k controls e) n (record (fields s) { begun = true }) f before after → First n f
  first_begun zero f before after less is =
      subst (λ x. First 0 x) (sym is.0)
      (record {
        begun = refl;
        reads = refl;
        tallies = refl;
        ends = refl;
        unsettled = refl;
        stated = refl;
        done = λ x activity state under. absurd (omega arith);
        left = λ x over. refl;
      })
  first_begun (suc n) f before after less is =
      let there = present (out-Graph g).activities n (omega arith) in
      let long : n < length (fields s).states = omega (arith, shows.stated) in
      let was = present (fields s).states n long in
      decided n there.0 was.0 is.middle f is.so_far after (first_begun n is.middle before is.so_far (omega arith) is.before) there.1 was.1 (is.decides there.0 there.1)

  all_begun : (s' : ScopeState) → First (length (out-Graph g).activities) (fields s') → Shows ts depth known g input s'
  all_begun s' first =
      subst (λ F. ShowsEnds ts known runs (ShowsWithin ts depth) g input F s') (sym (ends_by_steps ts depth known g input well e each_step))
      (record {
        begun = first.begun;
        reads = first.reads ∙ shows.reads;
        tallied = ap length first.tallies ∙ shows.tallied;
        tallies = λ a t found. shows.tallies a t (sym (ap (λ ts. slice_get ts a) first.tallies) ∙ found);
        ended = ap length first.ends ∙ shows.ended;
        ends = λ a. ap (λ es. ends_of es a) first.ends ∙ shows.ends a;
        stated = first.stated ∙ shows.stated;
        states = λ a activity state there found. first.done a activity state (slice_get_within (out-Graph g).activities a activity there) there found;
        unsettled = first.unsettled ∙ shows.unsettled ∙ sym (ap (count_by (λ x. not (is_settled x))) first.ends);
      })

-- where a scope shows the view, and a BEGIN comes that may come, it shows the view after it
pub begin_shows : (ts : List Template) (depth : ℕ) (k : Known) (g : Graph) (input : Container) (s s' : ScopeState) (path : Path) (clock : ℕ) (before after : Told)
    → Well ts depth g → Served ts depth g → IsByMessages k → MayBegin ts depth k g input → Shows ts depth k g input s
    → Receives ts path clock Begins before after g s s' → Shows ts depth (with_begin k) g input s'
begin_shows ts depth k g input s s' path clock before after well served by may shows receives =
    let graphs = graphs_of ts depth g served in
    let values = values_at k (out-Graph g).controls (tree_ends ts depth k g input) in
    let tallied : AreTallied g values (fields s).tallies = record { long = shows.tallied; counts = shows.tallies } in
    all_begun ts depth k g input well served graphs by may s shows path clock s'
    (first_begun ts depth k g input well served graphs by may s shows path clock (length (out-Graph g).activities) (fields s') before after (omega arith) (receives values tallied))
