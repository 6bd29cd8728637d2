-- One activity of a scope changes: the scope shows the view after that where the other activities stay.
use Rattle.std.proofs.Common.{◌≡◌, ℕ, zero, suc, List, [], ◌∷◌, length, Option, Some, None, refl, ap, sym, ◌∙◌, subst, inl, inr}
use Rattle.std.specs.Prelude.{◌≢◌, not, slice_get, slice_set, count_by}
use Rattle.std.proofs.Math.Path.{fun_ext}
use Rattle.std.proofs.lemmas.Bool.Decides.{eqb_tells}
use Rattle.blocks_subprocs.specs.Ends.{ends_of}
use Rattle.dead_paths.specs.Tallies.{Counts}
use Rattle.dead_paths.specs.declared.joins.Tally.{Tally}
use Rattle.flow_model.specs.Fates.{Ends, is_settled}
use Rattle.flow_model.specs.ScopeContainers.{graph_in, graph_of}
use Rattle.flow_model.specs.Scopes.{Known, at, part, Runs, Start, scope_gives, gives, values_at}
use Rattle.flow_model.specs.declared.graphs.Activity.{Activity}
use Rattle.flow_model.specs.declared.graphs.Container.{Container}
use Rattle.flow_model.specs.declared.graphs.Graph.{Graph, out-Graph}
use Rattle.flow_model.specs.declared.graphs.Template.{Template}
use Rattle.flow_model.specs.declared.graphs.Work.{Work, Program as RunsProgram, Block, Process}
use Rattle.flow_model.specs.declared.instances.Part.{Part}
use Rattle.flow_model.specs.declared.names.Name.{Name}
use Rattle.navigator.proofs.Leading.{set_other}
use Rattle.navigator.proofs.Places.{set_read}
use Rattle.navigator.proofs.SameActivities.{IsSameActivity}
use Rattle.navigator.proofs.ShownAgain.{shown_again}
use Rattle.navigator.proofs.Untouched.{fresh_shows}
use Rattle.navigator.specs.Fresh.{IsFresh}
use Rattle.navigator.specs.Serving.{HasGraphs, Served}
use Rattle.navigator.specs.Steps.{Fields, fields}
use Rattle.navigator.specs.Views.{ShowsScope, shows_attempt, ShowsActivity, ShowsEnds, ShowsWithin}
use Rattle.navigator.specs.declared.scopes.ActivityState.{ActivityState}
use Rattle.navigator.specs.declared.scopes.ScopeState.{ScopeState}
use Rattle.flow_model.specs.Wiring.{IsIncoming}
use Rattle.std.specs.Prelude.{◌<◌, ◌^◌}
use Rattle.view_laws.specs.Coming.{IsUntouched}

-- ---- the same is known of each scope inside

same_scope_gives : (k k' : Known) (runs : Runs) → ((q : Part) → at q k' ≡ at q k) → (o : Option Graph) (q : Part) (i : Container) → scope_gives k' runs o q i ≡ scope_gives k runs o q i
same_scope_gives k k' runs same None q i = refl
same_scope_gives k k' runs same (Some h) q i =
    let closed : k'.closed (q ∷ []) ≡ k.closed (q ∷ []) = ap (λ j. j.closed []) (same q) in
    rw (closed, same q) refl

-- its attempts give the same
pub same_gives : (ts : List Template) (k k' : Known) (runs : Runs) → ((q : Part) → at q k' ≡ at q k) → (name : Name) (w : Work) → gives ts k' runs name w ≡ gives ts k runs name w
same_gives ts k k' runs same name (RunsProgram p) = fun_ext (λ j. fun_ext (λ i. ap (λ known. known.given []) (same (part name j))))
same_gives ts k k' runs same name (Block g) = fun_ext (λ j. fun_ext (λ i. same_scope_gives k k' runs same (Some g) (part name j) i))
same_gives ts k k' runs same name (Process t) = fun_ext (λ j. fun_ext (λ i. same_scope_gives k k' runs same (graph_of ts t) (part name j) i))

-- and their scopes show the same
pub same_attempt : (below : ShowsScope) (k k' : Known) → ((q : Part) → at q k' ≡ at q k) → (name : Name) (o : Option Graph) (start : Start) (s : ScopeState)
    → shows_attempt below k name o start s → shows_attempt below k' name o start s
same_attempt below k k' same name None start s is = is
same_attempt below k k' same name (Some h) start s is = subst (λ j. below j h start.input s) (sym (same (part name start.attempt))) is

-- ---- a scope that is new

pub incoming_of : (ts : List Template) (depth : ℕ) (g : Graph) → Served ts depth g → IsIncoming g
incoming_of ts zero g served = served.incoming
incoming_of ts (suc depth) g served = served.incoming

pub graphs_of : (ts : List Template) (depth : ℕ) (g : Graph) → Served ts depth g → HasGraphs ts g
graphs_of ts zero g served = served.graphs
graphs_of ts (suc depth) g served = served.graphs

pub few_of : (ts : List Template) (depth : ℕ) (g : Graph) → Served ts depth g → length (out-Graph g).controls < 2 ^ 32
few_of ts zero g served = served.few
few_of ts (suc depth) g served = served.few

-- the scope of an attempt of which nothing counts shows its view
pub new_scope_shows : (ts : List Template) (depth : ℕ) (k : Known) (g : Graph) (a : ℕ) (activity : Activity) (h : Graph) (input : Container) (s : ScopeState) → Served ts depth g
    → slice_get (out-Graph g).activities a ≡ Some activity → graph_in ts activity.work ≡ Some h → IsUntouched k → IsFresh h input s → ShowsWithin ts depth k h input s
new_scope_shows ts zero k g a activity h input s served there runs untouched fresh = absurd (served.inside a activity h there runs)
new_scope_shows ts (suc depth) k g a activity h input s served there runs untouched fresh =
    let inside : Served ts depth h = served.inside a activity h there runs in
    fresh_shows ts depth k h input s fresh untouched (incoming_of ts depth h inside) (few_of ts depth h inside)

-- ---- one activity of a scope changes

-- its tally and its state, and nothing else of tallies and states
pub record ChangesOne (b : ℕ) (tally : Tally) (state : ActivityState) (old new : Fields) : Type 0 where
  pub begun : new.begun ≡ old.begun
  pub reads : new.input ≡ old.input
  pub tallies : new.tallies ≡ slice_set old.tallies b tally
  pub tallied : length new.tallies ≡ length old.tallies
  pub ended : length new.ends ≡ length old.ends
  pub stated : length new.states ≡ length old.states
  pub here : slice_get new.states b ≡ Some state
  pub elsewhere : (x : ℕ) → x ≢ b → slice_get new.states x ≡ slice_get old.states x

-- the ends are these, and as many are unsettled as are counted
pub record HasEnds (E : Ends) (f : Fields) : Type 0 where
  pub ends : (x : ℕ) → ends_of f.ends x ≡ E x
  pub unsettled : f.unsettled ≡ count_by (λ x. not (is_settled x)) f.ends

module _ (ts : List Template) (k k' : Known) (runs : Runs) (below : ShowsScope) (g : Graph) (input : Container) (e E : Ends) (b : ℕ) (activity : Activity)
    (there : slice_get (out-Graph g).activities b ≡ Some activity) (begun : k'.begun [] ≡ k.begun []) (inside : (q : Part) → at q k' ≡ at q k)
    (values : (x : ℕ) → x ≢ b → values_at k' (out-Graph g).controls E x ≡ values_at k (out-Graph g).controls e x)
    (same : (x : ℕ) (y : Activity) → x ≢ b → slice_get (out-Graph g).activities x ≡ Some y → IsSameActivity ts k k' runs g input e E x y) where
  pub one_changed : (s s' : ScopeState) (t tally : Tally) (state : ActivityState) → ShowsEnds ts k runs below g input e s → slice_get (fields s).tallies b ≡ Some t
      → ChangesOne b tally state (fields s) (fields s')
      → HasEnds E (fields s') → Counts tally (values_at k' (out-Graph g).controls E b) → ShowsActivity ts k' runs below g input E b activity state
      → ShowsEnds ts k' runs below g input E s'
  one_changed s s' t tally state shows tallied_here changes has counts shown = record {
    begun = changes.begun ∙ shows.begun ∙ sym begun;
    reads = changes.reads ∙ shows.reads;
    tallied = changes.tallied ∙ shows.tallied;
    tallies = λ x u at. elim (eqb_tells x b) [
      | inl is ↦
          let here : slice_get (fields s').tallies b ≡ Some tally = ap (λ ts. slice_get ts b) changes.tallies ∙ set_read (fields s).tallies b t tally tallied_here in
          let found : slice_get (fields s').tallies b ≡ Some u = ap (slice_get (fields s').tallies) (sym is.1) ∙ at in
          let one : tally ≡ u = cc in
          subst (λ y. Counts u (values_at k' (out-Graph g).controls E y)) (sym is.1) (subst (λ w. Counts w (values_at k' (out-Graph g).controls E b)) one counts)
      | inr other ↦
          let before : slice_get (fields s).tallies x ≡ Some u = sym (ap (λ ts. slice_get ts x) changes.tallies ∙ set_other (fields s).tallies b x tally other.1) ∙ at in
          subst (λ vs. Counts u vs) (sym (values x other.1)) (shows.tallies x u before)
    ];
    ended = changes.ended ∙ shows.ended;
    ends = has.ends;
    stated = changes.stated ∙ shows.stated;
    states = λ x y now at found. elim (eqb_tells x b) [
      | inl is ↦
          let activity_here : slice_get (out-Graph g).activities b ≡ Some y = ap (slice_get (out-Graph g).activities) (sym is.1) ∙ at in
          let state_here : slice_get (fields s').states b ≡ Some now = ap (slice_get (fields s').states) (sym is.1) ∙ found in
          let here = changes.here in
          let one : activity ≡ y = cc in
          let two : state ≡ now = cc in
          subst (λ z. ShowsActivity ts k' runs below g input E z y now) (sym is.1)
          (subst (λ w. ShowsActivity ts k' runs below g input E b w now) one (subst (λ w. ShowsActivity ts k' runs below g input E b activity w) two shown))
      | inr other ↦
          let before : slice_get (fields s).states x ≡ Some now = sym (changes.elsewhere x other.1) ∙ found in
          let stays = same x y other.1 at in
          shown_again y.work _ _ _ _ _ _ (shows_attempt below k y.name (graph_in ts y.work)) (shows_attempt below k' y.name (graph_in ts y.work)) now
          stays.fate stays.outputs stays.starts (λ start u. same_attempt below k k' inside y.name (graph_in ts y.work) start u) (shows.states x y now at before)
    ];
    unsettled = has.unsettled;
  }
