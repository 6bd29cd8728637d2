-- An activity that waits has its first attempt, or dies.
use Rattle.std.proofs.Common.{◌≡◌, ℕ, zero, suc, true, false, List, [], ◌∷◌, ◌++◌, length, Option, Some, None, refl, ap, sym, ◌∙◌, subst}
use Rattle.std.specs.Prelude.{slice_get}
use Rattle.std.proofs.Math.Path.{fun_ext}
use Rattle.activity_states.specs.States.{State, waiting, dead, opened, finished, fate_of, held, made_ready, killed}
use Rattle.blocks_subprocs.specs.Ends.{ends_of}
use Rattle.flow_model.specs.Fates.{Ends, joined, goes_on, fate_by, ended, is_open}
use Rattle.flow_model.specs.Rows.{below as under}
use Rattle.flow_model.specs.ScopeContainers.{graph_in, graph_of, base_of}
use Rattle.flow_model.specs.Scopes.{Known, at, part, Runs, Gives, Trial, Start, tries, starts, trial, scope_gives, gives, is_fed, values_at, attempts, fate_given, step, started_at}
use Rattle.flow_model.specs.declared.graphs.Activity.{Activity}
use Rattle.flow_model.specs.declared.graphs.Container.{Container}
use Rattle.flow_model.specs.declared.graphs.Graph.{Graph, out-Graph}
use Rattle.flow_model.specs.declared.graphs.Template.{Template}
use Rattle.flow_model.specs.declared.graphs.Work.{Work, Program as RunsProgram, Block, Process}
use Rattle.flow_model.specs.declared.instances.Fate.{Fate}
use Rattle.flow_model.specs.declared.instances.Fate.TheVariants as fates
use Rattle.flow_model.specs.declared.instances.Hold.TheVariants.{Nobody}
use Rattle.flow_model.specs.declared.instances.Part.{Part}
use Rattle.flow_model.specs.declared.instances.Path.{Path}
use Rattle.flow_model.specs.declared.instances.SourceEnd.TheVariants.{Unsettled}
use Rattle.flow_model.specs.declared.names.Name.{Name}
use Rattle.navigator.specs.Fresh.{IsFresh}
use Rattle.navigator.specs.Steps.{Fields, Told, with_state, dead_state, at_stage, GrowsState, BeginsNext, Begins, Opens}
use Rattle.navigator.specs.Serving.{HasGraph}
use Rattle.navigator.specs.Views.{ShowsProgram, ShowsStart, ShowsNested, ShowsWork, ShowsScope, shows_attempt, ShowsActivity}
use Rattle.navigator.specs.declared.scopes.ActivityState.{ActivityState, Program, Nested}
use Rattle.navigator.specs.declared.scopes.NestedStage.TheVariants as stages
use Rattle.navigator.specs.declared.scopes.NestedState.{NestedState, out-NestedState, out-roll-NestedState}
use Rattle.navigator.specs.declared.scopes.ScopeState.{ScopeState}
use Rattle.view_laws.specs.Coming.{IsNew}

-- ---- the view of an activity whose join is known

new_scope : (k : Known) (runs : Runs) (o : Option Graph) (q : Part) (input : Container) → IsNew k q → scope_gives k runs o q input ≡ None
new_scope k runs None q input new = refl
new_scope k runs (Some h) q input new = rw new.unclosed refl

-- an attempt of which nothing counts gives nothing
pub new_gives : (ts : List Template) (k : Known) (runs : Runs) (name : Name) (w : Work) (j : ℕ) (input : Container) → IsNew k (part name j)
    → gives ts k runs name w j input ≡ None
new_gives ts k runs name (RunsProgram p) j input new = new.ungiven
new_gives ts k runs name (Block g) j input new = new_scope k runs (Some g) (part name j) input new
new_gives ts k runs name (Process t) j input new = new_scope k runs (graph_of ts t) (part name j) input new

no_tries : (n : ℕ) (give : Gives) (t : Trial) (j : ℕ) (input : Container) → give j input ≡ None → tries n give t j input ≡ []
no_tries zero give t j input none = refl
no_tries (suc n) give t j input none = rw none refl

one_start : (n : ℕ) (give : Gives) (t : Trial) (j : ℕ) (input : Container) → give j input ≡ None → starts (suc n) give t j input ≡ record { attempt = j; input = input } ∷ []
one_start n give t j input none = rw none refl

goes_on_open : (w : Work) (n : ℕ) → is_open (goes_on w n) ≡ true
goes_on_open (RunsProgram p) n = refl
goes_on_open (Block g) n = refl
goes_on_open (Process t) n = refl

goes_on_unsettled : (w : Work) (n : ℕ) (outs : List Container) → ended (goes_on w n) outs ≡ Unsettled
goes_on_unsettled (RunsProgram p) n outs = refl
goes_on_unsettled (Block g) n outs = refl
goes_on_unsettled (Process t) n outs = refl

-- its first attempt starts, and has given nothing
pub record IsOpened (ts : List Template) (k : Known) (runs : Runs) (g : Graph) (input : Container) (e : Ends) (a : ℕ) (activity : Activity) : Type 0 where
  pub fate : fate_given ts k runs g input e a ≡ goes_on activity.work 1
  pub outputs : attempts ts k runs g input e a ≡ []
  pub starts : started_at ts k runs g input e a activity ≡ record { attempt = 1; input = base_of g activity a input e } ∷ []
  pub end : step ts k runs g input e a ≡ Unsettled

-- it is shut: it waits, or is dead
pub record IsShut (ts : List Template) (k : Known) (runs : Runs) (g : Graph) (input : Container) (e : Ends) (a : ℕ) (activity : Activity) (f : Fate) : Type 0 where
  pub fate : fate_given ts k runs g input e a ≡ f
  pub starts : started_at ts k runs g input e a activity ≡ []
  pub end : step ts k runs g input e a ≡ ended f []

module _ (ts : List Template) (k : Known) (runs : Runs) (g : Graph) (input : Container) (e : Ends) (a : ℕ) (activity : Activity)
    (there : slice_get (out-Graph g).activities a ≡ Some activity) (begun : k.begun [] ≡ true) where
  pub is_opened : joined activity.join (values_at k (out-Graph g).controls e a) ≡ Some true → is_fed (out-Graph g).lines a e ≡ true
      → gives ts k runs activity.name activity.work 1 (base_of g activity a input e) ≡ None → IsOpened ts k runs g input e a activity
  is_opened is_true fed none =
      let give : Gives = gives ts k runs activity.name activity.work in
      let base : Container = base_of g activity a input e in
      let outputs : attempts ts k runs g input e a ≡ [] = rw (there, fed) (no_tries k.most give (trial g a activity base) 1 base none) in
      let fate : fate_given ts k runs g input e a ≡ goes_on activity.work 1 = rw (begun, there, is_true) (ap (fate_by activity (Some true)) (rw there at outputs)) in
      record {
        fate = fate;
        outputs = outputs;
        starts = rw (fate, goes_on_open activity.work 1, fed) (one_start k.most give (trial g a activity base) 1 base none);
        end = ap (λ f. ended f (attempts ts k runs g input e a)) fate ∙ goes_on_unsettled activity.work 1 (attempts ts k runs g input e a);
      }

  pub is_shut_none : joined activity.join (values_at k (out-Graph g).controls e a) ≡ None → IsShut ts k runs g input e a activity fates.Waiting
  is_shut_none none =
      let fate : fate_given ts k runs g input e a ≡ fates.Waiting = rw (begun, there, none) refl in
      record { fate = fate; starts = rw fate refl; end = ap (λ f. ended f (attempts ts k runs g input e a)) fate }

  pub is_shut_false : joined activity.join (values_at k (out-Graph g).controls e a) ≡ Some false → IsShut ts k runs g input e a activity fates.Dead
  is_shut_false is_false =
      let fate : fate_given ts k runs g input e a ≡ fates.Dead = rw (begun, there, is_false) refl in
      record { fate = fate; starts = rw fate refl; end = ap (λ f. ended f (attempts ts k runs g input e a)) fate }

-- ---- the state of a program activity

ready_shows : (p : State) (clock : ℕ) (fate : Fate) (outs : List Container) → fate_of (held p Nobody) ≡ fates.Waiting → fate ≡ fates.Ready 1 → outs ≡ []
    → ShowsProgram fate outs (made_ready p clock)
ready_shows waiting clock fate outs waits is none = record { stands = sym is; outputs = λ opened. sym none }
ready_shows dead clock fate outs waits is none = let n : ⊥ = cc in absurd n
ready_shows (opened cs hold takes since) clock fate outs waits is none = let n : ⊥ = cc in absurd n
ready_shows (finished cs) clock fate outs waits is none = let n : ⊥ = cc in absurd n

killed_shows : (p : State) (fate : Fate) (outs : List Container) → fate_of (held p Nobody) ≡ fates.Waiting → fate ≡ fates.Dead → ShowsProgram fate outs (killed p)
killed_shows waiting fate outs waits is = record { stands = sym is; outputs = λ opened. let never : false ≡ true = rw is at opened in let n : ⊥ = cc in absurd n }
killed_shows dead fate outs waits is = let n : ⊥ = cc in absurd n
killed_shows (opened cs hold takes since) fate outs waits is = let n : ⊥ = cc in absurd n
killed_shows (finished cs) fate outs waits is = let n : ⊥ = cc in absurd n

-- ---- the state of a block or process activity

empty_list : {X : Type 0} (xs : List X) → length xs ≡ 0 → xs ≡ []
empty_list [] none = refl
empty_list (x ∷ xs) none = let n : ⊥ = cc in absurd n

-- one scope, which shows the first attempt
pub record NestedTo (fate : Fate) (starts : List Start) (shows : ShowsStart) (a : ℕ) (old new : Fields) : Type 0 where
  pub nested : NestedState
  pub scope : new ≡ with_state a (Nested nested) old
  pub shown : ShowsNested fate starts shows nested

scope_shows : (h : Graph) (base base' : Container) (path : Path) (a : ℕ) (activity : Activity) (n : NestedState) (old new : Fields) (before after : Told)
    (fate fate' : Fate) (starts starts' : List Start) (shows shows' : ShowsStart) → ShowsNested fate starts shows n → starts ≡ [] → base' ≡ base
    → BeginsNext h base' path a activity (Nested n) old new before after → fate' ≡ fates.Running 1 → starts' ≡ record { attempt = 1; input = base } ∷ []
    → ((s : ScopeState) → IsFresh h base s → shows' (record { attempt = 1; input = base }) s) → NestedTo fate' starts' shows' a old new
scope_shows h base base' path a activity n old new before after fate fate' starts starts' shows shows' was unstarted same begins is one fresh_shows =
    go begins.state begins.grows begins.scope
  where
    none : (out-NestedState n).scopes.items ≡ []
    none = empty_list _ (was.count ∙ ap length unstarted)

    go : (state : ActivityState) → GrowsState begins.next (Nested n) state → new ≡ with_state a state old → NestedTo fate' starts' shows' a old new
    go (Program p) grows scope = absurd grows
    go (Nested m) grows scope =
        let only : (out-NestedState m).scopes.items ≡ begins.next ∷ [] = grows.scopes ∙ ap (λ ss. ss ++ begins.next ∷ []) none in
        record {
          nested = m;
          scope = scope;
          shown = record {
            stands = rw (grows.stage, only, is) refl;
            count = rw (only, one) refl;
            scopes = λ i start s at there. shown_at i start s (rw one at at) (rw only at there);
          };
        }
      where
        shown_at : (i : ℕ) (start : Start) (s : ScopeState) → slice_get (record { attempt = 1; input = base } ∷ []) i ≡ Some start → slice_get (begins.next ∷ []) i ≡ Some s → shows' start s
        shown_at zero start s at there =
            let first : record { attempt = 1; input = base } ≡ start = cc in
            let next : begins.next ≡ s = cc in
            subst (λ x. shows' x s) first (subst (λ t. shows' (record { attempt = 1; input = base }) t) next (fresh_shows begins.next (subst (λ b. IsFresh h b begins.next) same begins.fresh)))
        shown_at (suc i) start s at there = let never : None ≡ Some start = at in let n : ⊥ = cc in absurd n

dead_nested : (n : NestedState) (fate fate' : Fate) (starts starts' : List Start) (shows shows' : ShowsStart) → ShowsNested fate starts shows n → starts ≡ []
    → fate' ≡ fates.Dead → starts' ≡ [] → ShowsNested fate' starts' shows' (at_stage stages.Dead n)
dead_nested n fate fate' starts starts' shows shows' was none is none' = record {
  stands = rw out-roll-NestedState (sym is);
  count = rw out-roll-NestedState (was.count ∙ ap length none ∙ ap length (sym none'));
  scopes = λ i start s at there. let never : None ≡ Some start = rw none' at at in let n : ⊥ = cc in absurd n;
}

waiting_nested : (n : NestedState) (fate fate' : Fate) (starts starts' : List Start) (shows shows' : ShowsStart) → ShowsNested fate starts shows n → fate ≡ fates.Waiting → starts ≡ []
    → fate' ≡ fates.Waiting → starts' ≡ [] → ShowsNested fate' starts' shows' n
waiting_nested n fate fate' starts starts' shows shows' was waits none is none' = record {
  stands = was.stands ∙ waits ∙ sym is;
  count = was.count ∙ ap length none ∙ ap length (sym none');
  scopes = λ i start s at there. let never : None ≡ Some start = rw none' at at in let n : ⊥ = cc in absurd n;
}

-- ---- the state of any activity

-- the state of the activity at a place becomes one that shows its view
pub record ChangesTo (ts : List Template) (k : Known) (runs : Runs) (below : ShowsScope) (g : Graph) (input : Container) (e : Ends) (a : ℕ) (activity : Activity) (old new : Fields) : Type 0 where
  pub state : ActivityState
  pub scope : new ≡ with_state a state old
  pub shown : ShowsActivity ts k runs below g input e a activity state

-- a state that shows an activity of this work
pub record WorkTo (w : Work) (fate : Fate) (outs : List Container) (starts : List Start) (shows : ShowsStart) (a : ℕ) (old new : Fields) : Type 0 where
  pub state : ActivityState
  pub scope : new ≡ with_state a state old
  pub shown : ShowsWork w fate outs starts shows state

-- how its first attempt is made, by the graph that it runs
abbrev OpensAs : Option Graph → Container → Path → ℕ → ℕ → Activity → ActivityState → Fields → Fields → Told → Told → Type 0
OpensAs o base path clock a activity (Program p) old new before after =
    (new ≡ with_state a (Program (made_ready p clock)) old) × (after ≡ record before { ready = before.ready ++ under path (part activity.name 1) ∷ [] })
OpensAs o base path clock a activity (Nested n) old new before after = Begins o base path a activity (Nested n) old new before after

module _ (ts : List Template) (base base' : Container) (path : Path) (clock a : ℕ) (activity : Activity) (old new : Fields) (before after : Told)
    (fate fate' : Fate) (outs outs' : List Container) (starts starts' : List Start) (shows shows' : ShowsStart) where
  opened_work : (w : Work) (was : ActivityState) → HasGraph ts w → ShowsWork w fate outs starts shows was → fate ≡ fates.Waiting → starts ≡ [] → base' ≡ base
      → OpensAs (graph_in ts w) base' path clock a activity was old new before after
      → fate' ≡ goes_on w 1 → outs' ≡ [] → starts' ≡ record { attempt = 1; input = base } ∷ []
      → ((h : Graph) (s : ScopeState) → graph_in ts w ≡ Some h → IsFresh h base s → shows' (record { attempt = 1; input = base }) s)
      → WorkTo w fate' outs' starts' shows' a old new
  opened_work (RunsProgram w) (Program p) has was waits none same opens is no_outs one fresh_shows =
      record { state = Program (made_ready p clock); scope = opens.0; shown = ready_shows p clock fate' outs' (was.stands ∙ waits) is no_outs }
  opened_work (RunsProgram w) (Nested n) has was waits none same opens is no_outs one fresh_shows = absurd was
  opened_work (Block h) (Program p) has was waits none same opens is no_outs one fresh_shows = absurd was
  opened_work (Block h) (Nested n) has was waits none same opens is no_outs one fresh_shows =
      let to = scope_shows h base base' path a activity n old new before after fate fate' starts starts' shows shows' was none same opens is one (λ s. fresh_shows h s refl) in
      record { state = Nested to.nested; scope = to.scope; shown = to.shown }
  opened_work (Process t) (Program p) has was waits none same opens is no_outs one fresh_shows = absurd was
  opened_work (Process t) (Nested n) has was waits none same opens is no_outs one fresh_shows =
      let to = scope_shows has.0 base base' path a activity n old new before after fate fate' starts starts' shows shows' was none same (rw has.1 at opens) is one (λ s. fresh_shows has.0 s has.1) in
      record { state = Nested to.nested; scope = to.scope; shown = to.shown }

dead_work : (w : Work) (was : ActivityState) (fate fate' : Fate) (outs outs' : List Container) (starts starts' : List Start) (shows shows' : ShowsStart)
    → ShowsWork w fate outs starts shows was → fate ≡ fates.Waiting → starts ≡ [] → fate' ≡ fates.Dead → starts' ≡ [] → ShowsWork w fate' outs' starts' shows' (dead_state was)
dead_work (RunsProgram w) (Program p) fate fate' outs outs' starts starts' shows shows' was waits none is none' = killed_shows p fate' outs' (was.stands ∙ waits) is
dead_work (RunsProgram w) (Nested n) fate fate' outs outs' starts starts' shows shows' was waits none is none' = was
dead_work (Block h) (Program p) fate fate' outs outs' starts starts' shows shows' was waits none is none' = was
dead_work (Block h) (Nested n) fate fate' outs outs' starts starts' shows shows' was waits none is none' = dead_nested n fate fate' starts starts' shows shows' was none is none'
dead_work (Process t) (Program p) fate fate' outs outs' starts starts' shows shows' was waits none is none' = was
dead_work (Process t) (Nested n) fate fate' outs outs' starts starts' shows shows' was waits none is none' = dead_nested n fate fate' starts starts' shows shows' was none is none'

waiting_work : (w : Work) (was : ActivityState) (fate fate' : Fate) (outs outs' : List Container) (starts starts' : List Start) (shows shows' : ShowsStart)
    → ShowsWork w fate outs starts shows was → fate ≡ fates.Waiting → starts ≡ [] → fate' ≡ fates.Waiting → starts' ≡ [] → ShowsWork w fate' outs' starts' shows' was
waiting_work (RunsProgram w) (Program p) fate fate' outs outs' starts starts' shows shows' was waits none is none' = record {
  stands = was.stands ∙ waits ∙ sym is;
  outputs = λ opened. let never : false ≡ true = rw is at opened in let n : ⊥ = cc in absurd n;
}
waiting_work (RunsProgram w) (Nested n) fate fate' outs outs' starts starts' shows shows' was waits none is none' = was
waiting_work (Block h) (Program p) fate fate' outs outs' starts starts' shows shows' was waits none is none' = was
waiting_work (Block h) (Nested n) fate fate' outs outs' starts starts' shows shows' was waits none is none' = waiting_nested n fate fate' starts starts' shows shows' was waits none is none'
waiting_work (Process t) (Program p) fate fate' outs outs' starts starts' shows shows' was waits none is none' = was
waiting_work (Process t) (Nested n) fate fate' outs outs' starts starts' shows shows' was waits none is none' = waiting_nested n fate fate' starts starts' shows shows' was waits none is none'

module _ (ts : List Template) (k k' : Known) (runs : Runs) (below : ShowsScope) (g : Graph) (input : Container) (e E : Ends) (a : ℕ) (activity : Activity) (was : ActivityState)
    (waits : fate_given ts k runs g input e a ≡ fates.Waiting) (shows : ShowsActivity ts k runs below g input e a activity was) where
  unstarted : started_at ts k runs g input e a activity ≡ []
  unstarted = rw waits refl

  -- its first attempt is made
  pub opened_shows : (path : Path) (clock : ℕ) (old new : Fields) (before after : Told) → HasGraph ts activity.work → IsOpened ts k' runs g input E a activity
      → ((h : Graph) (s : ScopeState) → graph_in ts activity.work ≡ Some h → IsFresh h (base_of g activity a input E) s → below (at (part activity.name 1) k') h (base_of g activity a input E) s)
      → old.input ≡ input → ((x : ℕ) → ends_of old.ends x ≡ E x) → Opens ts g path clock a activity (Some was) old new before after
      → ChangesTo ts k' runs below g input E a activity old new
  opened_shows path clock old new before after has is fresh_shows reads ends opens =
      let base : Container = base_of g activity a input E in
      let same : base_of g activity a old.input (ends_of old.ends) ≡ base = ap (λ i. base_of g activity a i (ends_of old.ends)) reads ∙ ap (base_of g activity a input) (fun_ext ends) in
      let to = opened_work ts base (base_of g activity a old.input (ends_of old.ends)) path clock a activity old new before after
      (fate_given ts k runs g input e a) (fate_given ts k' runs g input E a) (attempts ts k runs g input e a) (attempts ts k' runs g input E a)
      (started_at ts k runs g input e a activity) (started_at ts k' runs g input E a activity)
      (shows_attempt below k activity.name (graph_in ts activity.work)) (shows_attempt below k' activity.name (graph_in ts activity.work))
      activity.work was has shows waits unstarted same (as_opened was opens) is.fate is.outputs is.starts
      (λ h s runs_it fresh. subst (λ o. shows_attempt below k' activity.name o (record { attempt = 1; input = base }) s) (sym runs_it) (fresh_shows h s runs_it fresh)) in
      record { state = to.state; scope = to.scope; shown = to.shown }
    where
      as_opened : (state : ActivityState) → Opens ts g path clock a activity (Some state) old new before after
          → OpensAs (graph_in ts activity.work) (base_of g activity a old.input (ends_of old.ends)) path clock a activity state old new before after
      as_opened (Program p) is = is
      as_opened (Nested n) is = is

  -- it dies
  pub dead_shows : IsShut ts k' runs g input E a activity fates.Dead → ShowsActivity ts k' runs below g input E a activity (dead_state was)
  dead_shows shut = dead_work activity.work was _ _ _ _ _ _ _ _ shows waits unstarted shut.fate shut.starts

  -- it goes on waiting
  pub waiting_shows : IsShut ts k' runs g input E a activity fates.Waiting → ShowsActivity ts k' runs below g input E a activity was
  waiting_shows shut = waiting_work activity.work was _ _ _ _ _ _ _ _ shows waits unstarted shut.fate shut.starts
