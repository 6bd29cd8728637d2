-- A state that shows a view shows each view that is the same.
use Rattle.std.proofs.Common.{◌≡◌, ℕ, suc, true, List, [], ◌∷◌, length, Option, Some, None, refl, ap, sym, ◌∙◌, subst}
use Rattle.std.specs.Prelude.{◌&&◌, if◌then◌else◌, slice_get}
use Rattle.std.proofs.Math.Path.{fun_ext}
use Rattle.dead_paths.specs.Tallies.{Counts}
use Rattle.flow_model.specs.Fates.{Ends, ended, is_open}
use Rattle.flow_model.specs.ScopeContainers.{base_of, graph_in, graph_of}
use Rattle.flow_model.specs.Scopes.{Known, at, part, Runs, Gives, Start, tries, starts, is_fed, trial, scope_gives, gives, values_at, attempts, attempts_at, fate_at, fate_given, step, started_at, scope_ends, rounds, output}
use Rattle.flow_model.specs.declared.graphs.Activity.{Activity}
use Rattle.flow_model.specs.declared.graphs.Container.{Container}
use Rattle.flow_model.specs.declared.graphs.Graph.{Graph, out-Graph}
use Rattle.flow_model.specs.declared.graphs.Template.{Template}
use Rattle.flow_model.specs.declared.graphs.Work.{Work, Program as RunsProgram, Block, Process}
use Rattle.flow_model.specs.declared.instances.Fate.{Fate}
use Rattle.flow_model.specs.declared.instances.Fate.TheVariants.{Waiting}
use Rattle.flow_model.specs.declared.instances.Part.{Part}
use Rattle.flow_model.specs.declared.names.Name.{Name}
use Rattle.navigator.specs.Views.{ShowsStart, ShowsNested, ShowsWork, ShowsScope, shows_attempt, ShowsEnds, ShowsWithin, Shows}
use Rattle.navigator.specs.declared.scopes.ActivityState.{ActivityState, Program, Nested}
use Rattle.navigator.specs.declared.scopes.NestedState.{NestedState}
use Rattle.navigator.specs.declared.scopes.ScopeState.{ScopeState}

-- ---- one activity

nested_again : (fate fate' : Fate) (starts starts' : List Start) (shows shows' : ShowsStart) (n : NestedState) → fate' ≡ fate → starts' ≡ starts
    → ((start : Start) (s : ScopeState) → shows start s → shows' start s) → ShowsNested fate starts shows n → ShowsNested fate' starts' shows' n
nested_again fate fate' starts starts' shows shows' n same list more is = record {
  stands = is.stands ∙ sym same;
  count = is.count ∙ ap length (sym list);
  scopes = λ i start s at there. more start s (is.scopes i start s (rw list at at) there);
}

-- the state of an activity goes on showing what is the same of it
pub shown_again : (w : Work) (fate fate' : Fate) (outs outs' : List Container) (starts starts' : List Start) (shows shows' : ShowsStart) (state : ActivityState)
    → fate' ≡ fate → (is_open fate ≡ true → outs' ≡ outs) → starts' ≡ starts
    → ((start : Start) (s : ScopeState) → shows start s → shows' start s) → ShowsWork w fate outs starts shows state → ShowsWork w fate' outs' starts' shows' state
shown_again (RunsProgram w) fate fate' outs outs' starts starts' shows shows' (Program p) same given list more is = record {
  stands = is.stands ∙ sym same;
  outputs = λ opened. let before : is_open fate ≡ true = ap is_open (sym same) ∙ opened in is.outputs before ∙ sym (given before);
}
shown_again (RunsProgram w) fate fate' outs outs' starts starts' shows shows' (Nested n) same given list more is = is
shown_again (Block g) fate fate' outs outs' starts starts' shows shows' (Program p) same given list more is = is
shown_again (Block g) fate fate' outs outs' starts starts' shows shows' (Nested n) same given list more is = nested_again fate fate' starts starts' shows shows' n same list more is
shown_again (Process t) fate fate' outs outs' starts starts' shows shows' (Program p) same given list more is = is
shown_again (Process t) fate fate' outs outs' starts starts' shows shows' (Nested n) same given list more is = nested_again fate fate' starts starts' shows shows' n same list more is

-- ---- a scope of which the same is known

-- of a scope itself the same is known, and its attempts give the same
pub record IsSameScope (ts : List Template) (runs : Runs) (k k' : Known) : Type 0 where
  pub most : k'.most ≡ k.most
  pub begun : k'.begun [] ≡ k.begun []
  pub sent : k'.sent [] ≡ k.sent []
  pub given : (name : Name) (w : Work) → gives ts k' runs name w ≡ gives ts k runs name w

module _ (ts : List Template) (runs : Runs) (k k' : Known) (g : Graph) (input : Container) (same : IsSameScope ts runs k k') where
  attempts_same : (e : Ends) (a : ℕ) (o : Option Activity) → attempts_at ts k' runs g input e a o ≡ attempts_at ts k runs g input e a o
  attempts_same e a None = refl
  attempts_same e a (Some activity) =
      let base : Container = base_of g activity a input e in
      ap (λ n. if is_fed (out-Graph g).lines a e then tries n (gives ts k' runs activity.name activity.work) (trial g a activity base) 1 base else []) same.most
      ∙ ap (λ (give : Gives). if is_fed (out-Graph g).lines a e then tries k.most give (trial g a activity base) 1 base else []) (same.given activity.name activity.work)

  pub outputs_as_before : (e : Ends) (a : ℕ) → attempts ts k' runs g input e a ≡ attempts ts k runs g input e a
  outputs_as_before e a = attempts_same e a (slice_get (out-Graph g).activities a)

  fate_by_parts : (e : Ends) (a : ℕ) (o : Option Activity) (outs : List Container)
      → (if k'.begun [] then fate_at k' (out-Graph g).controls e a o outs else Waiting) ≡ (if k.begun [] then fate_at k (out-Graph g).controls e a o outs else Waiting)
  fate_by_parts e a None outs = rw same.begun refl
  fate_by_parts e a (Some activity) outs = rw (same.begun, same.sent) refl

  pub fate_as_before : (e : Ends) (a : ℕ) → fate_given ts k' runs g input e a ≡ fate_given ts k runs g input e a
  fate_as_before e a =
      ap (λ os. if k'.begun [] then fate_at k' (out-Graph g).controls e a (slice_get (out-Graph g).activities a) os else Waiting) (outputs_as_before e a)
      ∙ fate_by_parts e a (slice_get (out-Graph g).activities a) (attempts ts k runs g input e a)

  pub starts_as_before : (e : Ends) (a : ℕ) (activity : Activity) → started_at ts k' runs g input e a activity ≡ started_at ts k runs g input e a activity
  starts_as_before e a activity =
      let base : Container = base_of g activity a input e in
      ap (λ f. if is_open f && is_fed (out-Graph g).lines a e then starts (suc k'.most) (gives ts k' runs activity.name activity.work) (trial g a activity base) 1 base else []) (fate_as_before e a)
      ∙ ap (λ n. if is_open (fate_given ts k runs g input e a) && is_fed (out-Graph g).lines a e then starts (suc n) (gives ts k' runs activity.name activity.work) (trial g a activity base) 1 base else []) same.most
      ∙ ap (λ (give : Gives). if is_open (fate_given ts k runs g input e a) && is_fed (out-Graph g).lines a e then starts (suc k.most) give (trial g a activity base) 1 base else []) (same.given activity.name activity.work)

  pub values_as_before : (controls : _) (e : Ends) (a : ℕ) → values_at k' controls e a ≡ values_at k controls e a
  values_as_before controls e a = rw same.sent refl

  pub ends_as_before : scope_ends ts k' runs g input ≡ scope_ends ts k runs g input
  ends_as_before =
      let steps : step ts k' runs g input ≡ step ts k runs g input = fun_ext (λ e. fun_ext (λ a.
      ap (λ f. ended f (attempts ts k' runs g input e a)) (fate_as_before e a) ∙ ap (λ os. ended (fate_given ts k runs g input e a) os) (outputs_as_before e a))) in
      ap (λ next. rounds next (length (out-Graph g).activities)) steps

  -- so its state goes on showing it, where the scopes below go on
  pub scope_shown_again : (below below' : ShowsScope) (s : ScopeState)
      → ((a : ℕ) (activity : Activity) (start : Start) (t : ScopeState) → slice_get (out-Graph g).activities a ≡ Some activity
      → shows_attempt below k activity.name (graph_in ts activity.work) start t → shows_attempt below' k' activity.name (graph_in ts activity.work) start t)
      → ShowsEnds ts k runs below g input (scope_ends ts k runs g input) s → ShowsEnds ts k' runs below' g input (scope_ends ts k' runs g input) s
  scope_shown_again below below' s more shows =
      let ends : scope_ends ts k' runs g input ≡ scope_ends ts k runs g input = ends_as_before in
      subst (λ E. ShowsEnds ts k' runs below' g input E s) (sym ends) (by (scope_ends ts k runs g input) shows)
    where
      by : (e : Ends) → ShowsEnds ts k runs below g input e s → ShowsEnds ts k' runs below' g input e s
      by e is = record {
        begun = is.begun ∙ sym same.begun;
        reads = is.reads;
        tallied = is.tallied;
        tallies = λ a t at. subst (λ vs. Counts t vs) (sym (values_as_before (out-Graph g).controls e a)) (is.tallies a t at);
        ended = is.ended;
        ends = is.ends;
        stated = is.stated;
        states = λ a activity state at there.
            shown_again activity.work _ _ _ _ _ _ (shows_attempt below k activity.name (graph_in ts activity.work)) (shows_attempt below' k' activity.name (graph_in ts activity.work)) state
            (fate_as_before e a) (λ opened. outputs_as_before e a) (starts_as_before e a activity) (λ start t. more a activity start t at)
            (is.states a activity state at there);
        unsettled = is.unsettled;
      }

-- ---- known the same inside

-- k and k' differ at most in whether the scope itself has told its end, and in an output of its own item
pub record IsSameInside (k k' : Known) : Type 0 where
  pub most : k'.most ≡ k.most
  pub begun : k'.begun [] ≡ k.begun []
  pub sent : k'.sent [] ≡ k.sent []
  pub below : (q : Part) → at q k' ≡ at q k

scope_gives_same : (k k' : Known) (runs : Runs) → IsSameInside k k' → (o : Option Graph) (q : Part) (i : Container) → scope_gives k' runs o q i ≡ scope_gives k runs o q i
scope_gives_same k k' runs same None q i = refl
scope_gives_same k k' runs same (Some h) q i =
    let closed : k'.closed (q ∷ []) ≡ k.closed (q ∷ []) = ap (λ j. j.closed []) (same.below q) in
    rw (closed, same.below q) refl

gives_same : (ts : List Template) (k k' : Known) (runs : Runs) → IsSameInside k k' → (name : Name) (w : Work) (j : ℕ) (i : Container)
    → gives ts k' runs name w j i ≡ gives ts k runs name w j i
gives_same ts k k' runs same name (RunsProgram p) j i = ap (λ known. known.given []) (same.below (part name j))
gives_same ts k k' runs same name (Block g) j i = scope_gives_same k k' runs same (Some g) (part name j) i
gives_same ts k k' runs same name (Process t) j i = scope_gives_same k k' runs same (graph_of ts t) (part name j) i

pub inside_scope : (ts : List Template) (k k' : Known) (runs : Runs) → IsSameInside k k' → IsSameScope ts runs k k'
inside_scope ts k k' runs same = record {
  most = same.most;
  begun = same.begun;
  sent = same.sent;
  given = λ name w. fun_ext (λ j. fun_ext (λ i. gives_same ts k k' runs same name w j i));
}

attempt_inside : (below : ShowsScope) (k k' : Known) → IsSameInside k k' → (name : Name) (o : Option Graph) (start : Start) (s : ScopeState)
    → shows_attempt below k name o start s → shows_attempt below k' name o start s
attempt_inside below k k' same name None start s is = is
attempt_inside below k k' same name (Some h) start s is = subst (λ j. below j h start.input s) (sym (same.below (part name start.attempt))) is

pub shows_inside : (ts : List Template) (depth : ℕ) (k k' : Known) (g : Graph) (input : Container) (s : ScopeState) → IsSameInside k k'
    → Shows ts depth k g input s → Shows ts depth k' g input s
shows_inside ts depth k k' g input s same shows =
    scope_shown_again ts (output ts depth) k k' g input (inside_scope ts k k' (output ts depth) same) (ShowsWithin ts depth) (ShowsWithin ts depth) s
    (λ a activity start t there is. attempt_inside (ShowsWithin ts depth) k k' same activity.name (graph_in ts activity.work) start t is)
    shows
