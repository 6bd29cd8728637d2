-- An event that a scope receives does to it what the machine's does.
use Rattle.std.proofs.Common.{◌≡◌, ℕ, zero, suc, ◌+◌, ◌-◌, ◌≤◌, Bool, true, false, List, [], ◌∷◌, ◌++◌}
use Rattle.std.proofs.Common.{length, Option, Some, None, option_and_then, refl, sym, ap, subst, ◌∙◌}
use Rattle.std.proofs.Common.{arith}
use Rattle.std.specs.Prelude.{slice_get, slice_set}
use Rattle.std.proofs.Math.Path.{fun_ext}
use Rattle.activity_states.specs.States.{State, fate_of, made_ready, completed}
use Rattle.activity_states.specs.declared.states.Completed.{Completed}
use Rattle.blocks_subprocs.specs.Ends.{ends_of}
use Rattle.dead_paths.specs.Tallies.{Counts}
use Rattle.dead_paths.specs.declared.joins.Tally.{Tally}
use Rattle.flow_model.specs.Conditions.{holds}
use Rattle.flow_model.specs.Fates.{joined}
use Rattle.flow_model.specs.Rows.{below}
use Rattle.flow_model.specs.ScopeContainers.{graph_in, base_of, looped}
use Rattle.flow_model.specs.Scopes.{part}
use Rattle.flow_model.specs.declared.graphs.Activity.{Activity}
use Rattle.flow_model.specs.declared.graphs.Container.{Container}
use Rattle.flow_model.specs.declared.graphs.Graph.{Graph, out-Graph}
use Rattle.flow_model.specs.declared.graphs.Template.{Template}
use Rattle.flow_model.specs.declared.instances.Message.{Message}
use Rattle.flow_model.specs.declared.instances.Path.{Path}
use Rattle.flow_model.specs.declared.instances.SourceEnd.TheVariants as end
use Rattle.machine.specs.Moves as m
use Rattle.machine.specs.Rows.{Standing, Item, Inner, Row, Step, with_row, attempt_place}
use Rattle.navigator.specs.Events as e
use Rattle.navigator.specs.Reading.{scope_of}
use Rattle.navigator.specs.Steps as n
use Rattle.navigator.specs.Steps.{Fields, fields, Told, with_state}
use Rattle.navigator.specs.declared.scopes.ActivityState.{ActivityState, Program, Nested}
use Rattle.navigator.specs.declared.scopes.NestedState.{NestedState, out-NestedState}
use Rattle.navigator.specs.declared.scopes.ScopeState.{ScopeState}
use Rattle.machine_scopes.specs.Events.{as_move, Meets, IsAsMoved}
use Rattle.machine_scopes.specs.Seen.{standing_of, row_of, inner_at, scopes_of, scopes_in, told_as, Along}
use Rattle.machine_scopes.proofs.Inside.{goes_in}
use Rattle.machine_scopes.proofs.Lists.{map_read, map_none, put_read, present}
use Rattle.machine_scopes.proofs.Steps.{Shows, stands_so, settles_so, dies_so, finishes_so, begins_next_so}
use Rattle.machine_scopes.proofs.Tallied.{joined_so, valued}

-- what a scene reads of the activity at a place
standing_read : (f : Fields) (t : Told) (x : m.Scene) (a : ℕ) (state : ActivityState) → Shows f t x
    → slice_get f.states a ≡ Some state → slice_get x.row.standings a ≡ Some (standing_of state)
standing_read f t x a state shows at =
    ap (λ (r : Row). slice_get r.standings a) shows.row ∙ map_read standing_of f.states a state at

standing_none : (f : Fields) (t : Told) (x : m.Scene) (a : ℕ) → Shows f t x → slice_get f.states a ≡ None
    → slice_get x.row.standings a ≡ None
standing_none f t x a shows at =
    ap (λ (r : Row). slice_get r.standings a) shows.row ∙ map_none standing_of f.states a at

base_so : (f : Fields) (t : Told) (x : m.Scene) (g : Graph) (a : ℕ) (activity : Activity) → Shows f t x
    → base_of g activity a x.row.input (ends_of x.row.ends) ≡ base_of g activity a f.input (ends_of f.ends)
base_so f t x g a activity shows = ap (λ (r : Row). base_of g activity a r.input (ends_of r.ends)) shows.row

unmoved : (f f' : Fields) (t t' : Told) (x : m.Scene) → Shows f t x → (f' ≡ f) × (t' ≡ t) → Shows f' t' x
unmoved f f' t t' x shows same = subst (λ u. Shows f' u x) (sym same.1) (subst (λ u. Shows u t x) (sym same.0) shows)

-- a scope begins
begins_so : (h : Option Graph) (input : Container) (path : Path) (a : ℕ) (activity : Activity) (k : NestedState)
    (f f' : Fields) (t t' : Told) (x : m.Scene) → slice_get f.states a ≡ Some (Nested k) → Shows f t x
    → n.Begins h input path a activity (Nested k) f f' t t'
    → Shows f' t' (m.begins h input path a activity (length (out-NestedState k).scopes.items) x)
begins_so None input path a activity k f f' t t' x at shows is = unmoved f f' t t' x shows is
begins_so (Some h) input path a activity k f f' t t' x at shows is =
    begins_next_so h input path a activity k f f' t t' x at shows is

module _ (ts : List Template) (g : Graph) (path : Path) (clock : ℕ) where
  opens_at : (a : ℕ) (activity : Activity) (f f' : Fields) (t t' : Told) (x : m.Scene) (o : Option ActivityState)
      → slice_get f.states a ≡ o → Shows f t x → n.Opens ts g path clock a activity o f f' t t'
      → Shows f' t' (m.opens ts g path clock a activity (slice_get x.row.standings a) x)
  opens_at a activity f f' t t' x None at shows is =
      subst (λ z. Shows f' t' (m.opens ts g path clock a activity z x)) (sym (standing_none f t x a shows at))
      (unmoved f f' t t' x shows is)
  opens_at a activity f f' t t' x (Some (Program p)) at shows is =
      let stands = stands_so f t x a (Program p) (Program (made_ready p clock)) at (λ i. refl) shows in
      subst (λ z. Shows f' t' (m.opens ts g path clock a activity z x))
      (sym (standing_read f t x a (Program p) shows at))
      (record {
        row = stands.row ∙ ap row_of (sym is.0);
        scopes = λ q r. stands.scopes q r ∙ ap (λ (u : Fields). scopes_in u (q ∷ r)) (sym is.0);
        told =
            ap (λ (u : m.Told). record u { ready = u.ready ++ below path (part activity.name 1) ∷ [] }) shows.told
            ∙ ap told_as (sym is.1);
      })
  opens_at a activity f f' t t' x (Some (Nested k)) at shows is =
      subst (λ z. Shows f' t' (m.opens ts g path clock a activity z x))
      (sym (standing_read f t x a (Nested k) shows at))
      (subst (λ input. Shows f' t' (m.begins (graph_in ts activity.work) input path a activity
      (length (out-NestedState k).scopes.items) x)) (sym (base_so f t x g a activity shows))
      (begins_so (graph_in ts activity.work)
      (base_of g activity a f.input (ends_of f.ends)) path a activity k f f' t t' x at shows is))

  decided_so : (a : ℕ) (activity : Activity) (v : Option Bool) (f f' : Fields) (t t' : Told) (x : m.Scene)
      → Shows f t x → n.Decides ts g path clock a activity v f f' t t'
      → Shows f' t' (m.decided ts g path clock a activity v x)
  decided_so a activity None f f' t t' x shows is = unmoved f f' t t' x shows is
  decided_so a activity (Some true) f f' t t' x shows is =
      opens_at a activity f f' t t' x (slice_get f.states a) refl shows is
  decided_so a activity (Some false) f f' t t' x shows is =
      unmoved (n.dies a f) f' (n.tell_settled g path a end.Dead (f.unsettled - 1) t) t' (m.dies g path a x)
      (dies_so f t x g path a shows) is

  -- an activity is decided by its tally
  decides_so : (a : ℕ) (activity : Activity) (y : Tally) (vs : List (Option Bool)) (f f' : Fields) (t t' : Told)
      (x : m.Scene) → slice_get (out-Graph g).activities a ≡ Some activity → slice_get f.tallies a ≡ Some y
      → Counts y vs
      → Shows f t x → n.Decides ts g path clock a activity (joined activity.join vs) f f' t t'
      → Shows f' t' (m.decides ts g path clock a x)
  decides_so a activity y vs f f' t t' x there at counts shows is =
      let read : slice_get x.row.tallies a ≡ Some y = ap (λ (r : Row). slice_get r.tallies a) shows.row ∙ at in
      let known = decided_so a activity (joined activity.join vs) f f' t t' x shows is in
      subst (λ z. Shows f' t' (m.decided_by ts g path clock a z (slice_get x.row.tallies a) x)) (sym there)
      (subst (λ z. Shows f' t' (m.decided_by ts g path clock a (Some activity) z x)) (sym read)
      (subst (λ z. Shows f' t' (m.decided ts g path clock a activity z x))
      (sym (joined_so y vs counts activity.join)) known))

  -- it leaves the tallies
  begins_tallies : (h : Option Graph) (input : Container) (a : ℕ) (activity : Activity) (k : ℕ) (x : m.Scene)
      → (m.begins h input path a activity k x).row.tallies ≡ x.row.tallies
  begins_tallies None input a activity k x = refl
  begins_tallies (Some h) input a activity k x = refl

  opens_tallies : (a : ℕ) (activity : Activity) (o : Option Standing) (x : m.Scene)
      → (m.opens ts g path clock a activity o x).row.tallies ≡ x.row.tallies
  opens_tallies a activity None x = refl
  opens_tallies a activity (Some (Item p)) x = refl
  opens_tallies a activity (Some (Inner stage k)) x =
      begins_tallies (graph_in ts activity.work) (base_of g activity a x.row.input (ends_of x.row.ends)) a activity k x

  changed_tallies : (move : Standing → Standing) (a : ℕ) (o : Option Standing) (r : Row)
      → (m.changed_at move a o r).tallies ≡ r.tallies
  changed_tallies move a None r = refl
  changed_tallies move a (Some s) r = refl

  decided_tallies : (a : ℕ) (activity : Activity) (v : Option Bool) (x : m.Scene)
      → (m.decided ts g path clock a activity v x).row.tallies ≡ x.row.tallies
  decided_tallies a activity None x = refl
  decided_tallies a activity (Some true) x = opens_tallies a activity (slice_get x.row.standings a) x
  decided_tallies a activity (Some false) x = changed_tallies m.dead_standing a (slice_get x.row.standings a) x.row

  decides_tallies : (a : ℕ) (o : Option Activity) (y : Option Tally) (x : m.Scene)
      → (m.decided_by ts g path clock a o y x).row.tallies ≡ x.row.tallies
  decides_tallies a None y x = refl
  decides_tallies a (Some activity) None x = refl
  decides_tallies a (Some activity) (Some y) x = decided_tallies a activity (m.joined_by activity.join y) x

  first_tallies : (k : ℕ) (x : m.Scene) → (m.decides_first ts g path clock k x).row.tallies ≡ x.row.tallies
  first_tallies zero x = refl
  first_tallies (suc k) x =
      let before = m.decides_first ts g path clock k x in
      decides_tallies k (slice_get (out-Graph g).activities k) (slice_get before.row.tallies k) before
      ∙ first_tallies k x

  -- the first activities are decided
  first_so : (values : ℕ → List (Option Bool)) (k : ℕ) (f f' : Fields) (t t' : Told) (x : m.Scene)
      → k ≤ length (out-Graph g).activities → n.AreTallied g values f.tallies → Shows f t x
      → n.DecidesFirst ts g path clock values k f f' t t' → Shows f' t' (m.decides_first ts g path clock k x)
  first_so values zero f f' t t' x less tallied shows is = unmoved f f' t t' x shows is
  first_so values (suc k) f f' t t' x less tallied shows is =
      let activity = present (out-Graph g).activities k (omega (arith, less)) in
      let y = present f.tallies k (omega (arith, less, tallied.long)) in
      let so_far = first_so values k f is.middle t is.so_far x (omega (arith, less)) tallied shows is.before in
      let kept : is.middle.tallies ≡ f.tallies = sym (ap (λ (r : Row). r.tallies) so_far.row) ∙ first_tallies k x
      ∙ ap (λ (r : Row). r.tallies) shows.row in
      decides_so k activity.0 y.0 (values k) is.middle f' is.so_far t' (m.decides_first ts g path clock k x) activity.1
      (ap (λ ys. slice_get ys k) kept ∙ y.1) (tallied.counts k y.0 y.1) so_far (is.decides activity.0 activity.1)

  begins_all_so : (values : ℕ → List (Option Bool)) (f f' : Fields) (t t' : Told) (x : m.Scene)
      → n.AreTallied g values f.tallies → Shows f t x → n.BeginsAll ts g path clock values f f' t t'
      → Shows f' t' (m.begun ts g path clock x)
  begins_all_so values f f' t t' x tallied shows is =
      first_so values (length (out-Graph g).activities) (record f { begun = true }) f' t t'
      (m.with_row_of (record x.row { begun = true }) x) (omega arith) tallied
      (record {
        row = ap (λ (r : Row). record r { begun = true }) shows.row;
        scopes = shows.scopes;
        told = shows.told;
      }) is

  -- a signal is taken
  signal_so : (a : ℕ) (activity : Activity) (y : Tally) (v : Bool) (xs ys : List (Option Bool)) (f f' : Fields)
      (t t' : Told) (x : m.Scene) → slice_get (out-Graph g).activities a ≡ Some activity
      → slice_get f.tallies a ≡ Some y
      → Counts y (xs ++ None ∷ ys) → Shows f t x
      → n.TakesSignal ts g path clock a activity (xs ++ Some v ∷ ys) f f' t t'
      → Shows f' t' (m.signalled ts g path clock v (Some a) x)
  signal_so a activity y v xs ys f f' t t' x there at counts shows is =
      let took = is.takes in
      let same : took.tally ≡ m.with_value v y = valued y took.tally v xs ys counts took.counts in
      let read : slice_get x.row.tallies a ≡ Some y = ap (λ (r : Row). slice_get r.tallies a) shows.row ∙ at in
      let row : m.with_signal v a (slice_get x.row.tallies a) x.row ≡ row_of is.middle =
      ap (λ z. m.with_signal v a z x.row) read
      ∙ ap (λ (r : Row). record r { tallies = slice_set r.tallies a (m.with_value v y) }) shows.row
      ∙ ap (λ z. record (row_of f) { tallies = slice_set f.tallies a z }) (sym same)
      ∙ ap row_of (sym took.scope) in
      let middle : Shows is.middle t (m.with_row_of (m.with_signal v a (slice_get x.row.tallies a) x.row) x) = record {
        row = row;
        scopes = λ q p. shows.scopes q p
            ∙ ap (λ (u : Fields). option_and_then (λ s. scopes_of s p) (inner_at u.states q.0 q.1))
            (sym took.scope);
        told = shows.told;
      } in
      decides_so a activity took.tally (xs ++ Some v ∷ ys) is.middle f' t t'
      (m.with_row_of (m.with_signal v a (slice_get x.row.tallies a) x.row) x) there
      (ap (λ (u : Fields). slice_get u.tallies a) took.scope ∙ put_read f.tallies a y took.tally at) took.counts middle
      is.decides

  -- an attempt is completed
  completed_by_so : (b : Bool) (a : ℕ) (activity : Activity) (p : State) (c : Completed) (f f' : Fields) (t t' : Told)
      (x : m.Scene) → slice_get f.states a ≡ Some (Program p) → Shows f t x
      → n.CompletesBy b g path clock a activity p c f f' t t'
      → Shows f' t' (m.completes_by b g path clock a activity p c x)
  completed_by_so true a activity p c f f' t t' x at shows is =
      let stands = stands_so f t x a (Program p) (Program (completed p c true clock)) at (λ i. refl) shows in
      unmoved (n.settled a (end.Finished c.output) (with_state a (Program (completed p c true clock)) f)) f'
      (n.tell_settled g path a (end.Finished c.output) (f.unsettled - 1) t) t'
      (m.completes_by true g path clock a activity p c x)
      (settles_so (with_state a (Program (completed p c true clock)) f) t
      (m.with_row_of (record x.row {
        standings = slice_set x.row.standings a
            (Item (completed p c true clock));
      }) x) g path a (end.Finished c.output) stands) is
  completed_by_so false a activity p c f f' t t' x at shows is =
      let stands = stands_so f t x a (Program p) (Program (completed p c false clock)) at (λ i. refl) shows in
      record {
        row = stands.row ∙ ap row_of (sym is.0);
        scopes = λ q r. stands.scopes q r ∙ ap (λ (u : Fields). scopes_in u (q ∷ r)) (sym is.0);
        told =
            ap (λ (u : m.Told). record u {
              ready = u.ready
                  ++ m.ready_item path activity.name (fate_of (completed p c false clock));
            }) shows.told
            ∙ ap told_as (sym is.1);
      }

  completes_so : (a : ℕ) (activity : Activity) (p : State) (c : Completed) (f f' : Fields) (t t' : Told) (x : m.Scene)
      → slice_get (out-Graph g).activities a ≡ Some activity → slice_get f.states a ≡ Some (Program p) → Shows f t x
      → n.Completes g path clock a activity p c f f' t t' → Shows f' t' (m.completes g path clock c (Some a) x)
  completes_so a activity p c f f' t t' x there at shows is =
      subst (λ z. Shows f' t' (m.completes_at g path clock a c z (slice_get x.row.standings a) x)) (sym there)
      (subst (λ z. Shows f' t' (m.completes_at g path clock a c (Some activity) z x))
      (sym (standing_read f t x a (Program p) shows at))
      (completed_by_so (holds activity.exit c.output) a activity p c f f' t t' x at shows is))

  -- the scope of an attempt has ended
  ended_by_so : (b : Bool) (h : Graph) (a : ℕ) (activity : Activity) (k : NestedState) (out : Container)
      (f f' : Fields) (t t' : Told) (x : m.Scene) → slice_get f.states a ≡ Some (Nested k) → Shows f t x
      → n.EndsBy b g h path a activity (Nested k) out f f' t t'
      → Shows f' t' (m.ends_by b g h path a activity (standing_of (Nested k)) out x)
  ended_by_so true h a activity k out f f' t t' x at shows is =
      unmoved (n.finishes a out f) f' (n.tell_settled g path a (end.Finished out) (f.unsettled - 1) t) t'
      (m.ends_by true g h path a activity (standing_of (Nested k)) out x) (finishes_so f t x g path a out shows) is
  ended_by_so false h a activity k out f f' t t' x at shows is =
      subst (λ base. Shows f' t' (m.begins_next h (looped (out-Graph g).loops a out base) path a activity
      (length (out-NestedState k).scopes.items) x)) (sym (base_so f t x g a activity shows))
      (begins_next_so h (looped (out-Graph g).loops a out
      (base_of g activity a f.input (ends_of f.ends))) path a activity k f f' t t' x at shows is)

  row_of_attempt : (f : Fields) (t : Told) (x : m.Scene) (a : ℕ) (k : NestedState) (inner : ScopeState) (o : Option ℕ)
      → slice_get f.states a ≡ Some (Nested k) → Shows f t x
      → option_and_then (slice_get (out-NestedState k).scopes.items) o ≡ Some inner
      → m.row_inside a o x.scopes ≡ Some (row_of (fields inner))
  row_of_attempt f t x a k inner None at shows has = let never : None ≡ Some inner = has in cc
  row_of_attempt f t x a k inner (Some i) at shows has =
      shows.scopes (a, i) [] ∙ rw at (ap (option_and_then (λ s. scopes_of s [])) has)

  ends_so : (h : Graph) (a j : ℕ) (activity : Activity) (was : ActivityState) (inner : ScopeState) (f f' : Fields)
      (t t' : Told) (x : m.Scene) → slice_get (out-Graph g).activities a ≡ Some activity
      → slice_get f.states a ≡ Some was
      → graph_in ts activity.work ≡ Some h → scope_of was j ≡ Some inner → Shows f t x
      → n.EndsAttempt g h path a activity was (n.given_by h inner) f f' t t'
      → Shows f' t' (m.ended ts g path j (Some a) x)
  ends_so h a j activity (Program p) inner f f' t t' x there at runs has shows is =
      let never : None ≡ Some inner = has in cc
  ends_so h a j activity (Nested k) inner f f' t t' x there at runs has shows is =
      subst (λ z. Shows f' t' (m.ends_at ts g path j a z x)) (sym there)
      (subst (λ z. Shows f' t' (m.ends_from g path a activity z (graph_in ts activity.work)
      (m.row_inside a (attempt_place j) x.scopes) x)) (sym (standing_read f t x a (Nested k) shows at))
      (subst (λ z. Shows f' t' (m.ends_from g path a activity (Some (standing_of (Nested k))) z
      (m.row_inside a (attempt_place j) x.scopes) x)) (sym runs)
      (subst (λ z. Shows f' t' (m.ends_from g path a activity (Some (standing_of (Nested k))) (Some h) z x))
      (sym (row_of_attempt f t x a k inner (attempt_place j) at shows has))
      (ended_by_so (holds activity.exit (n.given_by h inner)) h a activity k
      (n.given_by h inner) f f' t t' x at shows is))))

-- ---- an event

-- a scope as a scene begins
first_shows : (s : ScopeState) → Shows (fields s) e.nothing (record {
  row = row_of (fields s);
  scopes = scopes_of s;
  told = m.nothing;
})
first_shows s = record { row = refl; scopes = λ q p. refl; told = refl }

-- as a scene leaves it
left_so : (s' : ScopeState) (t : Told) (x : m.Scene) → Shows (fields s') t x
    → m.as_left x ≡ record { scopes = scopes_of s'; told = told_as t }
left_so s' t x shows = λ i. record { scopes = fun_ext scopes i; told = shows.told i }
  where
    scopes : (p : List Step) → with_row x.row x.scopes p ≡ scopes_of s' p
    scopes [] = ap Some shows.row
    scopes (q ∷ p) = shows.scopes q p

pub received_so : (ts : List Template) (path : Path) (clock : ℕ) (event : e.Happening) (g : Graph) (s s' : ScopeState)
    (after : Told) → Meets ts event g s → e.Receives ts path clock event e.nothing after g s s'
    → Shows (fields s') after (m.received ts path clock (as_move event) g
    (record { row = row_of (fields s); scopes = scopes_of s; told = m.nothing }))
received_so ts path clock e.Begins g s s' after meets is =
    begins_all_so ts g path clock meets.values (fields s) (fields s') e.nothing after
    (record { row = row_of (fields s); scopes = scopes_of s; told = m.nothing }) meets.tallied (first_shows s)
    (is meets.values meets.tallied)
received_so ts path clock (e.Signals name v) g s s' after meets is =
    subst (λ z. Shows (fields s') after (m.signalled ts g path clock v z
    (record { row = row_of (fields s); scopes = scopes_of s; told = m.nothing }))) (sym meets.named)
    (signal_so ts g path clock meets.place meets.activity meets.tally v meets.before meets.behind (fields s)
    (fields s') e.nothing after (record { row = row_of (fields s); scopes = scopes_of s; told = m.nothing })
    meets.there meets.tallied meets.counts (first_shows s)
    (is meets.place meets.activity meets.tally meets.before meets.behind meets.named meets.there meets.tallied
    meets.counts))
received_so ts path clock (e.Ends name j) g s s' after meets is =
    let has : scope_of meets.was j ≡ Some meets.inner = sym (ap
    (option_and_then (λ state. scope_of state j)) meets.stands) ∙ meets.has in
    subst (λ z. Shows (fields s') after (m.ended ts g path j z
    (record { row = row_of (fields s); scopes = scopes_of s; told = m.nothing }))) (sym meets.named)
    (ends_so ts g path clock meets.graph meets.place j meets.activity meets.was meets.inner (fields s)
    (fields s') e.nothing after (record { row = row_of (fields s); scopes = scopes_of s; told = m.nothing })
    meets.there meets.stands meets.runs has (first_shows s)
    (is meets.place meets.activity meets.was meets.graph meets.inner meets.named meets.there meets.stands
    meets.runs meets.sinking meets.has))
received_so ts path clock (e.Completes name c) g s s' after meets is =
    subst (λ z. Shows (fields s') after (m.completes g path clock c z
    (record { row = row_of (fields s); scopes = scopes_of s; told = m.nothing }))) (sym meets.named)
    (completes_so ts g path clock meets.place meets.activity meets.state c (fields s) (fields s') e.nothing after
    (record { row = row_of (fields s); scopes = scopes_of s; told = m.nothing })
    meets.there meets.stands (first_shows s)
    (is meets.place meets.activity meets.state meets.named meets.there meets.stands))

usable : (ts : List Template) (event : e.Happening) (g : Graph) (s : ScopeState) → Meets ts event g s → e.IsUsable g
usable ts e.Begins g s meets = meets.usable
usable ts (e.Signals name v) g s meets = meets.usable
usable ts (e.Ends name j) g s meets = meets.usable
usable ts (e.Completes name c) g s meets = meets.usable

pub events_are_moves : (ts : List Template) (path : Path) (clock : ℕ) (event : e.Happening) (g : Graph)
    (s s' : ScopeState) (given : List Message) (items : List Path)
    → Along ts (Meets ts event) path.parts g s → e.Happens ts path clock event g s s' given items
    → IsAsMoved s' given items (m.happens ts path clock (as_move event) g (scopes_of s))
events_are_moves ts path clock event g s s' given items along is =
    let same = goes_in ts (λ h t t'. e.IsUsable h → e.Receives ts path clock event e.nothing is.tells h t t')
    (m.receives ts path clock (as_move event)) (Meets ts event) (told_as is.tells)
    (λ h u u' meets receives. left_so u' is.tells
    (m.received ts path clock (as_move event) h
    (record { row = row_of (fields u); scopes = scopes_of u; told = m.nothing }))
    (received_so ts path clock event h u u' is.tells meets (receives (usable ts event h u meets))))
    path.parts g s s' along is.changes in
    record {
      scopes = ap (λ (o : m.Outcome). o.scopes) same;
      gives = is.messages ∙ ap (λ (o : m.Outcome). m.given_of o.told) (sym same);
      ready = is.ready ∙ ap (λ (o : m.Outcome). o.told.ready) (sym same);
    }
