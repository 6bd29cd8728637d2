-- What an event does to a scope in bounds: no activity has more than one scope more, and what follows fits.
use Rattle.std.proofs.Common.{◌≡◌, ℕ, zero, suc, ◌+◌, ◌-◌, ◌^◌, ◌<◌, ◌≤◌, ◌==◌, ◌&&◌, nat_lt, Bool, true, false, not, List, [], ◌∷◌, ◌++◌}
use Rattle.std.proofs.Common.{length, map, Option, Some, None, refl, sym, ap, subst, arith}
use Rattle.std.specs.List.{All, filter, filter_map, cons_option}
use Rattle.std.specs.Prelude.{slice_get, slice_set, if◌then◌else◌}
use Rattle.std.proofs.lemmas.Bool.{eq-eqb}
use Rattle.std.proofs.lemmas.Bool.Decides.{nat_tests}
use Rattle.std.proofs.lemmas.List.Elements.{All-nil, All-cons, All-append}
use Rattle.std.proofs.lemmas.Option.{none-some}
use Rattle.activity_states.specs.States.{State, completed, made_ready}
use Rattle.activity_states.specs.declared.states.Completed.{Completed}
use Rattle.blocks_subprocs.specs.Ends.{ends_of}
use Rattle.dead_paths.specs.Signals.{signal, signal_of, signals}
use Rattle.dead_paths.specs.declared.joins.Tally.{Tally}
use Rattle.flow_model.specs.Conditions.{holds}
use Rattle.flow_model.specs.Fates.{connector_value}
use Rattle.flow_model.specs.Rows.{below}
use Rattle.flow_model.specs.ScopeContainers.{graph_in, base_of, looped}
use Rattle.flow_model.specs.Scopes.{part}
use Rattle.flow_model.specs.declared.graphs.Activity.{Activity}
use Rattle.flow_model.specs.declared.graphs.Container.{Container}
use Rattle.flow_model.specs.declared.graphs.Control.{Control}
use Rattle.flow_model.specs.declared.graphs.Graph.{Graph, out-Graph}
use Rattle.flow_model.specs.declared.graphs.Template.{Template}
use Rattle.flow_model.specs.declared.graphs.Work.{Work, Program, Block, Process}
use Rattle.flow_model.specs.declared.instances.Message.{Message}
use Rattle.flow_model.specs.declared.instances.Message.TheVariants.{Begin, Signal, End}
use Rattle.flow_model.specs.declared.instances.Part.{Part}
use Rattle.flow_model.specs.declared.instances.Path.{Path}
use Rattle.flow_model.specs.declared.instances.SourceEnd.{SourceEnd}
use Rattle.flow_model.specs.declared.instances.SourceEnd.TheVariants as end
use Rattle.flow_txn.specs.Ranges.{IsName, PartFits, PathFits, MessageFits}
use Rattle.machine.specs.Moves.{Scene, with_row_of, joined_by, one_if, changed_at, changed, end_after}
use Rattle.machine.specs.Moves.{is_root, settles, dead_standing, dies, begins_next, begins, opens, decided, decided_by, decides, decides_first}
use Rattle.machine.specs.Moves.{begun, with_signal as counted_signal, signalled, completes_by, completes_at, completes, given_by, finished_standing, scopes_had}
use Rattle.machine.specs.Moves.{ends_by, ends_from, row_inside, ends_at, ended, Happening, Begins, Signals, Ends, Completes, received}
use Rattle.machine.specs.Rows.{Standing, Item, Inner, Runs, Row, Scopes, only, with_row, with_inside, place_of, attempt_place}
use Rattle.machine.specs.Rows.{fresh_standing, fresh_row}
use Rattle.machine_scopes.proofs.Lists.{push_long}
use Rattle.range_laws.specs.Bounds.{IsInBounds}
use Rattle.range_laws.specs.Standing.{HaveHad, HaveHadAtMost}

pub some_is : {X : Type 0} (x y : X) → Some x ≡ Some y → x ≡ y
some_is x y is = cc

-- ---- rows

had_put : (most : ℕ → ℕ) (xs : List Standing) (a : ℕ) (y : Standing) → HaveHad most xs → scopes_had y ≤ most a
    → HaveHad most (slice_set xs a y)
had_put most [] a y all one = all
had_put most (x ∷ xs) zero y all one = go
  where
    go : HaveHad most (y ∷ xs)
    go zero z at = subst (λ (w : Standing). scopes_had w ≤ most 0) (some_is y z at) one
    go (suc i) z at = all (suc i) z at
had_put most (x ∷ xs) (suc a) y all one =
    go (had_put (λ i. most (suc i)) xs a y (λ i z at. all (suc i) z at) one)
  where
    go : HaveHad (λ i. most (suc i)) (slice_set xs a y) → HaveHad most (x ∷ slice_set xs a y)
    go rest zero z at = all zero z at
    go rest (suc i) z at = rest i z at

pub had_changed : (most : ℕ → ℕ) (change : Standing → Standing) → ((x : Standing) → scopes_had (change x) ≡ scopes_had x)
    → (a : ℕ) (r : Row) → HaveHad most r.standings → HaveHad most (changed change a r).standings
had_changed most change same a r all = go (slice_get r.standings a) refl
  where
    go : (o : Option Standing) → slice_get r.standings a ≡ o → HaveHad most (changed_at change a o r).standings
    go None at = all
    go (Some x) at =
        had_put most r.standings a (change x) all
        (subst (λ (n : ℕ). n ≤ most a) (sym (same x)) (all a x at))

pub had_weaker : (most more : ℕ → ℕ) → ((a : ℕ) → most a ≤ more a) → (xs : List Standing) → HaveHad most xs
    → HaveHad more xs
had_weaker most more le xs all a x at =
    let first = all a x at in
    let second = le a in
    omega (arith, first, second)

fresh_had : (most : ℕ → ℕ) (activities : List Activity)
    → HaveHad most (map (λ activity. fresh_standing activity.work) activities)
fresh_had most [] a x at = absurd (none-some x at)
fresh_had most (activity ∷ more) zero x at =
    subst (λ (y : Standing). scopes_had y ≤ most 0) (some_is _ x at) (by_work activity.work)
  where
    by_work : (work : Work) → scopes_had (fresh_standing work) ≤ most 0
    by_work (Program p) = omega arith
    by_work (Block g) = omega arith
    by_work (Process t) = omega arith
fresh_had most (activity ∷ more) (suc a) x at = fresh_had (λ i. most (suc i)) more a x at

-- ---- scopes

pub counted_weaker : (n m : ℕ) → n ≤ m → (s : Scopes) → HaveHadAtMost n s → HaveHadAtMost m s
counted_weaker n m le s all steps r is = had_weaker (λ a. n) (λ a. m) (λ a. le) r.standings (all steps r is)

pub fresh_counted : (n : ℕ) (h : Graph) (input : Container) → HaveHadAtMost n (only (fresh_row h input))
fresh_counted n h input [] r is =
    subst (λ (x : Row). HaveHad (λ a. n) x.standings) (some_is (fresh_row h input) r is)
    (fresh_had (λ a. n) (out-Graph h).activities)
fresh_counted n h input (q ∷ p) r is = absurd (none-some r is)

pub inside_counted : (n a i : ℕ) (inner s : Scopes) → HaveHadAtMost n inner → HaveHadAtMost n s
    → HaveHadAtMost n (with_inside a i inner s)
inside_counted n a i inner s within all [] r is = all [] r is
inside_counted n a i inner s within all (q ∷ p) r is = go ((q.0 == a) && (q.1 == i)) is
  where
    go : (b : Bool) → (if b then inner p else s (q ∷ p)) ≡ Some r → HaveHad (λ a. n) r.standings
    go true at = within p r at
    go false at = all (q ∷ p) r at

pub row_counted : (n : ℕ) (x : Row) (s : Scopes) → HaveHad (λ a. n) x.standings → HaveHadAtMost n s
    → HaveHadAtMost n (with_row x s)
row_counted n x s here all [] r is = subst (λ (y : Row). HaveHad (λ a. n) y.standings) (some_is x r is) here
row_counted n x s here all (q ∷ p) r is = all (q ∷ p) r is

-- ---- paths

pub below_fits : (path : Path) (q : Part) → PathFits path → length path.parts ≤ 16 → PartFits q
    → PathFits (below path q)
below_fits path q fits shallow one =
    let long : length (path.parts ++ q ∷ []) ≡ length path.parts + 1 = push_long path.parts q in
    let few : length (path.parts ++ q ∷ []) < 2 ^ 8 = omega (arith, long, shallow) in
    (fits.0, few, All-append PartFits path.parts (q ∷ []) fits.2 (All-cons PartFits q [] one (All-nil PartFits)))

-- ---- what follows fits

-- a scene whose activities have had as many scopes as this says, all other scopes as many as this number
pub record SceneFits (most : ℕ → ℕ) (n : ℕ) (x : Scene) : Type 0 where
  pub standings : HaveHad most x.row.standings
  pub scopes : HaveHadAtMost n x.scopes
  pub signals : All MessageFits x.told.signals
  pub begins : All MessageFits x.told.begins
  pub ends : All MessageFits x.told.ends

scene_weaker : (most more : ℕ → ℕ) (n : ℕ) → ((a : ℕ) → most a ≤ more a) → (x : Scene) → SceneFits most n x
    → SceneFits more n x
scene_weaker most more n le x fits = record {
  standings = had_weaker most more le x.row.standings fits.standings;
  scopes = fits.scopes;
  signals = fits.signals;
  begins = fits.begins;
  ends = fits.ends;
}

-- one more at a place
abbrev more : (ℕ → ℕ) → ℕ → ℕ → ℕ
more most a i = most i + one_if (i == a)

more_here : (most : ℕ → ℕ) (a : ℕ) → more most a a ≡ most a + 1
more_here most a = ap (λ b. most a + one_if b) (eq-eqb a a refl)

no_less : (most : ℕ → ℕ) (a i : ℕ) → most i ≤ more most a i
no_less most a i = omega arith

one_most : (b : Bool) → one_if b ≤ 1
one_most true = omega arith
one_most false = omega arith

module _ (ts : List Template) (levels : ℕ) (g : Graph) (here : IsInBounds ts (suc levels) g) (path : Path)
    (fits : PathFits path) (shallow : length path.parts ≤ 16) (n : ℕ) where
  name_at : (a : ℕ) (activity : Activity) → slice_get (out-Graph g).activities a ≡ Some activity
      → IsName activity.name
  name_at a activity at = (here.each a activity at).named

  -- ---- signals

  signal_fits : (e : SourceEnd) (c : Control) (m : Message) → signal_of g path e c ≡ Some m → MessageFits m
  signal_fits e c m is =
      go (slice_get (out-Graph g).activities c.from) refl (slice_get (out-Graph g).activities c.to) refl
      (connector_value (out-Graph g).controls c e) is
    where
      go : (x : Option Activity) → slice_get (out-Graph g).activities c.from ≡ x → (y : Option Activity)
          → slice_get (out-Graph g).activities c.to ≡ y → (v : Option Bool) → signal path x y v ≡ Some m
          → MessageFits m
      go None at y to v none = absurd (none-some m none)
      go (Some x) at None to v none = absurd (none-some m none)
      go (Some x) at (Some y) to None none = absurd (none-some m none)
      go (Some x) at (Some y) to (Some v) one =
          subst MessageFits (some_is (Signal path x.name y.name v) m one)
          (fits, name_at c.from x at, name_at c.to y to)

  with_signal : (o : Option Message) (ms : List Message) → ((m : Message) → o ≡ Some m → MessageFits m)
      → All MessageFits ms → All MessageFits (cons_option o ms)
  with_signal None ms one all = all
  with_signal (Some m) ms one all = All-cons MessageFits m ms (one m refl) all

  all_signals : (e : SourceEnd) (cs : List Control) → All MessageFits (filter_map (signal_of g path e) cs)
  all_signals e [] = All-nil MessageFits
  all_signals e (c ∷ cs) =
      with_signal (signal_of g path e c) (filter_map (signal_of g path e) cs) (signal_fits e c) (all_signals e cs)

  end_fits : (left : ℕ) → All MessageFits (end_after path left)
  end_fits left = go ((left == 0) && not (is_root path.parts))
    where
      go : (b : Bool) → All MessageFits (if b then End path ∷ [] else [])
      go true = All-cons MessageFits (End path) [] fits (All-nil MessageFits)
      go false = All-nil MessageFits

  -- ---- an activity is settled

  settles_fits : (most : ℕ → ℕ) (a : ℕ) (e : SourceEnd) (x : Scene) → SceneFits most n x
      → SceneFits most n (settles g path a e x)
  settles_fits most a e x ok = record {
    standings = ok.standings;
    scopes = ok.scopes;
    signals = All-append MessageFits x.told.signals (signals g path a e) ok.signals
        (all_signals e (filter (λ c. c.from == a) (out-Graph g).controls));
    begins = ok.begins;
    ends = All-append MessageFits x.told.ends (end_after path (x.row.unsettled - 1)) ok.ends
        (end_fits (x.row.unsettled - 1));
  }

  with_row_fits : (most : ℕ → ℕ) (r : Row) (x : Scene) → HaveHad most r.standings → SceneFits most n x
      → SceneFits most n (with_row_of r x)
  with_row_fits most r x had ok = record {
    standings = had;
    scopes = ok.scopes;
    signals = ok.signals;
    begins = ok.begins;
    ends = ok.ends;
  }

  dead_same : (x : Standing) → scopes_had (dead_standing x) ≡ scopes_had x
  dead_same (Item p) = refl
  dead_same (Inner stage k) = refl

  finished_same : (x : Standing) → scopes_had (finished_standing x) ≡ scopes_had x
  finished_same (Item p) = refl
  finished_same (Inner stage k) = refl

  dies_fits : (most : ℕ → ℕ) (a : ℕ) (x : Scene) → SceneFits most n x → SceneFits most n (dies g path a x)
  dies_fits most a x ok =
      settles_fits most a end.Dead (with_row_of (changed dead_standing a x.row) x)
      (with_row_fits most (changed dead_standing a x.row) x
      (had_changed most dead_standing dead_same a x.row ok.standings) ok)

  -- ---- an attempt begins

  -- the activity at a place has another state, which has had no more scopes than its bound
  stands_fits : (most : ℕ → ℕ) (a : ℕ) (y : Standing) (x : Scene) → scopes_had y ≤ most a → SceneFits most n x
      → SceneFits most n (with_row_of (record x.row { standings = slice_set x.row.standings a y }) x)
  stands_fits most a y x le ok =
      with_row_fits most (record x.row { standings = slice_set x.row.standings a y }) x
      (had_put most x.row.standings a y ok.standings le) ok

  next_fits : (most : ℕ → ℕ) (h : Graph) (input : Container) (a : ℕ) (activity : Activity) (k : ℕ) (x : Scene)
      → IsName activity.name → k + 1 < 2 ^ 64 → k + 1 ≤ most a → SceneFits most n x
      → SceneFits most n (begins_next h input path a activity k x)
  next_fits most h input a activity k x named small le ok =
      let least : 1 ≤ k + 1 = omega arith in
      record {
        standings = had_put most x.row.standings a (Inner Runs (k + 1)) ok.standings le;
        scopes = inside_counted n a k (only (fresh_row h input)) x.scopes (fresh_counted n h input) ok.scopes;
        signals = ok.signals;
        begins = All-append MessageFits x.told.begins (Begin (below path (part activity.name (k + 1))) ∷ []) ok.begins
            (All-cons MessageFits (Begin (below path (part activity.name (k + 1)))) []
            (below_fits path (part activity.name (k + 1)) fits shallow (named, (least, small))) (All-nil MessageFits));
        ends = ok.ends;
      }

  begins_fits : (most : ℕ → ℕ) (o : Option Graph) (input : Container) (a : ℕ) (activity : Activity) (k : ℕ)
      (x : Scene) → IsName activity.name → k + 1 < 2 ^ 64 → k + 1 ≤ most a → SceneFits most n x
      → SceneFits most n (begins o input path a activity k x)
  begins_fits most None input a activity k x named small le ok = ok
  begins_fits most (Some h) input a activity k x named small le ok =
      next_fits most h input a activity k x named small le ok

  opens_fits : (most : ℕ → ℕ) (clock a : ℕ) (activity : Activity) (o : Option Standing) (x : Scene)
      → slice_get x.row.standings a ≡ o → IsName activity.name → most a + 1 < 2 ^ 64 → SceneFits most n x
      → SceneFits (more most a) n (opens ts g path clock a activity o x)
  opens_fits most clock a activity None x at named small ok =
      scene_weaker most (more most a) n (no_less most a) x ok
  opens_fits most clock a activity (Some (Item p)) x at named small ok =
      let wide = scene_weaker most (more most a) n (no_less most a) x ok in
      record {
        standings = had_put (more most a) x.row.standings a (Item (made_ready p clock)) wide.standings (omega arith);
        scopes = wide.scopes;
        signals = wide.signals;
        begins = wide.begins;
        ends = wide.ends;
      }
  opens_fits most clock a activity (Some (Inner stage k)) x at named small ok =
      let le = ok.standings a (Inner stage k) at in
      let one = more_here most a in
      begins_fits (more most a) (graph_in ts activity.work) (base_of g activity a x.row.input (ends_of x.row.ends)) a
      activity k x named (omega (arith, le, small)) (omega (arith, le, one))
      (scene_weaker most (more most a) n (no_less most a) x ok)

  -- ---- a join

  decided_fits : (most : ℕ → ℕ) (clock a : ℕ) (activity : Activity) (o : Option Bool) (x : Scene)
      → IsName activity.name → most a + 1 < 2 ^ 64 → SceneFits most n x
      → SceneFits (more most a) n (decided ts g path clock a activity o x)
  decided_fits most clock a activity None x named small ok =
      scene_weaker most (more most a) n (no_less most a) x ok
  decided_fits most clock a activity (Some true) x named small ok =
      opens_fits most clock a activity (slice_get x.row.standings a) x refl named small ok
  decided_fits most clock a activity (Some false) x named small ok =
      dies_fits (more most a) a x (scene_weaker most (more most a) n (no_less most a) x ok)

  decides_fits : (most : ℕ → ℕ) (clock a : ℕ) (x : Scene) → most a + 1 < 2 ^ 64 → SceneFits most n x
      → SceneFits (more most a) n (decides ts g path clock a x)
  decides_fits most clock a x small ok =
      go (slice_get (out-Graph g).activities a) refl (slice_get x.row.tallies a)
    where
      go : (o : Option Activity) → slice_get (out-Graph g).activities a ≡ o → (t : Option Tally)
          → SceneFits (more most a) n (decided_by ts g path clock a o t x)
      go None at t = scene_weaker most (more most a) n (no_less most a) x ok
      go (Some activity) at None = scene_weaker most (more most a) n (no_less most a) x ok
      go (Some activity) at (Some t) =
          decided_fits most clock a activity (joined_by activity.join t) x (name_at a activity at) small ok

  -- ---- a scope begins

  module _ (before : ℕ) (small : before + 2 < 2 ^ 64) where
    -- the first places have one more
    abbrev first : ℕ → ℕ → ℕ
    first m i = before + one_if (nat_lt i m)

    one_further : (m i : ℕ) → more (first m) m i ≤ first (suc m) i
    one_further m i = grind (arith, nat_tests)

    decides_first_fits : (clock m : ℕ) (x : Scene) → SceneFits (λ i. before) n x
        → SceneFits (first m) n (decides_first ts g path clock m x)
    decides_first_fits clock zero x ok = scene_weaker (λ i. before) (first 0) n (λ i. omega arith) x ok
    decides_first_fits clock (suc m) x ok =
        let most = one_most (nat_lt m m) in
        let room : first m m + 1 < 2 ^ 64 = omega (arith, most, small) in
        scene_weaker (more (first m) m) (first (suc m)) n (one_further m)
        (decides ts g path clock m (decides_first ts g path clock m x))
        (decides_fits (first m) clock m (decides_first ts g path clock m x) room (decides_first_fits clock m x ok))

    -- one more at any place
    abbrev after : ℕ → ℕ
    after i = before + 1

    begun_fits : (clock : ℕ) (x : Scene) → SceneFits (λ i. before) n x → SceneFits after n (begun ts g path clock x)
    begun_fits clock x ok =
        let count = length (out-Graph g).activities in
        let opened = record x.row { begun = true } in
        scene_weaker (first count) after n (λ i. let most = one_most (nat_lt i count) in omega (arith, most))
        (begun ts g path clock x)
        (decides_first_fits clock count (with_row_of opened x) (with_row_fits (λ i. before) opened x ok.standings ok))

    -- ---- a signal

    signal_had : (v : Bool) (a : ℕ) (o : Option Tally) (r : Row) → HaveHad (λ i. before) r.standings
        → HaveHad (λ i. before) (counted_signal v a o r).standings
    signal_had v a None r had = had
    signal_had v a (Some t) r had = had

    signalled_fits : (clock : ℕ) (v : Bool) (o : Option ℕ) (x : Scene) → SceneFits (λ i. before) n x
        → SceneFits after n (signalled ts g path clock v o x)
    signalled_fits clock v None x ok = scene_weaker (λ i. before) after n (λ i. omega arith) x ok
    signalled_fits clock v (Some a) x ok =
        let r = counted_signal v a (slice_get x.row.tallies a) x.row in
        scene_weaker (more (λ i. before) a) after n (λ i. let most = one_most (i == a) in omega (arith, most))
        (decides ts g path clock a (with_row_of r x))
        (decides_fits (λ i. before) clock a (with_row_of r x) (omega (arith, small))
        (with_row_fits (λ i. before) r x (signal_had v a (slice_get x.row.tallies a) x.row ok.standings) ok))

    -- ---- a completion

    abbrev wide : (x : Scene) → SceneFits (λ i. before) n x → SceneFits after n x
    wide x ok = scene_weaker (λ i. before) after n (λ i. omega arith) x ok

    completes_by_fits : (b : Bool) (clock a : ℕ) (activity : Activity) (p : State) (c : Completed) (x : Scene)
        → SceneFits (λ i. before) n x → SceneFits after n (completes_by b g path clock a activity p c x)
    completes_by_fits true clock a activity p c x ok =
        settles_fits after a (end.Finished c.output)
        (with_row_of (record x.row { standings = slice_set x.row.standings a (Item (completed p c true clock)) }) x)
        (stands_fits after a (Item (completed p c true clock)) x (omega arith) (wide x ok))
    completes_by_fits false clock a activity p c x ok =
        record {
          standings = had_put after x.row.standings a (Item (completed p c false clock)) (wide x ok).standings
              (omega arith);
          scopes = ok.scopes;
          signals = ok.signals;
          begins = ok.begins;
          ends = ok.ends;
        }

    completes_at_fits : (clock a : ℕ) (c : Completed) (o : Option Activity) (s : Option Standing) (x : Scene)
        → SceneFits (λ i. before) n x → SceneFits after n (completes_at g path clock a c o s x)
    completes_at_fits clock a c None s x ok = wide x ok
    completes_at_fits clock a c (Some activity) None x ok = wide x ok
    completes_at_fits clock a c (Some activity) (Some (Item p)) x ok =
        completes_by_fits (holds activity.exit c.output) clock a activity p c x ok
    completes_at_fits clock a c (Some activity) (Some (Inner stage k)) x ok = wide x ok

    completes_fits : (clock : ℕ) (c : Completed) (o : Option ℕ) (x : Scene) → SceneFits (λ i. before) n x
        → SceneFits after n (completes g path clock c o x)
    completes_fits clock c None x ok = wide x ok
    completes_fits clock c (Some a) x ok =
        completes_at_fits clock a c (slice_get (out-Graph g).activities a) (slice_get x.row.standings a) x ok

    -- ---- an attempt has ended

    ends_by_fits : (b : Bool) (h : Graph) (a : ℕ) (activity : Activity) (was : Standing) (out : Container) (x : Scene)
        → slice_get x.row.standings a ≡ Some was → IsName activity.name → SceneFits (λ i. before) n x
        → SceneFits after n (ends_by b g h path a activity was out x)
    ends_by_fits true h a activity was out x at named ok =
        settles_fits after a (end.Finished out) (with_row_of (changed finished_standing a x.row) x)
        (with_row_fits after (changed finished_standing a x.row) x
        (had_changed after finished_standing finished_same a x.row (wide x ok).standings) (wide x ok))
    ends_by_fits false h a activity was out x at named ok =
        let le = ok.standings a was at in
        next_fits after h (looped (out-Graph g).loops a out (base_of g activity a x.row.input (ends_of x.row.ends))) a
        activity (scopes_had was) x named (omega (arith, le, small)) (omega (arith, le)) (wide x ok)

    ends_from_fits : (a : ℕ) (activity : Activity) (o : Option Standing) (h : Option Graph) (r : Option Row)
        (x : Scene) → slice_get x.row.standings a ≡ o → IsName activity.name → SceneFits (λ i. before) n x
        → SceneFits after n (ends_from g path a activity o h r x)
    ends_from_fits a activity None h r x at named ok = wide x ok
    ends_from_fits a activity (Some was) None r x at named ok = wide x ok
    ends_from_fits a activity (Some was) (Some h) None x at named ok = wide x ok
    ends_from_fits a activity (Some was) (Some h) (Some r) x at named ok =
        ends_by_fits (holds activity.exit (given_by h r)) h a activity was (given_by h r) x at named ok

    ends_at_fits : (j a : ℕ) (o : Option Activity) (x : Scene) → slice_get (out-Graph g).activities a ≡ o
        → SceneFits (λ i. before) n x → SceneFits after n (ends_at ts g path j a o x)
    ends_at_fits j a None x at ok = wide x ok
    ends_at_fits j a (Some activity) x at ok =
        ends_from_fits a activity (slice_get x.row.standings a) (graph_in ts activity.work)
        (row_inside a (attempt_place j) x.scopes) x refl (name_at a activity at) ok

    ended_fits : (j : ℕ) (o : Option ℕ) (x : Scene) → SceneFits (λ i. before) n x
        → SceneFits after n (ended ts g path j o x)
    ended_fits j None x ok = wide x ok
    ended_fits j (Some a) x ok = ends_at_fits j a (slice_get (out-Graph g).activities a) x refl ok

    -- ---- what happens

    pub received_fits : (clock : ℕ) (e : Happening) (x : Scene) → SceneFits (λ i. before) n x
        → SceneFits after n (received ts path clock e g x)
    received_fits clock Begins x ok = begun_fits clock x ok
    received_fits clock (Signals name v) x ok = signalled_fits clock v (place_of g name) x ok
    received_fits clock (Ends name j) x ok = ended_fits j (place_of g name) x ok
    received_fits clock (Completes name c) x ok = completes_fits clock c (place_of g name) x ok
