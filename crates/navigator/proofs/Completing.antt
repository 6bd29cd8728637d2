-- The completion of an item keeps what a scope shows.
use Rattle.std.proofs.Common.{◌≡◌, ℕ, suc, ◌+◌, ◌≤◌, Bool, true, false, List, [], ◌∷◌, ◌++◌, map, length, Option, Some, cond, refl, ap, sym, ◌∙◌, subst, arith, length-append}
use Rattle.std.specs.Prelude.{◌≢◌, slice_get}
use Rattle.std.proofs.Math.Path.{fun_ext}
use Rattle.std.proofs.lemmas.List.{map-append}
use Rattle.std.proofs.lemmas.Option.{slice_get_within}
use Rattle.activity_states.specs.States.{State, waiting, dead, opened, finished, completed, after}
use Rattle.activity_states.specs.declared.states.Completed.{Completed}
use Rattle.blocks_subprocs.specs.Ends.{ends_of}
use Rattle.fate_laws.proofs.Items.{part_itself, part_one}
use Rattle.fate_laws.specs.StartedScopes.{Reaches}
use Rattle.fate_laws.specs.WellFormed.{Well}
use Rattle.flow_model.specs.Conditions.{holds}
use Rattle.flow_model.specs.Fates.{Ends, goes_on, is_open}
use Rattle.flow_model.specs.Rows.{same_part}
use Rattle.flow_model.specs.ScopeContainers.{base_of, graph_in}
use Rattle.flow_model.specs.Scopes.{Known, part, Runs, Start, tries, gives, is_fed, trial, attempts, fate_given, started_at, output, tree_ends}
use Rattle.flow_model.specs.declared.graphs.Activity.{Activity}
use Rattle.flow_model.specs.declared.graphs.Container.{Container}
use Rattle.flow_model.specs.declared.graphs.Graph.{Graph, out-Graph}
use Rattle.flow_model.specs.declared.graphs.Program.{Program as ProgramOf}
use Rattle.flow_model.specs.declared.graphs.Template.{Template}
use Rattle.flow_model.specs.declared.graphs.Work.{Work, Program as RunsProgram, Block, Process}
use Rattle.flow_model.specs.declared.instances.Fate.{Fate}
use Rattle.flow_model.specs.declared.instances.Fate.TheVariants.{Waiting, Ready, Finished, Dead}
use Rattle.flow_model.specs.declared.instances.Hold.{Hold}
use Rattle.flow_model.specs.declared.instances.Part.{Part}
use Rattle.flow_model.specs.declared.instances.Path.{Path}
use Rattle.flow_model.specs.declared.instances.SourceEnd.{SourceEnd}
use Rattle.flow_model.specs.declared.instances.SourceEnd.TheVariants as end
use Rattle.navigator.proofs.MoreAttempts.{GivesMore, reached_next}
use Rattle.navigator.proofs.NextAttempt.{fate_then, end_then, IsReadyNext, ready_next, IsNextAttempt, IsOpened, opened_is, open_before, next_attempt}
use Rattle.navigator.proofs.OneActivity.{ends_with, still_open, IsNear, gives_apart, values_near, ChangesOne, extends_now, one_changes}
use Rattle.navigator.proofs.Places.{present}
use Rattle.navigator.proofs.SameActivities.{step_is, named_of, place_found}
use Rattle.navigator.specs.Events.{Receives, Completes as Completion}
use Rattle.navigator.specs.Reading.{place_of}
use Rattle.navigator.specs.Serving.{Served}
use Rattle.navigator.specs.Steps.{Told, Fields, fields, CompletesBy}
use Rattle.navigator.specs.Views.{ShowsProgram, ShowsStart, ShowsWork, ShowsWithin, shows_attempt, Shows}
use Rattle.navigator.specs.declared.scopes.ActivityState.{ActivityState, Program, Nested}
use Rattle.navigator.specs.declared.scopes.ScopeState.{ScopeState, out-ScopeState}
use Rattle.view_laws.specs.Coming.{IsByMessages, MayComplete}
use Rattle.view_laws.specs.Learning.{given_here, with_output}

-- ---- what is known

-- the test tells different parts apart
pub parts_apart : (q r : Part) → r ≢ q → same_part q r ≡ false
parts_apart q r apart = go (same_part q r) refl
  where
    go : (b : Bool) → same_part q r ≡ b → same_part q r ≡ false
    go true is = absurd (apart (sym (part_one q r is)))
    go false is = is

near_output : (q : Part) (out : Container) (k : Known) → IsNear k (with_output q out k) q
near_output q out k = record {
  most = refl;
  begun = refl;
  sent = refl;
  others = λ r apart.
      ap (λ (f : List Part → Option Container). record { most = k.most; begun = λ p. k.begun (r ∷ p); closed = λ p. k.closed (r ∷ p); sent = λ p. k.sent (r ∷ p); given = f })
      (fun_ext (each r apart));
}
  where
    each : (r : Part) → r ≢ q → (p : List Part) → given_here q out k.given (r ∷ p) ≡ k.given (r ∷ p)
    each r apart [] = rw (parts_apart q r apart) refl
    each r apart (s ∷ p) = refl

-- ---- the state of a program activity

-- its next attempt is ready: whoever holds it, this many were completed before
record IsAwaiting (outs : List Container) (c : ℕ) (p : State) : Type 0 where
  pub done : List Completed
  pub hold : Hold
  pub takes : ℕ
  pub since : ℕ
  pub is : p ≡ opened done hold takes since
  pub outputs : map (λ d. d.output) done ≡ outs
  pub count : length done + 1 ≡ c

awaiting : (fate : Fate) (outs : List Container) (c : ℕ) (p : State) → fate ≡ Ready c → ShowsProgram fate outs p → IsAwaiting outs c p
awaiting fate outs c waiting ready shows = let stands = shows.stands in let never : Waiting ≡ Ready c = stands ∙ ready in let wrong : ⊥ = cc in absurd wrong
awaiting fate outs c dead ready shows = let stands = shows.stands in let never : Dead ≡ Ready c = stands ∙ ready in let wrong : ⊥ = cc in absurd wrong
awaiting fate outs c (finished cs) ready shows = let stands = shows.stands in let never : Finished (length cs) ≡ Ready c = stands ∙ ready in let wrong : ⊥ = cc in absurd wrong
awaiting fate outs c (opened cs hold takes since) ready shows =
    let same : Ready (length cs + 1) ≡ Ready c = shows.stands ∙ ready in
    record { done = cs; hold = hold; takes = takes; since = since; is = refl; outputs = shows.outputs (rw ready refl); count = cc }

-- after the completion it shows the fate after
completed_shows : (activity : Activity) (outs : List Container) (c : ℕ) (p : State) (by : Completed) (clock : ℕ) (program : ProgramOf) → activity.work ≡ RunsProgram program → IsAwaiting outs c p
    → ShowsProgram (fate_then activity c by.output) (outs ++ by.output ∷ []) (completed p by (holds activity.exit by.output) clock)
completed_shows activity outs c p by clock program runs was =
    rw was.is (go (holds activity.exit by.output))
  where
    longer : length (was.done ++ by ∷ []) ≡ c
    longer = let count = was.count in let e = length-append was.done (by ∷ []) in omega (arith, count, e)

    mapped : map (λ d. d.output) (was.done ++ by ∷ []) ≡ outs ++ by.output ∷ []
    mapped = map-append (λ d. d.output) was.done (by ∷ []) ∙ ap (λ os. os ++ by.output ∷ []) was.outputs

    go : (b : Bool) → ShowsProgram (cond b (Finished c) (goes_on activity.work (c + 1))) (outs ++ by.output ∷ []) (after b (was.done ++ by ∷ []) clock)
    go true = record { stands = ap Finished longer; outputs = λ opened. mapped }
    go false = record { stands = ap (λ n. Ready (n + 1)) longer ∙ ap (λ w. goes_on w (c + 1)) (sym runs); outputs = λ opened. mapped }

-- ---- the scope

program_state : (w : Work) (program : ProgramOf) (fate : Fate) (outs : List Container) (starts : List Start) (shows : ShowsStart) (state : ActivityState) → w ≡ RunsProgram program
    → ShowsWork w fate outs starts shows state → (p : State) × (state ≡ Program p) × ShowsProgram fate outs p
program_state (RunsProgram w) program fate outs starts shows (Program p) runs is = (p, refl, is)
program_state (RunsProgram w) program fate outs starts shows (Nested n) runs is = absurd is
program_state (Block g) program fate outs starts shows state runs is = let never : ⊥ = cc in absurd never
program_state (Process t) program fate outs starts shows state runs is = let never : ⊥ = cc in absurd never

program_work : (w : Work) (program : ProgramOf) (fate : Fate) (outs : List Container) (starts : List Start) (shows : ShowsStart) (p : State) → w ≡ RunsProgram program
    → ShowsProgram fate outs p → ShowsWork w fate outs starts shows (Program p)
program_work w program fate outs starts shows p runs shown = subst (λ v. ShowsWork v fate outs starts shows (Program p)) (sym runs) shown

program_gives : (ts : List Template) (k : Known) (runs : Runs) (a : Activity) (program : ProgramOf) (q : Part) (i : Container) → a.work ≡ RunsProgram program → part a.name q.attempt ≡ q
    → gives ts k runs a.name a.work q.attempt i ≡ k.given (q ∷ [])
program_gives ts k runs a program q i is named = ap (λ w. gives ts k runs a.name w q.attempt i) is ∙ ap (λ r. k.given (r ∷ [])) named

-- what a completion does to the scope
completes_one : (b : Bool) (g : Graph) (path : Path) (clock a : ℕ) (activity : Activity) (p : State) (by : Completed) (old new : Fields) (before after : Told)
    → ends_of old.ends a ≡ end.Unsettled → CompletesBy b g path clock a activity p by old new before after
    → ChangesOne a (Program (completed p by b clock)) (cond b (end.Finished by.output) end.Unsettled) old new
completes_one true g path clock a activity p by old new before after was is = record {
  begun = ap (λ (f : Fields). f.begun) is.0;
  input = ap (λ (f : Fields). f.input) is.0;
  tallies = ap (λ (f : Fields). f.tallies) is.0;
  ends = ap (λ (f : Fields). f.ends) is.0;
  states = ap (λ (f : Fields). f.states) is.0;
  unsettled = ap (λ (f : Fields). f.unsettled) is.0;
}
completes_one false g path clock a activity p by old new before after was is = record {
  begun = ap (λ (f : Fields). f.begun) is.0;
  input = ap (λ (f : Fields). f.input) is.0;
  tallies = ap (λ (f : Fields). f.tallies) is.0;
  ends = ap (λ (f : Fields). f.ends) is.0 ∙ still_open old.ends a was;
  states = ap (λ (f : Fields). f.states) is.0;
  unsettled = let same : new.unsettled ≡ old.unsettled = ap (λ (f : Fields). f.unsettled) is.0 in omega arith;
}

module _ (ts : List Template) (depth : ℕ) (k : Known) (g : Graph) (input : Container) (s s' : ScopeState) (path : Path) (clock : ℕ) (before after : Told) (q : Part) (by : Completed)
    (well : Well ts depth g) (messages : IsByMessages k) (may : MayComplete ts depth k g input q) (within : q.attempt ≤ k.most) (shows : Shows ts depth k g input s) where
  abbrev k' : Known
  k' = with_output q by.output k

  abbrev runs : Runs
  runs = output ts depth

  abbrev e : Ends
  e = tree_ends ts depth k g input

  abbrev a : ℕ
  a = may.place

  abbrev activity : Activity
  activity = may.activity

  abbrev now : SourceEnd
  now = end_then activity by.output

  near : IsNear k k' q
  near = near_output q by.output k

  named : part activity.name q.attempt ≡ q
  named = ap (λ n. part n q.attempt) may.name

  is_opened : IsOpened ts k runs g input e a activity
  is_opened = opened_is ts k runs g input e a activity may.is (ap is_open may.ready)

  fed : is_fed (out-Graph g).lines a e ≡ true
  fed = may.fed a activity may.is (rw is_opened.join refl)

  abbrev base : Container
  base = base_of g activity a input e

  abbrev tried : List Container
  tried = tries k.most (gives ts k runs activity.name activity.work) (trial g a activity base) 1 base

  ready : IsReadyNext activity tried q.attempt
  ready = ready_next activity tried q.attempt (rw (is_opened.join, fed) at (rw (is_opened.begun, may.is) at may.ready))

  reach : (x : Container) × Reaches (suc k.most) (gives ts k runs activity.name activity.work) (trial g a activity base) 1 base q.attempt x
  reach = reached_next k.most (gives ts k runs activity.name activity.work) (trial g a activity base) 1 base q.attempt ready.goes ready.count (omega arith)

  more : GivesMore (gives ts k runs activity.name activity.work) (gives ts k' runs activity.name activity.work) q.attempt reach.0 by.output
  more = record {
    others = λ j i apart. gives_apart ts k k' runs q near activity.name activity.work j i (λ same. apart (ap (λ (r : Part). r.attempt) same));
    before = λ i. program_gives ts k runs activity may.program q i may.runs named ∙ may.ungiven;
    now = program_gives ts k' runs activity may.program q reach.0 may.runs named ∙ rw (part_itself q) refl;
    next = λ i.
        program_gives ts k' runs activity may.program (part activity.name (q.attempt + 1)) i may.runs refl
        ∙ ap (λ (j : Known). j.given []) (near.others (part activity.name (q.attempt + 1)) later) ∙ may.unstarted.ungiven;
  }
    where
      later : part activity.name (q.attempt + 1) ≢ q
      later same = let e : q.attempt + 1 ≡ q.attempt = ap (λ (r : Part). r.attempt) same in omega arith

  was : e a ≡ end.Unsettled
  was = step_is ts depth k g input well a ∙ open_before ts k k' runs g input e a activity q.attempt reach.0 by.output may.is refl refl is_opened fed within more reach.1

  abbrev E : Ends
  E = ends_with a now e

  next : IsNextAttempt ts k k' runs g input e E a activity q.attempt by.output
  next =
      next_attempt ts k k' runs g input e a activity q.attempt reach.0 by.output may.is refl refl is_opened fed within more reach.1 E
      (extends_now ts depth k k' g input q well near messages may.fed a activity may.is may.name was now)
      (values_near k k' q near messages (out-Graph g).controls e E a)

  abbrev outs : List Container
  outs = attempts ts k runs g input e a

  -- the state of the activity before
  stands : (state : ActivityState) × (slice_get (out-ScopeState s).states.items a ≡ Some state)
  stands =
      let l = shows.stated in
      let i = slice_get_within (out-Graph g).activities a activity may.is in
      present (out-ScopeState s).states.items a (omega (arith, l, i))

  program_before : (p : State) × (stands.0 ≡ Program p) × ShowsProgram (fate_given ts k runs g input e a) outs p
  program_before =
      program_state activity.work may.program (fate_given ts k runs g input e a) outs (started_at ts k runs g input e a activity)
      (shows_attempt (ShowsWithin ts depth) k activity.name (graph_in ts activity.work)) stands.0 may.runs (shows.states a activity stands.0 may.is stands.1)

  -- and after
  abbrev program_after : State
  program_after = completed program_before.0 by (holds activity.exit by.output) clock

  shows_after : ShowsProgram (fate_given ts k' runs g input E a) (attempts ts k' runs g input E a) program_after
  shows_after =
      subst (λ f. ShowsProgram f (attempts ts k' runs g input E a) program_after) (sym next.fate_next)
      (subst (λ os. ShowsProgram (fate_then activity q.attempt by.output) os program_after) (sym next.outputs)
      (completed_shows activity outs q.attempt program_before.0 by clock may.program may.runs
      (awaiting (fate_given ts k runs g input e a) outs q.attempt program_before.0 may.ready program_before.2)))

  complete_keeps : Receives ts path clock (Completion q.name by) before after g s s' → Shows ts depth k' g input s'
  complete_keeps receives =
      let place : place_of g q.name ≡ Some a = ap (place_of g) (sym may.name) ∙ place_found g a activity (named_of ts depth g well) may.is in
      let completes = receives a activity program_before.0 place may.is (stands.1 ∙ ap Some program_before.1) in
      one_changes ts depth k k' g input q well near messages may.fed a activity may.is may.name was now next.end_next s s' (Program program_after)
      (completes_one (holds activity.exit by.output) g path clock a activity program_before.0 by (fields s) (fields s') before after (shows.ends a ∙ was) completes) shows
      (program_work activity.work may.program (fate_given ts k' runs g input E a) (attempts ts k' runs g input E a) (started_at ts k' runs g input E a activity)
      (shows_attempt (ShowsWithin ts depth) k' activity.name (graph_in ts activity.work)) program_after may.runs shows_after)

-- where a state shows what is known, and an item is completed that is ready, the state after it shows what is known then
pub complete_shows : (ts : List Template) (depth : ℕ) (k : Known) (g : Graph) (input : Container) (s s' : ScopeState) (path : Path) (clock : ℕ) (before after : Told) (q : Part) (c : Completed)
    → Well ts depth g → Served ts depth g → IsByMessages k → MayComplete ts depth k g input q → q.attempt ≤ k.most → Shows ts depth k g input s
    → Receives ts path clock (Completion q.name c) before after g s s' → Shows ts depth (with_output q c.output k) g input s'
complete_shows ts depth k g input s s' path clock before after q c well served messages may within shows receives =
    complete_keeps ts depth k g input s s' path clock before after q c well messages may within shows receives
