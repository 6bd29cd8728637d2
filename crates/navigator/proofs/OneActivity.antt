-- One activity of a scope changes: the others are as before, and the scope shows the view after it.
use Rattle.std.proofs.Common.{◌≡◌, ℕ, ◌+◌, ◌-◌, ◌<◌, Bool, true, false, List, [], ◌∷◌, map, length, get_or, Option, Some, None, cond, refl, ap, sym, ◌∙◌, subst, arith, inl, inr}
use Rattle.std.specs.Prelude.{◌==◌, ◌≢◌, if◌then◌else◌, not, slice_get, slice_set, count_by, unwrap_or}
use Rattle.std.specs.List.{filter}
use Rattle.std.proofs.Math.Path.{fun_ext}
use Rattle.std.proofs.lemmas.Bool.Decides.{eqb_tells}
use Rattle.std.proofs.lemmas.Grind.{get_or-set_at}
use Rattle.std.proofs.lemmas.List.{length-set, set-get_or}
use Rattle.std.proofs.lemmas.List.Sums.{sum_by-set}
use Rattle.std.proofs.lemmas.Option.{slice_get_within, slice_get-get_or, unwrap_or-slice_get}
use Rattle.blocks_subprocs.specs.Ends.{ends_of}
use Rattle.dead_paths.specs.Tallies.{Counts}
use Rattle.fate_laws.proofs.Extends.{Extends}
use Rattle.fate_laws.specs.WellFormed.{Well}
use Rattle.flow_model.specs.Fates.{Ends, connector_value, is_settled}
use Rattle.flow_model.specs.ScopeContainers.{graph_in, graph_of}
use Rattle.flow_model.specs.Scopes.{Known, at, part, Runs, Start, scope_gives, gives, values_at, step, output, tree_ends}
use Rattle.flow_model.specs.declared.graphs.Activity.{Activity}
use Rattle.flow_model.specs.declared.graphs.Container.{Container}
use Rattle.flow_model.specs.declared.graphs.Control.{Control}
use Rattle.flow_model.specs.declared.graphs.Graph.{Graph, out-Graph}
use Rattle.flow_model.specs.declared.graphs.Template.{Template}
use Rattle.flow_model.specs.declared.graphs.Work.{Work, Program as RunsProgram, Block, Process}
use Rattle.flow_model.specs.declared.instances.Fate.TheVariants.{Waiting}
use Rattle.flow_model.specs.declared.instances.Part.{Part}
use Rattle.flow_model.specs.declared.instances.SourceEnd.{SourceEnd}
use Rattle.flow_model.specs.declared.instances.SourceEnd.TheVariants.{Unsettled}
use Rattle.flow_model.specs.declared.names.Name.{Name}
use Rattle.navigator.proofs.Leading.{set_other}
use Rattle.navigator.proofs.Places.{set_read}
use Rattle.navigator.proofs.SameActivities.{IsSameActivity, same_activity, step_is, ends_by_steps, named_of}
use Rattle.navigator.proofs.ShownAgain.{shown_again}
use Rattle.navigator.specs.Steps.{Fields, fields}
use Rattle.navigator.specs.Views.{ShowsScope, shows_attempt, ShowsActivity, ShowsEnds, ShowsWithin, Shows}
use Rattle.navigator.specs.declared.scopes.ActivityState.{ActivityState}
use Rattle.navigator.specs.declared.scopes.ScopeState.{ScopeState, out-ScopeState}
use Rattle.view_laws.specs.Coming.{IsByMessages, IsFedWhereKnown}

-- ---- ends

-- one activity has ended so, and the others as before
abbrev pub ends_with : ℕ → SourceEnd → Ends → Ends
ends_with a s e x = if x == a then s else e x

there_ends : (a : ℕ) (s : SourceEnd) (e : Ends) (x : ℕ) → x ≡ a → ends_with a s e x ≡ s
there_ends a s e x same = elim (eqb_tells x a) [ inl is ↦ rw is.0 refl | inr other ↦ absurd (other.1 same) ]

elsewhere_ends : (a : ℕ) (s : SourceEnd) (e : Ends) (x : ℕ) → x ≢ a → ends_with a s e x ≡ e x
elsewhere_ends a s e x apart = elim (eqb_tells x a) [ inl is ↦ absurd (apart is.1) | inr other ↦ rw other.0 refl ]

-- so they stand in the list where the end of one is put
pub set_ends : (es : List SourceEnd) (a : ℕ) (s : SourceEnd) (x : ℕ) → a < length es → ends_of (slice_set es a s) x ≡ ends_with a s (ends_of es) x
set_ends es a s x less = elim (eqb_tells x a) [
  | inl is ↦ unwrap_or-slice_get (slice_set es a s) x Unsettled ∙ get_or-set_at es a x s Unsettled is.1 less ∙ sym (there_ends a s (ends_of es) x is.1)
  | inr other ↦ ap (λ o. unwrap_or o Unsettled) (set_other es a x s other.1) ∙ sym (elsewhere_ends a s (ends_of es) x other.1)
]

abbrev left_of : SourceEnd → ℕ
left_of x = cond (not (is_settled x)) 1 0

-- an activity that wasn't settled is left no more, where it is settled now
left_after : (es : List SourceEnd) (a : ℕ) (s : SourceEnd) → a < length es → ends_of es a ≡ Unsettled
    → count_by (λ x. not (is_settled x)) (slice_set es a s) ≡ count_by (λ x. not (is_settled x)) es - cond (is_settled s) 1 0
left_after es a s less was =
    go (is_settled s) refl (sum_by-set left_of es a s Unsettled less) (ap left_of (sym (unwrap_or-slice_get es a Unsettled) ∙ was))
  where
    go : (b : Bool) → is_settled s ≡ b → count_by (λ x. not (is_settled x)) (slice_set es a s) + left_of (get_or es a Unsettled) ≡ count_by (λ x. not (is_settled x)) es + left_of s
        → left_of (get_or es a Unsettled) ≡ left_of Unsettled → count_by (λ x. not (is_settled x)) (slice_set es a s) ≡ count_by (λ x. not (is_settled x)) es - cond (is_settled s) 1 0
    go true is sums one = let none : left_of s ≡ 0 = rw is refl in rw is (omega (arith, sums, one, none))
    go false is sums one = let some : left_of s ≡ 1 = rw is refl in rw is (omega (arith, sums, one, some))

-- what isn't settled stays as it is
pub still_open : (es : List SourceEnd) (a : ℕ) → ends_of es a ≡ Unsettled → es ≡ slice_set es a Unsettled
still_open es a was = sym (ap (slice_set es a) (sym was ∙ unwrap_or-slice_get es a Unsettled) ∙ set-get_or es a Unsettled)

-- ---- what is known

-- k' differs from k only at one attempt
pub record IsNear (k k' : Known) (q : Part) : Type 0 where
  pub most : k'.most ≡ k.most
  pub begun : k'.begun [] ≡ k.begun []
  pub sent : k'.sent [] ≡ k.sent []
  pub others : (r : Part) → r ≢ q → at r k' ≡ at r k

scope_apart : (k k' : Known) (runs : Runs) (q : Part) → IsNear k k' q → (o : Option Graph) (r : Part) (i : Container) → r ≢ q → scope_gives k' runs o r i ≡ scope_gives k runs o r i
scope_apart k k' runs q near None r i apart = refl
scope_apart k k' runs q near (Some h) r i apart =
    let closed : k'.closed (r ∷ []) ≡ k.closed (r ∷ []) = ap (λ j. j.closed []) (near.others r apart) in
    rw (closed, near.others r apart) refl

-- another attempt gives the same
pub gives_apart : (ts : List Template) (k k' : Known) (runs : Runs) (q : Part) → IsNear k k' q → (name : Name) (w : Work) (j : ℕ) (i : Container) → part name j ≢ q
    → gives ts k' runs name w j i ≡ gives ts k runs name w j i
gives_apart ts k k' runs q near name (RunsProgram p) j i apart = ap (λ known. known.given []) (near.others (part name j) apart)
gives_apart ts k k' runs q near name (Block g) j i apart = scope_apart k k' runs q near (Some g) (part name j) i apart
gives_apart ts k k' runs q near name (Process t) j i apart = scope_apart k k' runs q near (graph_of ts t) (part name j) i apart

-- the values of connectors are those of the messages, however activities have ended
pub values_near : (k k' : Known) (q : Part) → IsNear k k' q → IsByMessages k → (controls : List Control) (e E : Ends) (x : ℕ) → values_at k' controls E x ≡ values_at k controls e x
values_near k k' q near by controls e E x = each (filter (λ c. c.to == x) controls)
  where
    each : (cs : List Control)
        → map (λ c. k'.sent [] c.from c.to (connector_value controls c (E c.from))) cs ≡ map (λ c. k.sent [] c.from c.to (connector_value controls c (e c.from))) cs
    each [] = refl
    each (c ∷ cs) =
        let one : k'.sent [] c.from c.to (connector_value controls c (E c.from)) ≡ k.sent [] c.from c.to (connector_value controls c (e c.from))
        = ap (λ f. f c.from c.to (connector_value controls c (E c.from))) near.sent
        ∙ by [] c.from c.to (connector_value controls c (E c.from)) ∙ sym (by [] c.from c.to (connector_value controls c (e c.from))) in
        let rest = each cs in
        cc

attempt_apart : (below : ShowsScope) (k k' : Known) (q : Part) → IsNear k k' q → (name : Name) (o : Option Graph) (start : Start) (s : ScopeState) → part name start.attempt ≢ q
    → shows_attempt below k name o start s → shows_attempt below k' name o start s
attempt_apart below k k' q near name None start s apart is = is
attempt_apart below k k' q near name (Some h) start s apart is = subst (λ j. below j h start.input s) (sym (near.others (part name start.attempt) apart)) is

-- ---- the scope

-- the activity at a place has another state, and has ended so
pub record ChangesOne (a : ℕ) (state : ActivityState) (s : SourceEnd) (old new : Fields) : Type 0 where
  pub begun : new.begun ≡ old.begun
  pub input : new.input ≡ old.input
  pub tallies : new.tallies ≡ old.tallies
  pub ends : new.ends ≡ slice_set old.ends a s
  pub states : new.states ≡ slice_set old.states a state
  pub unsettled : new.unsettled ≡ old.unsettled - cond (is_settled s) 1 0

module _ (ts : List Template) (depth : ℕ) (k k' : Known) (g : Graph) (input : Container) (q : Part) (well : Well ts depth g) (near : IsNear k k' q) (by : IsByMessages k)
    (fed : IsFedWhereKnown ts depth k g input) (a : ℕ) (activity : Activity) (there : slice_get (out-Graph g).activities a ≡ Some activity) (named : activity.name ≡ q.name)
    (was : tree_ends ts depth k g input a ≡ Unsettled) (now : SourceEnd) where
  abbrev e : Ends
  e = tree_ends ts depth k g input

  abbrev E : Ends
  E = ends_with a now e

  -- what was settled stays
  pub extends_now : Extends e E
  extends_now = record { kept = λ x settled. elim (eqb_tells x a) [ inl is ↦ absurd (never x is.1 settled) | inr other ↦ elsewhere_ends a now e x other.1 ] }
    where
      never : (x : ℕ) → x ≡ a → is_settled (e x) ≡ true → ⊥
      never x same settled = let none : false ≡ true = sym (ap is_settled (ap e same ∙ was)) ∙ settled in no_end none
        where
          no_end : false ≡ true → ⊥
          no_end h = cc

  apart : (x : ℕ) (other : Activity) (j : ℕ) → x ≢ a → slice_get (out-Graph g).activities x ≡ Some other → part other.name j ≢ q
  apart x other j away is same = away (named_of ts depth g well x a other activity is there (ap (λ (p : Part). p.name) same ∙ sym named))

  as_before : (x : ℕ) (other : Activity) → x ≢ a → slice_get (out-Graph g).activities x ≡ Some other → IsSameActivity ts k k' (output ts depth) g input e E x other
  as_before x other away is =
      same_activity ts k k' (output ts depth) g input e E x other is near.begun near.most (values_near k k' q near by (out-Graph g).controls e E x)
      (fun_ext (λ j. fun_ext (λ i. gives_apart ts k k' (output ts depth) q near other.name other.work j i (apart x other j away is))))
      (fed x other is) extends_now

  step_as_before : (x : ℕ) → x ≢ a → step ts k' (output ts depth) g input E x ≡ step ts k (output ts depth) g input e x
  step_as_before x away = go (slice_get (out-Graph g).activities x) refl
    where
      waits : (b : Bool) → (if b then Waiting else Waiting) ≡ Waiting
      waits true = refl
      waits false = refl

      go : (o : Option Activity) → slice_get (out-Graph g).activities x ≡ o → step ts k' (output ts depth) g input E x ≡ step ts k (output ts depth) g input e x
      go None is = rw (is, waits (k'.begun []), waits (k.begun [])) refl
      go (Some other) is = (as_before x other away is).end

  module _ (stays : step ts k' (output ts depth) g input E a ≡ now) where
    solves : (x : ℕ) → E x ≡ step ts k' (output ts depth) g input E x
    solves x = elim (eqb_tells x a) [
      | inl is ↦ there_ends a now e x is.1 ∙ sym stays ∙ ap (step ts k' (output ts depth) g input E) (sym is.1)
      | inr other ↦ elsewhere_ends a now e x other.1 ∙ step_is ts depth k g input well x ∙ sym (step_as_before x other.1)
    ]

    ends_now : tree_ends ts depth k' g input ≡ E
    ends_now = ends_by_steps ts depth k' g input well E solves

    module _ (s s' : ScopeState) (state : ActivityState) (changes : ChangesOne a state now (fields s) (fields s')) (shows : Shows ts depth k g input s)
        (shows_it : ShowsActivity ts k' (output ts depth) (ShowsWithin ts depth) g input E a activity state) where
      inside : a < length (out-Graph g).activities
      inside = slice_get_within (out-Graph g).activities a activity there

      ended_before : a < length (out-ScopeState s).ends.items
      ended_before = let e = shows.ended in omega (arith, inside, e)

      abbrev At : ℕ → Activity → ActivityState → Type 0
      At x other st = ShowsActivity ts k' (output ts depth) (ShowsWithin ts depth) g input E x other st

      changed : (x : ℕ) (other : Activity) (st : ActivityState) → x ≡ a → slice_get (out-Graph g).activities x ≡ Some other
          → slice_get (out-ScopeState s').states.items x ≡ Some st → At x other st
      changed x other st same is stands =
          let long : a < length (out-ScopeState s).states.items = let e = shows.stated in omega (arith, inside, e) in
          let one : Some activity ≡ Some other = sym there ∙ ap (slice_get (out-Graph g).activities) (sym same) ∙ is in
          let two : Some state ≡ Some st
          = sym (set_read (out-ScopeState s).states.items a _ state (slice_get-get_or (out-ScopeState s).states.items a state long))
          ∙ ap (λ xs. slice_get xs a) (sym changes.states) ∙ ap (slice_get (out-ScopeState s').states.items) (sym same) ∙ stands in
          let that : activity ≡ other = cc in
          let it : state ≡ st = cc in
          subst (λ y. At y other st) (sym same) (subst (λ y. At a other y) it (subst (λ y. At a y state) that shows_it))

      unchanged : (x : ℕ) (other : Activity) (st : ActivityState) → x ≢ a → slice_get (out-Graph g).activities x ≡ Some other
          → slice_get (out-ScopeState s').states.items x ≡ Some st → At x other st
      unchanged x other st away is stands =
          let same = as_before x other away is in
          let before : slice_get (out-ScopeState s).states.items x ≡ Some st
          = sym (set_other (out-ScopeState s).states.items a x state away) ∙ ap (λ xs. slice_get xs x) (sym changes.states) ∙ stands in
          shown_again other.work _ _ _ _ _ _ (shows_attempt (ShowsWithin ts depth) k other.name (graph_in ts other.work))
          (shows_attempt (ShowsWithin ts depth) k' other.name (graph_in ts other.work)) st
          same.fate same.outputs same.starts
          (λ start t. attempt_apart (ShowsWithin ts depth) k k' q near other.name (graph_in ts other.work) start t (apart x other start.attempt away is))
          (shows.states x other st is before)

      -- the scope shows the view after it
      pub one_changes : Shows ts depth k' g input s'
      one_changes = subst (λ f. ShowsEnds ts k' (output ts depth) (ShowsWithin ts depth) g input f s') (sym ends_now) (record {
        begun = changes.begun ∙ shows.begun ∙ sym near.begun;
        reads = changes.input ∙ shows.reads;
        tallied = ap length changes.tallies ∙ shows.tallied;
        tallies = λ x t at.
            subst (λ vs. Counts t vs) (sym (values_near k k' q near by (out-Graph g).controls e E x)) (shows.tallies x t (ap (λ xs. slice_get xs x) (sym changes.tallies) ∙ at));
        ended = ap length changes.ends ∙ length-set (out-ScopeState s).ends.items a now ∙ shows.ended;
        ends = λ x.
            ap (λ es. ends_of es x) changes.ends ∙ set_ends (out-ScopeState s).ends.items a now x ended_before
            ∙ ap (λ f. ends_with a now f x) (fun_ext shows.ends);
        stated = ap length changes.states ∙ length-set (out-ScopeState s).states.items a state ∙ shows.stated;
        states = λ x other st is stands. elim (eqb_tells x a) [ inl same ↦ changed x other st same.1 is stands | inr away ↦ unchanged x other st away.1 is stands ];
        unsettled =
            changes.unsettled ∙ ap (λ n. n - cond (is_settled now) 1 0) shows.unsettled
            ∙ sym (left_after (out-ScopeState s).ends.items a now ended_before (shows.ends a ∙ was)) ∙ ap (count_by (λ x. not (is_settled x))) (sym changes.ends);
      })
