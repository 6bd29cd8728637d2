-- Who performed what is settled stays the same by a message that is taken, and by an item that is completed.
use Rattle.std.proofs.Common.{◌≡◌, ℕ, ◌<◌, Bool, true, false, List, [], ◌∷◌, ◌++◌, length, Option, Some, None, refl, ap, sym, ◌∙◌, subst, arith}
use Rattle.std.specs.Prelude.{slice_get}
use Rattle.std.proofs.lemmas.Option.{none-some, option_and_then_some, slice_get_within}
use Rattle.activity_states.specs.States.{opened}
use Rattle.activity_states.specs.declared.states.Completed.{Completed}
use Rattle.blocks_subprocs.specs.Ends.{ends_of}
use Rattle.fate_laws.specs.WellFormed.{Well}
use Rattle.flow_model.specs.Conditions.{holds}
use Rattle.flow_model.specs.Fates.{ended, is_settled}
use Rattle.flow_model.specs.ScopeContainers.{graph_in}
use Rattle.flow_model.specs.Scopes.{Known, Start, attempts, fate_given, output, tree_ends}
use Rattle.flow_model.specs.declared.graphs.Container.{Container}
use Rattle.flow_model.specs.declared.graphs.Graph.{Graph, out-Graph}
use Rattle.flow_model.specs.declared.graphs.Template.{Template}
use Rattle.flow_model.specs.declared.graphs.Work.{Work, Program as RunsProgram, Block, Process}
use Rattle.flow_model.specs.declared.instances.Fate.{Fate}
use Rattle.flow_model.specs.declared.instances.Fate.TheVariants as fates
use Rattle.flow_model.specs.declared.instances.Message.{Message}
use Rattle.flow_model.specs.declared.instances.Message.TheVariants.{Begin, Signal, End}
use Rattle.flow_model.specs.declared.instances.Part.{Part}
use Rattle.flow_model.specs.declared.instances.Path.{Path}
use Rattle.flow_model.specs.declared.names.Name.{Name}
use Rattle.item_laws.proofs.Entering.{kept_entries, along_keeps}
use Rattle.item_laws.proofs.Kept.{IsLeft, Keeps, decided_kept, ended_kept, completed_kept}
use Rattle.item_laws.proofs.NoItem.{scopes_none}
use Rattle.item_laws.proofs.Received.{signal_step, end_step, complete_step}
use Rattle.item_laws.proofs.SettledAttempts.{each_gave}
use Rattle.item_laws.specs.Performers.{KeepsPerformers, KeepsWhereShown}
use Rattle.navigator.proofs.Places.{present}
use Rattle.navigator.proofs.SameActivities.{step_is}
use Rattle.navigator.proofs.Stepping.{leads_along}
use Rattle.navigator.proofs.TakesShown.{usable_of}
use Rattle.navigator.specs.Events.{Begins, Signals, Ends as EndsOf, Completes, IsUsable, Receives, Happens, Takes, nothing}
use Rattle.navigator.specs.Reading.{place_of, scope_of}
use Rattle.navigator.specs.Serving.{Served}
use Rattle.navigator.specs.Showing.{graph_along, signal_between, signal_in, note_in, IsCounted}
use Rattle.navigator.specs.Steps.{Fields, Told, fields}
use Rattle.navigator.specs.Views.{ShowsStart, ShowsWork, ShowsWithin, shows_attempt, Shows}
use Rattle.navigator.specs.declared.scopes.ActivityState.{ActivityState, Program, Nested}
use Rattle.navigator.specs.declared.scopes.NestedState.{out-NestedState}
use Rattle.navigator.specs.declared.scopes.ScopeState.{ScopeState}
use Rattle.view_laws.proofs.Unfinished.{unclosed_gives}
use Rattle.view_laws.specs.Coming.{started_in, IsByMessages, MayBegin, MaySignal, MayEnd, MayComplete, Leads, Comes, ComesOutput}
use Rattle.view_laws.specs.Messages.{Note, BeginNote, SignalNote, EndNote}

-- ---- what isn't settled

module _ (ts : List Template) (depth : ℕ) (k : Known) (g : Graph) (input : Container) (s : ScopeState) (well : Well ts depth g) (shows : Shows ts depth k g input s) (a : ℕ) where
  abbrev fate : Fate
  fate = fate_given ts k (output ts depth) g input (tree_ends ts depth k g input) a

  abbrev outs : List Container
  outs = attempts ts k (output ts depth) g input (tree_ends ts depth k g input) a

  left_so : is_settled (ended fate outs) ≡ false → IsLeft (fields s) a
  left_so is = ap is_settled (shows.ends a ∙ step_is ts depth k g input well a) ∙ is

  left_waiting : fate ≡ fates.Waiting → IsLeft (fields s) a
  left_waiting waits = left_so (ap (λ f. is_settled (ended f outs)) waits)

  left_ready : (j : ℕ) → fate ≡ fates.Ready j → IsLeft (fields s) a
  left_ready j ready = left_so (ap (λ f. is_settled (ended f outs)) ready)

-- an activity of which an attempt hasn't told its end
left_unclosed : (ts : List Template) (depth : ℕ) (k : Known) (g : Graph) (input : Container) (s : ScopeState) (q : Part) → Well ts depth g → Shows ts depth k g input s → (may : MayEnd ts depth k g input q)
    → IsLeft (fields s) may.place
left_unclosed ts depth k g input s q well shows may = left_so ts depth k g input s well shows may.place (by (is_settled (ended (fate_given ts k (output ts depth) g input (tree_ends ts depth k g input) may.place) (attempts ts k (output ts depth) g input (tree_ends ts depth k g input) may.place))) refl)
  where
    by : (b : Bool)
        → is_settled (ended (fate_given ts k (output ts depth) g input (tree_ends ts depth k g input) may.place) (attempts ts k (output ts depth) g input (tree_ends ts depth k g input) may.place)) ≡ b
        → is_settled (ended (fate_given ts k (output ts depth) g input (tree_ends ts depth k g input) may.place) (attempts ts k (output ts depth) g input (tree_ends ts depth k g input) may.place)) ≡ false
    by false is = is
    by true settled =
        let some = each_gave ts depth k g input may.place may.activity may.is settled may.start may.number may.started in
        let none = unclosed_gives ts k (output ts depth) may.activity.name may.activity.work may.graph may.start.attempt may.start.input may.of
        (ap (λ (r : Part). k.closed (r ∷ [])) may.named ∙ may.unclosed) in
        absurd (none-some some.0 (sym none ∙ some.1))

-- ---- the scope of an event

no_elements : {X : Type 0} (xs : List X) → length xs ≡ 0 → xs ≡ []
no_elements [] none = refl
no_elements (x ∷ xs) none = let n : ⊥ = cc in absurd n

-- an activity that waits has no scope
waiting_scopes : (w : Work) (f : Fate) (os : List Container) (starts : List Start) (shows : ShowsStart) (x : ActivityState) (j : ℕ) → starts ≡ [] → ShowsWork w f os starts shows x → scope_of x j ≡ None
waiting_scopes (RunsProgram w) f os starts shows (Program p) j none is = refl
waiting_scopes (RunsProgram w) f os starts shows (Nested n) j none is = absurd is
waiting_scopes (Block g) f os starts shows (Program p) j none is = absurd is
waiting_scopes (Block g) f os starts shows (Nested n) j none is = scopes_none n j (no_elements (out-NestedState n).scopes.items (is.count ∙ ap length none))
waiting_scopes (Process t) f os starts shows (Program p) j none is = absurd is
waiting_scopes (Process t) f os starts shows (Nested n) j none is = scopes_none n j (no_elements (out-NestedState n).scopes.items (is.count ∙ ap length none))

module _ (ts : List Template) (depth : ℕ) (k : Known) (g : Graph) (input : Container) (s s' : ScopeState) (path : Path) (clock : ℕ) (before after : Told) (well : Well ts depth g) (shows : Shows ts depth k g input s) where
  -- a scope that hasn't begun has nothing to keep
  begin_keeps : MayBegin ts depth k g input → Keeps (fields s) (fields s')
  begin_keeps may = record {
    ends = λ b settled. absurd (never b settled);
    performers = λ b settled. absurd (never b settled);
    scopes = λ b j t found. option_and_then_some (λ (z : ActivityState). scope_of z j) (slice_get (fields s).states b) t found (λ x there scoped. absurd (none-some t (sym (no_scope b j x there) ∙ scoped)));
  }
    where
      waits : (b : ℕ) → fate_given ts k (output ts depth) g input (tree_ends ts depth k g input) b ≡ fates.Waiting
      waits b = rw may.itself.unbegun refl

      never : (b : ℕ) → is_settled (ends_of (fields s).ends b) ≡ true → ⊥
      never b settled = let n : false ≡ true = sym (left_waiting ts depth k g input s well shows b (waits b)) ∙ settled in let m : ⊥ = cc in m

      no_scope : (b j : ℕ) (x : ActivityState) → slice_get (fields s).states b ≡ Some x → scope_of x j ≡ None
      no_scope b j x there =
          let less : b < length (fields s).states = slice_get_within (fields s).states b x there in
          let activity = present (out-Graph g).activities b (omega (arith, shows.stated)) in
          waiting_scopes activity.0.work (fate_given ts k (output ts depth) g input (tree_ends ts depth k g input) b) (attempts ts k (output ts depth) g input (tree_ends ts depth k g input) b)
          (started_in ts depth k g input b activity.0) (shows_attempt (ShowsWithin ts depth) k activity.0.name (graph_in ts activity.0.work)) x j (rw (waits b) refl) (shows.states b activity.0 x activity.1 there)

  signal_keeps : (a b : ℕ) (v : Bool) (name : Name) → IsByMessages k → MaySignal ts depth k g input a b v → place_of g name ≡ Some b
      → Receives ts path clock (Signals name v) before after g s s' → Keeps (fields s) (fields s')
  signal_keeps a b v name by may place receives =
      let step = signal_step ts depth k g input s s' path clock before after a b v name well by may place shows receives in
      let f : Fields = record (fields s) { tallies = step.tallies } in
      let kept = decided_kept ts g path clock b step.activity f (fields s') before after (left_waiting ts depth k g input s well shows b step.waits) step.join step.was step.there step.decides in
      record { ends = kept.ends; performers = kept.performers; scopes = kept.scopes }

  end_keeps : (q : Part) → Served ts depth g → MayEnd ts depth k g input q → Receives ts path clock (EndsOf q.name q.attempt) before after g s s' → Keeps (fields s) (fields s')
  end_keeps q served may receives =
      let step = end_step ts depth k g input s s' path clock before after q well served may shows receives in
      ended_kept ts g path clock may.place may.activity (fields s) (fields s') before after (left_unclosed ts depth k g input s q well shows may) (holds may.activity.exit step.out) may.graph step.out step.was step.there step.ends

  complete_keeps : (q : Part) (c : Completed) → MayComplete ts depth k g input q → Receives ts path clock (Completes q.name c) before after g s s' → Keeps (fields s) (fields s')
  complete_keeps q c may receives =
      let step = complete_step ts depth k g input s s' path clock before after q c well may shows receives in
      let next = step.next in
      completed_kept ts g path clock may.place may.activity (fields s) (fields s') before after (left_ready ts depth k g input s well shows may.place q.attempt may.ready) (holds may.activity.exit c.output)
      (opened next.done next.hold next.takes next.since) c step.there step.completes

-- ---- a root

pub taken_keeps : (ts : List Template) (clock : ℕ) (message : Message) (note : Note) (g : Graph) (s s' : ScopeState) (given : List Message) (items : List Path) → Takes ts clock message g s s' given items
    → note_in ts g message ≡ Some note → KeepsWhereShown (λ depth k input k'. Comes ts depth k g input note k') ts g s s'
taken_keeps ts clock (Begin path) note g s s' given items takes is = λ depth k k' input well served counted comes shows.
    let note_is : note ≡ BeginNote path.parts = cc in
    let now = subst (λ n. Comes ts depth k g input n k') note_is comes in
    along_keeps ts (λ h t t'. IsUsable h → Receives ts path clock Begins nothing takes.tells h t t') (MayBegin ts)
    (λ d j h i t t' well' served' counted' may was receives. kept_entries ts h t t' (begin_keeps ts d j h i t t' path clock nothing takes.tells well' was may))
    path.parts depth k g input s s' well served counted now.0 shows takes.changes
taken_keeps ts clock (Signal path from to v) note g s s' given items takes is = by (graph_along ts path.parts g) refl is
  where
    known : (h : Graph) → graph_along ts path.parts g ≡ Some h → (a b : ℕ) → place_of h to ≡ Some b → (depth : ℕ) (k : Known) (input : Container)
        → Well ts depth g → Served ts depth g → IsCounted k → Leads (λ d j h' i. MaySignal ts d j h' i a b v) ts depth k g input path.parts
        → Shows ts depth k g input s → KeepsPerformers ts g s s'
    known h along a b place depth k input well served counted leads shows =
        along_keeps ts (λ h' t t'. IsUsable h' → Receives ts path clock (Signals to v) nothing takes.tells h' t t')
        (λ d j h' i. MaySignal ts d j h' i a b v × (place_of h' to ≡ Some b))
        (λ d j h' i t t' well' served' counted' may was receives.
        kept_entries ts h' t t' (signal_keeps ts d j h' i t t' path clock nothing takes.tells well' was a b v to counted'.messages may.0 may.1 (receives (usable_of ts d h' served'))))
        path.parts depth k g input s s' well served counted
        (leads_along ts (λ d j h' i. MaySignal ts d j h' i a b v) (λ h'. place_of h' to ≡ Some b) h place path.parts depth k g input well along leads)
        shows takes.changes

    between : (h : Graph) → graph_along ts path.parts g ≡ Some h → (oa ob : Option ℕ) → place_of h to ≡ ob → signal_between path.parts v oa ob ≡ Some note
        → KeepsWhereShown (λ depth k input k'. Comes ts depth k g input note k') ts g s s'
    between h along None ob place is = let n : ⊥ = cc in absurd n
    between h along (Some a) None place is = let n : ⊥ = cc in absurd n
    between h along (Some a) (Some b) place is = λ depth k k' input well served counted comes shows.
        let note_is : note ≡ SignalNote path.parts a b v = cc in
        let now = subst (λ n. Comes ts depth k g input n k') note_is comes in
        known h along a b place depth k input well served counted now.0 shows

    by : (o : Option Graph) → graph_along ts path.parts g ≡ o → signal_in path.parts from to v (graph_along ts path.parts g) ≡ Some note
        → KeepsWhereShown (λ depth k input k'. Comes ts depth k g input note k') ts g s s'
    by None along is = let wrong : None ≡ Some note = rw along at is in let n : ⊥ = cc in absurd n
    by (Some h) along is = between h along (place_of h from) (place_of h to) refl (rw along at is)
taken_keeps ts clock (End path) note g s s' given items takes is = λ depth k k' input well served counted comes shows.
    let note_is : note ≡ EndNote path.parts = cc in
    let now = subst (λ n. Comes ts depth k g input n k') note_is comes in
    let around = now.0 in
    let q = now.1 in
    let happens = takes around q now.2 in
    let scope : Path = record { root = path.root; parts = around } in
    along_keeps ts (λ h t t'. IsUsable h → Receives ts scope clock (EndsOf q.name q.attempt) nothing happens.tells h t t')
    (λ d j h i. MayEnd ts d j h i q)
    (λ d j h i t t' well' served' counted' may was receives.
    kept_entries ts h t t' (end_keeps ts d j h i t t' scope clock nothing happens.tells well' was q served' may (receives (usable_of ts d h served'))))
    around depth k g input s s' well served counted now.3 shows happens.changes

pub completed_keeps : (ts : List Template) (clock : ℕ) (item : Path) (c : Completed) (g : Graph) (s s' : ScopeState) (given : List Message) (items : List Path)
    → ((around : List Part) (q : Part) → item.parts ≡ around ++ q ∷ [] → Happens ts (record { root = item.root; parts = around }) clock (Completes q.name c) g s s' given items)
    → KeepsWhereShown (λ depth k input k'. ComesOutput ts depth k g input item.parts c.output k') ts g s s'
completed_keeps ts clock item c g s s' given items happening = λ depth k k' input well served counted comes shows.
    let around = comes.0 in
    let q = comes.1 in
    let happens = happening around q comes.2 in
    let scope : Path = record { root = item.root; parts = around } in
    along_keeps ts (λ h t t'. IsUsable h → Receives ts scope clock (Completes q.name c) nothing happens.tells h t t')
    (λ d j h i. MayComplete ts d j h i q)
    (λ d j h i t t' well' served' counted' may was receives.
    kept_entries ts h t t' (complete_keeps ts d j h i t t' scope clock nothing happens.tells well' was q c may (receives (usable_of ts d h served'))))
    around depth k g input s s' well served counted comes.3 shows happens.changes
