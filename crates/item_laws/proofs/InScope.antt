-- What happens to the items of a scope that receives an event that may come.
use Rattle.std.proofs.Common.{◌≡◌, ℕ, zero, suc, ◌+◌, ◌≤◌, ◌==◌, Bool, true, false, List, [], ◌∷◌, ◌++◌, map, length, Option, Some, None, cond, refl, ap, sym, ◌∙◌, subst, arith, append-nil, append_assoc, length-append}
use Rattle.std.specs.Prelude.{◌≢◌, slice_get, option_and_then}
use Rattle.std.proofs.Math.Path.{fun_ext}
use Rattle.std.proofs.lemmas.Bool.{eq-eqb}
use Rattle.std.proofs.lemmas.List.{map-append}
use Rattle.std.proofs.lemmas.Option.{none-some}
use Rattle.activity_states.specs.States.{State, opened, finished}
use Rattle.activity_states.specs.declared.states.Completed.{Completed}
use Rattle.blocks_subprocs.specs.Ends.{ends_of}
use Rattle.dead_paths.specs.declared.joins.Tally.{Tally}
use Rattle.fate_laws.proofs.Items.{eqb_one}
use Rattle.fate_laws.specs.WellFormed.{Well}
use Rattle.flow_model.specs.Conditions.{holds}
use Rattle.flow_model.specs.Fates.{joined}
use Rattle.flow_model.specs.Rows.{below}
use Rattle.flow_model.specs.ScopeContainers.{graph_in, base_of, looped}
use Rattle.flow_model.specs.Scopes.{Known, part, values_at, attempts, fate_given, output, tree_ends}
use Rattle.flow_model.specs.declared.graphs.Activity.{Activity}
use Rattle.flow_model.specs.declared.graphs.Container.{Container}
use Rattle.flow_model.specs.declared.graphs.Graph.{Graph, out-Graph}
use Rattle.flow_model.specs.declared.graphs.Template.{Template}
use Rattle.flow_model.specs.declared.instances.Fate.TheVariants as fates
use Rattle.flow_model.specs.declared.instances.Hold.{Hold}
use Rattle.flow_model.specs.declared.instances.Hold.TheVariants.{Nobody}
use Rattle.flow_model.specs.declared.instances.Part.{Part}
use Rattle.flow_model.specs.declared.instances.Path.{Path}
use Rattle.flow_model.specs.declared.instances.SourceEnd.TheVariants as end
use Rattle.flow_model.specs.declared.names.Name.{Name}
use Rattle.item_laws.proofs.Deciding.{IsIdle, idle_of, MovesAt, quietly, grows, staged_scopes, decided}
use Rattle.item_laws.proofs.Moves.{Moves, moves_none, moves_on}
use Rattle.item_laws.proofs.OneState.{one_moves}
use Rattle.item_laws.proofs.OpenScopes.{open_attempt, opens_next, open_item, item_of, open_inside, open_in, open_is, unbegun_here}
use Rattle.item_laws.proofs.Received.{signal_step, end_step, complete_step}
use Rattle.item_laws.specs.OpenItems.{open_at, HasOpened, HasClosed}
use Rattle.navigator.proofs.Places.{present}
use Rattle.navigator.proofs.SameActivities.{Named, named_of}
use Rattle.navigator.specs.Events.{Receives, Begins, Signals, Ends as EndsOf, Completes}
use Rattle.navigator.specs.Reading.{place_of, scope_of}
use Rattle.navigator.specs.Serving.{Served}
use Rattle.navigator.specs.Steps.{Fields, Told, fields, with_state, changed_at, settled, finished_state, DecidesFirst, AreTallied, EndsBy, CompletesBy}
use Rattle.navigator.specs.Views.{ShowsWithin, shows_attempt, Shows}
use Rattle.navigator.specs.declared.scopes.ActivityState.{ActivityState, Program, Nested}
use Rattle.navigator.specs.declared.scopes.NestedStage.TheVariants as stages
use Rattle.navigator.specs.declared.scopes.ScopeState.{ScopeState}
use Rattle.view_laws.specs.Coming.{started_in, IsByMessages, MayBegin, MaySignal, MayEnd, MayComplete}

-- of the scope at the end of a path, which receives an event, these items became open, and one is open no more
pub record MovesBelow (ts : List Template) (g : Graph) (path : Path) (clock : ℕ) (parts : List Part) (closing : Option Part) (s s' : ScopeState) (before after : Told) : Type 0 where
  pub news : List Part
  pub moves : Moves clock parts news closing (open_at ts g s) (open_at ts g s')
  pub ready : after.ready ≡ before.ready ++ map (below path) news

abbrev pub MovesHere : List Template → Graph → Path → ℕ → Option Part → ScopeState → ScopeState → Told → Told → Type 0
MovesHere ts g path clock closing s s' before after = MovesBelow ts g path clock [] closing s s' before after

-- what is open by the states of activities is what is open
scope_moves : (ts : List Template) (g : Graph) (clock : ℕ) (news : List Part) (closing : Option Part) (s s' : ScopeState) → Moves clock [] news closing (open_in ts g (fields s)) (open_in ts g (fields s'))
    → Moves clock [] news closing (open_at ts g s) (open_at ts g s')
scope_moves ts g clock news closing s s' moves =
    let was : open_at ts g s ≡ open_in ts g (fields s) = fun_ext (open_is ts g s) in
    let is : open_at ts g s' ≡ open_in ts g (fields s') = fun_ext (open_is ts g s') in
    subst (λ o. Moves clock [] news closing o (open_at ts g s')) (sym was) (subst (λ o. Moves clock [] news closing (open_in ts g (fields s)) o) (sym is) moves)

idle_items : (x : ActivityState) (j : ℕ) → IsIdle x → open_item x j ≡ None
idle_items (Program p) j is = ap (λ z. open_attempt z j) is
idle_items (Nested n) j is = refl

-- ---- a BEGIN

-- what is told first and then is told together
told_on : (path : Path) (before middle after : List Path) (xs ys : List Part) → middle ≡ before ++ map (below path) xs → after ≡ middle ++ map (below path) ys → after ≡ before ++ map (below path) (xs ++ ys)
told_on path before middle after xs ys first second =
    second ∙ ap (λ ps. ps ++ map (below path) ys) first ∙ append_assoc before (map (below path) xs) (map (below path) ys) ∙ ap (λ ps. before ++ ps) (sym (map-append (below path) xs ys))

module _ (ts : List Template) (depth : ℕ) (k : Known) (g : Graph) (input : Container) (s : ScopeState) (named : Named g) (shows : Shows ts depth k g input s) (path : Path) (clock : ℕ)
    (unbegun : k.begun [] ≡ false) (values : ℕ → List (Option Bool)) (before : Told) where
  waits : (a : ℕ) → fate_given ts k (output ts depth) g input (tree_ends ts depth k g input) a ≡ fates.Waiting
  waits a = rw unbegun refl

  idle : (a : ℕ) (activity : Activity) (x : ActivityState) → slice_get (out-Graph g).activities a ≡ Some activity → slice_get (fields s).states a ≡ Some x → IsIdle x
  idle a activity x is there =
      idle_of activity.work _ (attempts ts k (output ts depth) g input (tree_ends ts depth k g input) a) (started_in ts depth k g input a activity)
      (shows_attempt (ShowsWithin ts depth) k activity.name (graph_in ts activity.work)) x (waits a) (shows.states a activity x is there)

  abbrev begun : Fields
  begun = record (fields s) { begun = true }

  -- nothing is open while no activity is decided
  undecided : (item : List Part) → open_in ts g begun item ≡ open_in ts g (fields s) item
  undecided [] = refl
  undecided (q ∷ (r ∷ rs)) = refl
  undecided (q ∷ []) = by (place_of g q.name) ∙ sym (unbegun_here g q (fields s) (shows.begun ∙ unbegun))
    where
      at : (a : ℕ) (activity : Option Activity) (x : Option ActivityState) → slice_get (out-Graph g).activities a ≡ activity → slice_get (fields s).states a ≡ x → item_of activity x q.attempt ≡ None
      at a None x is there = refl
      at a (Some activity) None is there = refl
      at a (Some activity) (Some x) is there = idle_items x q.attempt (idle a activity x is there)

      by : (o : Option ℕ) → option_and_then (λ a. item_of (slice_get (out-Graph g).activities a) (slice_get (fields s).states a) q.attempt) o ≡ None
      by None = refl
      by (Some a) = at a (slice_get (out-Graph g).activities a) (slice_get (fields s).states a) refl refl

  -- the first n activities are decided, the others are as before
  record DecidedFirst (n : ℕ) (f : Fields) (after : Told) : Type 0 where
    news : List Part
    moves : Moves clock [] news None (open_in ts g (fields s)) (open_in ts g f)
    ready : after.ready ≡ before.ready ++ map (below path) news
    now : f.begun ≡ true
    left : (a : ℕ) → n ≤ a → slice_get f.states a ≡ slice_get (fields s).states a

  decided_first : (n : ℕ) (f : Fields) (after : Told) → n ≤ length (out-Graph g).activities → DecidesFirst ts g path clock values n begun f before after → DecidedFirst n f after
  decided_first zero f after less is = record {
    news = [];
    moves = moves_none clock [] (open_in ts g (fields s)) (open_in ts g f) (λ item. ap (λ (u : Fields). open_in ts g u item) is.0 ∙ undecided item);
    ready = ap (λ (t : Told). t.ready) is.1 ∙ sym (append-nil before.ready);
    now = ap (λ (u : Fields). u.begun) is.0;
    left = λ a over. ap (λ (u : Fields). slice_get u.states a) is.0;
  }
  decided_first (suc n) f after less is =
      let there = present (out-Graph g).activities n (omega arith) in
      let long = shows.stated in
      let was = present (fields s).states n (omega arith) in
      let first = decided_first n is.middle is.so_far (omega arith) is.before in
      let here = first.left n (omega arith) ∙ was.1 in
      let one = decided ts g path clock n there.0 there.1 named is.middle f is.so_far after (joined there.0.join (values n)) was.0 here (idle n there.0 was.0 there.1 was.1) first.now (is.decides there.0 there.1) in
      record {
        news = first.news ++ one.news;
        moves = moves_on clock [] first.news one.news (open_in ts g (fields s)) (open_in ts g is.middle) (open_in ts g f) first.moves one.moves;
        ready = told_on path before.ready is.so_far.ready after.ready first.news one.news first.ready one.ready;
        now = one.begun ∙ first.now;
        left = λ a over. one.elsewhere a (λ same. absurd (omega arith)) ∙ first.left a (omega arith);
      }

-- the items whose activities have a true join become open
pub begin_moves : (ts : List Template) (depth : ℕ) (k : Known) (g : Graph) (input : Container) (s s' : ScopeState) (path : Path) (clock : ℕ) (before after : Told)
    → Well ts depth g → MayBegin ts depth k g input → Shows ts depth k g input s
    → Receives ts path clock Begins before after g s s' → MovesHere ts g path clock None s s' before after
begin_moves ts depth k g input s s' path clock before after well may shows receives =
    let values = values_at k (out-Graph g).controls (tree_ends ts depth k g input) in
    let tallied : AreTallied g values (fields s).tallies = record { long = shows.tallied; counts = shows.tallies } in
    let done = decided_first ts depth k g input s (named_of ts depth g well) shows path clock may.itself.unbegun values before (length (out-Graph g).activities) (fields s') after (omega arith) (receives values tallied) in
    record { news = done.news; moves = scope_moves ts g clock done.news None s s' done.moves; ready = done.ready }

-- ---- a SIGNAL

-- tallies say nothing of what is open
untallied : (ts : List Template) (g : Graph) (s : ScopeState) (tallies : List Tally) (item : List Part) → open_in ts g (record (fields s) { tallies = tallies }) item ≡ open_in ts g (fields s) item
untallied ts g s tallies [] = refl
untallied ts g s tallies (q ∷ []) = refl
untallied ts g s tallies (q ∷ (r ∷ rs)) = refl

-- the item of the activity to which it leads becomes open, where its join is true now
pub signal_moves : (ts : List Template) (depth : ℕ) (k : Known) (g : Graph) (input : Container) (s s' : ScopeState) (path : Path) (clock : ℕ) (before after : Told) (a b : ℕ) (v : Bool) (name : Name)
    → Well ts depth g → IsByMessages k → MaySignal ts depth k g input a b v → place_of g name ≡ Some b → Shows ts depth k g input s
    → Receives ts path clock (Signals name v) before after g s s' → MovesHere ts g path clock None s s' before after
signal_moves ts depth k g input s s' path clock before after a b v name well by may place shows receives =
    let step = signal_step ts depth k g input s s' path clock before after a b v name well by may place shows receives in
    let idle = idle_of step.activity.work (fate_given ts k (output ts depth) g input (tree_ends ts depth k g input) b) (attempts ts k (output ts depth) g input (tree_ends ts depth k g input) b) (started_in ts depth k g input b step.activity)
    (shows_attempt (ShowsWithin ts depth) k step.activity.name (graph_in ts step.activity.work)) step.was step.waits (shows.states b step.activity step.was step.is step.there) in
    let one = decided ts g path clock b step.activity step.is (named_of ts depth g well) (record (fields s) { tallies = step.tallies }) (fields s') before after step.join step.was step.there idle (shows.begun ∙ may.begun) step.decides in
    record {
      news = one.news;
      moves = scope_moves ts g clock one.news None s s' (subst (λ o. Moves clock [] one.news None o (open_in ts g (fields s'))) (fun_ext (untallied ts g s step.tallies)) one.moves);
      ready = one.ready;
    }

-- ---- the END of an attempt

finished_scopes : (x : ActivityState) (j : ℕ) → scope_of (finished_state x) j ≡ scope_of x j
finished_scopes (Program p) j = refl
finished_scopes (Nested n) j = staged_scopes stages.Finished n j

finished_items : (x : ActivityState) (j : ℕ) → open_item (finished_state x) j ≡ open_item x j
finished_items (Program p) j = refl
finished_items (Nested n) j = refl

-- no item becomes open
module _ (ts : List Template) (g h : Graph) (path : Path) (clock a : ℕ) (activity : Activity) (is : slice_get (out-Graph g).activities a ≡ Some activity) (named : Named g) (f f' : Fields) (before after : Told)
    (runs : graph_in ts activity.work ≡ Some h) (x : ActivityState) (there : slice_get f.states a ≡ Some x) (begun_so : f.begun ≡ true) (out : Container) where
  ends_at : (b : Bool) → EndsBy b g h path a activity x out f f' before after → MovesAt ts g path clock a f f' before after
  ends_at true ends =
      let new : f' ≡ settled a (end.Finished out) (with_state a (finished_state x) f) = ends.0 ∙ ap (λ o. settled a (end.Finished out) (changed_at finished_state a o f)) there in
      quietly ts g path clock a activity is named f f' before after x (finished_state x)
      (record { begun = ap (λ (u : Fields). u.begun) new; was = there; states = ap (λ (u : Fields). u.states) new }) begun_so
      (λ j item. ap (λ o. open_inside ts (graph_in ts activity.work) o item) (finished_scopes x j)) (finished_items x) (ap (λ (t : Told). t.ready) ends.1)
  ends_at false next =
      grows ts g path clock a activity is named f f' before after h runs (looped (out-Graph g).loops a out (base_of g activity a f.input (ends_of f.ends))) x there begun_so next

pub end_moves : (ts : List Template) (depth : ℕ) (k : Known) (g : Graph) (input : Container) (s s' : ScopeState) (path : Path) (clock : ℕ) (before after : Told) (q : Part)
    → Well ts depth g → Served ts depth g → MayEnd ts depth k g input q → Shows ts depth k g input s
    → Receives ts path clock (EndsOf q.name q.attempt) before after g s s' → MovesHere ts g path clock None s s' before after
end_moves ts depth k g input s s' path clock before after q well served may shows receives =
    let step = end_step ts depth k g input s s' path clock before after q well served may shows receives in
    let one = ends_at ts g may.graph path clock may.place may.activity may.is (named_of ts depth g well) (fields s) (fields s') before after may.of step.was step.there (shows.begun ∙ may.begun) step.out
    (holds may.activity.exit step.out) step.ends in
    record { news = one.news; moves = scope_moves ts g clock one.news None s s' one.moves; ready = one.ready }

-- ---- a completion

module _ (cs : List Completed) (hold : Hold) (takes since : ℕ) where
  attempt_open : (j : ℕ) → length cs + 1 ≡ j → open_attempt (opened cs hold takes since) j ≡ Some (opened cs hold takes since)
  attempt_open j same = ap (λ b. cond b (Some (opened cs hold takes since)) None) (opens_next hold (length cs + 1) j ∙ eq-eqb (length cs + 1) j same)

  attempt_shut : (j : ℕ) → length cs + 1 ≢ j → open_attempt (opened cs hold takes since) j ≡ None
  attempt_shut j apart = ap (λ b. cond b (Some (opened cs hold takes since)) None) (opens_next hold (length cs + 1) j ∙ by ((length cs + 1) == j) refl)
    where
      by : (b : Bool) → ((length cs + 1) == j) ≡ b → b ≡ false
      by false same = refl
      by true same = absurd (apart (eqb_one (length cs + 1) j same))

module _ (ts : List Template) (g : Graph) (path : Path) (clock a : ℕ) (activity : Activity) (is : slice_get (out-Graph g).activities a ≡ Some activity) (named : Named g) (f f' : Fields) (before after : Told)
    (begun_so : f.begun ≡ true) (c : Completed) (cs : List Completed) (hold : Hold) (takes since : ℕ) (q : Part) (name : q.name ≡ activity.name) (count : length cs + 1 ≡ q.attempt) where
  abbrev p : State
  p = opened cs hold takes since

  abbrev next : State
  next = opened (cs ++ c ∷ []) Nobody 0 clock

  abbrev later : ℕ
  later = length (cs ++ c ∷ []) + 1

  -- the item that is completed closes, and the next one becomes open where there is one
  record CompletesAt : Type 0 where
    news : List Part
    moves : Moves clock [] news (Some q) (open_in ts g f) (open_in ts g f')
    ready : after.ready ≡ before.ready ++ map (below path) news

  other_attempt : (j : ℕ) → (Some q ≡ Some (part activity.name j) → ⊥) → length cs + 1 ≢ j
  other_attempt j apart same = apart (let n = name in let j_is : q.attempt ≡ j = sym count ∙ same in ap Some (ap (λ m. part m q.attempt) n ∙ ap (part activity.name) j_is))

  completes_at : (b : Bool) → slice_get f.states a ≡ Some (Program p) → CompletesBy b g path clock a activity p c f f' before after → CompletesAt
  completes_at true there completes = record {
    news = [];
    moves = one_moves ts g a activity is (Program p) (Program (finished (cs ++ c ∷ []))) f f'
        (record { begun = ap (λ (u : Fields). u.begun) completes.0; was = there; states = ap (λ (u : Fields). u.states) completes.0 }) named begun_so clock [] (Some q) (λ j item. refl)
        (λ n m r at at'. absurd (none-some r at)) (λ n r at. absurd (none-some r at))
        (λ r at.
        let same : q ≡ r = cc in
        subst (λ (t : Part). (t.name ≡ activity.name) × HasClosed (open_attempt p t.attempt) None) same
        (name, record { state = p; was = attempt_open cs hold takes since q.attempt count; is = refl }))
        (λ j new old. sym (attempt_shut cs hold takes since j (other_attempt j old)));
    ready = ap (λ (t : Told). t.ready) completes.1 ∙ sym (append-nil before.ready);
  }
  completes_at false there completes = record {
    news = part activity.name later ∷ [];
    moves = one_moves ts g a activity is (Program p) (Program next) f f'
        (record { begun = ap (λ (u : Fields). u.begun) completes.0; was = there; states = ap (λ (u : Fields). u.states) completes.0 }) named begun_so clock (part activity.name later ∷ []) (Some q) (λ j item. refl)
        once opens
        (λ r at.
        let same : q ≡ r = cc in
        subst (λ (t : Part). (t.name ≡ activity.name) × HasClosed (open_attempt p t.attempt) (open_attempt next t.attempt)) same
        (name, record { state = p; was = attempt_open cs hold takes since q.attempt count; is = attempt_shut (cs ++ c ∷ []) Nobody 0 clock q.attempt not_this }))
        (λ j new old. attempt_shut (cs ++ c ∷ []) Nobody 0 clock j (λ same. new 0 (ap (λ m. Some (part activity.name m)) same)) ∙ sym (attempt_shut cs hold takes since j (other_attempt j old)));
    ready = ap (λ (t : Told). t.ready) completes.1;
  }
    where
      longer : length (cs ++ c ∷ []) ≡ length cs + 1
      longer = let e = length-append cs (c ∷ []) in omega (arith, e)

      not_this : later ≢ q.attempt
      not_this same = let long = longer in let these = count in omega arith

      not_now : length cs + 1 ≢ later
      not_now same = let long = longer in omega arith

      once : (n m : ℕ) (r : Part) → slice_get (part activity.name later ∷ []) n ≡ Some r → slice_get (part activity.name later ∷ []) m ≡ Some r → n ≡ m
      once zero zero r at at' = refl
      once zero (suc m) r at at' = absurd (none-some r at')
      once (suc n) m r at at' = absurd (none-some r at)

      opens : (n : ℕ) (r : Part) → slice_get (part activity.name later ∷ []) n ≡ Some r → (r.name ≡ activity.name) × HasOpened clock (open_attempt p r.attempt) (open_attempt next r.attempt)
      opens zero r at =
          let same : part activity.name later ≡ r = cc in
          subst (λ (t : Part). (t.name ≡ activity.name) × HasOpened clock (open_attempt p t.attempt) (open_attempt next t.attempt)) same
          (refl, record { was = attempt_shut cs hold takes since later not_now; state = next; is = attempt_open (cs ++ c ∷ []) Nobody 0 clock later refl; free = refl; since = refl })
      opens (suc n) r at = absurd (none-some r at)

pub complete_moves : (ts : List Template) (depth : ℕ) (k : Known) (g : Graph) (input : Container) (s s' : ScopeState) (path : Path) (clock : ℕ) (before after : Told) (q : Part) (c : Completed)
    → Well ts depth g → MayComplete ts depth k g input q → Shows ts depth k g input s
    → Receives ts path clock (Completes q.name c) before after g s s' → MovesHere ts g path clock (Some q) s s' before after
complete_moves ts depth k g input s s' path clock before after q c well may shows receives =
    let step = complete_step ts depth k g input s s' path clock before after q c well may shows receives in
    let next = step.next in
    let one = completes_at ts g path clock may.place may.activity may.is (named_of ts depth g well) (fields s) (fields s') before after (shows.begun ∙ may.begun) c next.done next.hold next.takes next.since q (sym may.name) next.count
    (holds may.activity.exit c.output) step.there step.completes in
    record { news = one.news; moves = scope_moves ts g clock one.news (Some q) s s' one.moves; ready = one.ready }
