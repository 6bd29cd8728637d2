-- Whatever comes before an open item is settled, where what counts of messages was due.
use Rattle.std.proofs.Common.{◌≡◌, ℕ, zero, suc, ◌+◌, ◌≤◌, Bool, true, false, List, [], ◌∷◌, Option, Some, None, refl, ap, sym, ◌∙◌, subst, arith}
use Rattle.std.specs.Prelude.{slice_get, is_none}
use Rattle.std.specs.List.{Contains}
use Rattle.std.proofs.lemmas.List.Elements.{All-contains}
use Rattle.std.proofs.lemmas.Option.{none-some, option_and_then_some}
use Rattle.activity_states.specs.States.{State, waiting, dead, opened, finished, fate_of, held}
use Rattle.blocks_subprocs.specs.Ends.{ends_of}
use Rattle.fate_laws.proofs.Wired.{known_values}
use Rattle.fate_laws.specs.Walks.{Walk}
use Rattle.fate_laws.specs.WellFormed.{Well}
use Rattle.flow_model.specs.Fates.{Ends, connector_value, joined, fate_by, ended, is_settled, is_waiting}
use Rattle.flow_model.specs.ScopeContainers.{graph_in}
use Rattle.flow_model.specs.Scopes.{Known, at, part, Start, values_at, attempts, attempts_at, fate_given, output, tree_ends}
use Rattle.flow_model.specs.declared.graphs.Activity.{Activity}
use Rattle.flow_model.specs.declared.graphs.Container.{Container}
use Rattle.flow_model.specs.declared.graphs.Control.{Control}
use Rattle.flow_model.specs.declared.graphs.Graph.{Graph, out-Graph}
use Rattle.flow_model.specs.declared.graphs.Template.{Template}
use Rattle.flow_model.specs.declared.graphs.Work.{Work, Program as RunsProgram, Block, Process}
use Rattle.flow_model.specs.declared.instances.Fate.{Fate}
use Rattle.flow_model.specs.declared.instances.Fate.TheVariants as fates
use Rattle.flow_model.specs.declared.instances.Hold.TheVariants.{Nobody}
use Rattle.flow_model.specs.declared.instances.Part.{Part}
use Rattle.item_laws.proofs.Entering.{entry_in, inside_of}
use Rattle.item_laws.proofs.OneState.{found_name}
use Rattle.item_laws.proofs.ScopesInside.{IsInside, started_at_place}
use Rattle.item_laws.specs.OpenItems.{is_open_phase}
use Rattle.navigator.proofs.RowLists.{started_numbered}
use Rattle.navigator.proofs.SameActivities.{step_is}
use Rattle.navigator.specs.Items.{Entry, stand, into, entry_at, phase_of}
use Rattle.navigator.specs.Reading.{attempt_place}
use Rattle.navigator.specs.Views.{ShowsStart, ShowsWork, ShowsWithin, shows_attempt, Shows}
use Rattle.navigator.specs.declared.scopes.ActivityState.{Program}
use Rattle.navigator.specs.declared.scopes.ScopeState.{ScopeState, out-ScopeState}
use Rattle.view_laws.proofs.Counting.{has_times}
use Rattle.view_laws.proofs.DueParts.{AreDue, due_inside, honest_of}
use Rattle.view_laws.proofs.FoundSignals.{counted_each, counted_settled}
use Rattle.view_laws.proofs.NothingDue.{nothing}
use Rattle.view_laws.proofs.ReadyInView.{IsTold, told_of}
use Rattle.view_laws.proofs.SameNotes.{itself, one}
use Rattle.view_laws.proofs.StartedParts.{HasScope, listed_starts}
use Rattle.view_laws.proofs.WholeRuns.{due_times, start_below, taken_is_due, signal_due, end_due}
use Rattle.view_laws.specs.Coming.{started_in}
use Rattle.view_laws.specs.Messages.{Note, BeginNote}
use Rattle.view_laws.specs.Queues.{times, TakesFronts}
use Rattle.view_laws.specs.Runs.{Root, Event, running, has_started, taken, seen, due_now, due, engine}

-- ---- one scope

-- an activity that waits isn't settled
settled_goes : (f : Fate) (outs : List Container) → is_settled (ended f outs) ≡ true → is_waiting f ≡ false
settled_goes fates.Waiting outs settled = let n : ⊥ = cc in absurd n
settled_goes (fates.Ready j) outs settled = refl
settled_goes (fates.Running j) outs settled = refl
settled_goes (fates.Finished j) outs settled = refl
settled_goes fates.Dead outs settled = refl

-- where it doesn't wait its join is known
join_known : (activity : Activity) (v : Option Bool) (outs : List Container) → is_waiting (fate_by activity v outs) ≡ false → is_none v ≡ false
join_known activity None outs goes = let n : ⊥ = cc in absurd n
join_known activity (Some v) outs goes = refl

module _ (ts : List Template) (depth : ℕ) (k : Known) (g : Graph) (input : Container) (well : Well ts depth g) (told : IsTold ts depth k g input) where
  abbrev ev : Ends
  ev = tree_ends ts depth k g input

  abbrev controls : List Control
  controls = (out-Graph g).controls

  abbrev fate : ℕ → Fate
  fate a = fate_given ts k (output ts depth) g input ev a

  -- the sources of an activity that doesn't wait are settled
  sources_settled : (a : ℕ) → is_waiting (fate a) ≡ false → (c : Control) → Contains controls c → c.to ≡ a → is_settled (ev c.from) ≡ true
  sources_settled a goes c there to = go (k.begun []) refl (slice_get (out-Graph g).activities a) refl
    where
      never : true ≡ false → ⊥
      never n = cc

      counted : Control → Option Bool
      counted d = k.sent [] d.from d.to (connector_value controls d (ev d.from))

      go : (b : Bool) → k.begun [] ≡ b → (o : Option Activity) → slice_get (out-Graph g).activities a ≡ o → is_settled (ev c.from) ≡ true
      go false unbegun o is = absurd (never (rw unbegun at goes))
      go true begun None is = absurd (never (rw (begun, is) at goes))
      go true begun (Some activity) is =
          let join = join_known activity (joined activity.join (values_at k controls ev a)) (attempts_at ts k (output ts depth) g input ev a (Some activity)) (rw (begun, is) at goes) in
          let values = known_values activity (values_at k controls ev a) join in
          let each = counted_each (λ d. k.sent [] d.from d.to (connector_value controls d (ev d.from))) a controls values in
          counted_settled ts depth k g input well told c there
          (All-contains (λ (d : Control). d.to ≡ a → is_none (k.sent [] d.from d.to (connector_value controls d (ev d.from))) ≡ false) controls c each there to)

  -- and what comes before them
  walk_settled : (n b a : ℕ) → is_waiting (fate a) ≡ false → Walk controls (suc n) b a → is_settled (ev b) ≡ true
  walk_settled zero b a goes walk =
      let source = sources_settled a goes walk.0 walk.1 walk.2 in
      ap (λ x. is_settled (ev x)) walk.3 ∙ source
  walk_settled (suc n) b a goes walk =
      let source = sources_settled a goes walk.0 walk.1 walk.2 in
      walk_settled n b walk.0.from (settled_goes (fate walk.0.from) (attempts ts k (output ts depth) g input ev walk.0.from) (ap is_settled (sym (step_is ts depth k g input well walk.0.from)) ∙ source)) walk.3

-- an open item doesn't wait
open_goes : (p : State) (j : ℕ) → is_open_phase (phase_of (fate_of p) j) ≡ true → is_waiting (fate_of (held p Nobody)) ≡ false
open_goes waiting j opens = let n : ⊥ = cc in absurd n
open_goes dead j opens = let n : ⊥ = cc in absurd n
open_goes (opened cs hold takes since) j opens = refl
open_goes (finished cs) j opens = let n : ⊥ = cc in absurd n

shown_goes : (w : Work) (fate : Fate) (outs : List Container) (starts : List Start) (shows : ShowsStart) (p : State) (j : ℕ) → is_open_phase (phase_of (fate_of p) j) ≡ true
    → ShowsWork w fate outs starts shows (Program p) → is_waiting fate ≡ false
shown_goes (RunsProgram w) fate outs starts shows p j opens is = ap is_waiting (sym is.stands) ∙ open_goes p j opens
shown_goes (Block g) fate outs starts shows p j opens is = absurd is
shown_goes (Process t) fate outs starts shows p j opens is = absurd is

-- ---- one step down

number_of : (j i : ℕ) → attempt_place j ≡ Some i → j ≡ i + 1
number_of zero i is = absurd (none-some i is)
number_of (suc j) i is = let same : j ≡ i = cc in omega arith

-- the scope of an attempt is that of one that has started
record ShowsScopeOf (ts : List Template) (depth : ℕ) (k : Known) (g : Graph) (input : Container) (q : Part) (h : Graph) (t : ScopeState) : Type 0 where
  place : ℕ
  activity : Activity
  number : ℕ
  start : Start
  is : slice_get (out-Graph g).activities place ≡ Some activity
  of : graph_in ts activity.work ≡ Some h
  named : part activity.name start.attempt ≡ q
  started : slice_get (started_in ts depth k g input place activity) number ≡ Some start
  shows : ShowsWithin ts depth (at q k) h start.input t

inside_shows : (ts : List Template) (depth : ℕ) (k : Known) (g : Graph) (input : Container) (s : ScopeState) (q : Part) (h : Graph) (t : ScopeState) → Shows ts depth k g input s → IsInside ts g s q h t
    → ShowsScopeOf ts depth k g input q h t
inside_shows ts depth k g input s q h t shows inside =
    let a = inside.place in
    let activity = inside.activity in
    let one = started_at_place ts depth k g input s a activity h inside.nested inside.number t shows inside.is inside.runs inside.stated inside.found in
    let numbered = started_numbered ts k (output ts depth) g input (tree_ends ts depth k g input) a activity inside.number one.start one.started in
    let attempt : one.start.attempt ≡ q.attempt = numbered ∙ sym (number_of q.attempt inside.number inside.counted) in
    let named : part activity.name one.start.attempt ≡ q = ap (part activity.name) attempt ∙ ap (λ n. part n q.attempt) (found_name g q.name a activity inside.named inside.is) in
    record {
      place = a;
      activity = activity;
      number = inside.number;
      start = one.start;
      is = inside.is;
      of = inside.runs;
      named = named;
      started = one.started;
      shows = subst (λ (p : Part). ShowsWithin ts depth (at p k) h one.start.input t) named one.shows;
    }

-- ---- any path

module _ (r : Root) (qf : Note → ℕ) where
  along_settled : (ts : List Template) (item : List Part) (depth : ℕ) (k : Known) (g : Graph) (input : Container) (s : ScopeState) (e : Entry) (b n : ℕ) → Well ts depth g → AreDue r qf ts depth k g input
      → Shows ts depth k g input s → entry_at ts item (stand g s) ≡ Some e → is_open_phase (phase_of (fate_of e.state) e.attempt) ≡ true → Walk (out-Graph e.graph).controls (suc n) b e.number
      → is_settled (ends_of (out-ScopeState e.scope).ends.items b) ≡ true
  along_settled ts [] depth k g input s e b n well due shows there opens walk = absurd (none-some e there)
  along_settled ts (q ∷ []) depth k g input s e b n well due shows there opens walk =
      let here = entry_in (stand g s) q e there in
      let told = told_of ts depth k g input (honest_of r qf ts depth k g input well due) in
      let goes = shown_goes e.activity.work (fate_given ts k (output ts depth) g input (tree_ends ts depth k g input) e.number)
      (attempts ts k (output ts depth) g input (tree_ends ts depth k g input) e.number) (started_in ts depth k g input e.number e.activity)
      (shows_attempt (ShowsWithin ts depth) k e.activity.name (graph_in ts e.activity.work)) e.state e.attempt opens (shows.states e.number e.activity (Program e.state) here.activity here.state) in
      ap (λ (t : ScopeState). is_settled (ends_of (out-ScopeState t).ends.items b)) here.scope ∙ ap is_settled (shows.ends b)
      ∙ walk_settled ts depth k g input well told n b e.number goes (subst (λ (u : Graph). Walk (out-Graph u).controls (suc n) b e.number) here.graph walk)
  along_settled ts (q ∷ (p ∷ ps)) zero k g input s e b n well due shows there opens walk =
      option_and_then_some (entry_at ts (p ∷ ps)) (into ts (stand g s) q) e there (λ x found entered.
      absurd ((inside_shows ts zero k g input s q x.graph x.scope shows (inside_of ts g s q x found)).shows))
  along_settled ts (q ∷ (p ∷ ps)) (suc depth) k g input s e b n well due shows there opens walk =
      option_and_then_some (entry_at ts (p ∷ ps)) (into ts (stand g s) q) e there (λ x found entered.
      let scope = inside_shows ts (suc depth) k g input s q x.graph x.scope shows (inside_of ts g s q x found) in
      let has : HasScope ts (suc depth) k g input q = record {
        place = scope.place;
        activity = scope.activity;
        attempt = scope.start.attempt;
        input = scope.start.input;
        graph = x.graph;
        named = scope.named;
        of = scope.of;
        starts = listed_starts ts (suc depth) k g input scope.place scope.activity scope.number scope.start scope.is scope.started;
      } in
      along_settled ts (p ∷ ps) depth (at q k) x.graph scope.start.input x.scope e b n (well.inside scope.place scope.activity scope.is x.graph scope.of) (due_inside r qf ts depth k g input well due q has) scope.shows
      entered opens walk)

-- ---- a run

-- what counts of messages was due
run_due : (r : Root) (qf : Note → ℕ) (h : List Event) → Well r.templates r.depth r.graph → TakesFronts (engine r qf) h → AreDue r qf r.templates r.depth (seen (running h)) r.graph r.input
run_due r qf h well fronts = record {
  signals = λ p a b v o was. signal_due r qf well h fronts (nothing r qf) p a b v o was;
  ends = λ q p was. end_due r qf well h fronts (nothing r qf) q p was;
  begins = λ q p was.
      let t = has_times (engine r qf) itself one (taken (running h)) (BeginNote (q ∷ p)) was in
      let d : times (engine r qf) (taken (running h)) (BeginNote (q ∷ p)) ≤ times (engine r qf) (due_now r (running h)) (BeginNote (q ∷ p)) = taken_is_due r qf well h fronts (nothing r qf) (BeginNote (q ∷ p)) in
      let u = due_times r qf (running h) (BeginNote (q ∷ p)) in
      let z = start_below r qf (has_started (running h)) q p in
      omega arith;
}

pub run_settled : (r : Root) (qf : Note → ℕ) (h : List Event) (s : ScopeState) (item : List Part) (e : Entry) (b n : ℕ) → Well r.templates r.depth r.graph → TakesFronts (engine r qf) h
    → Shows r.templates r.depth (seen (running h)) r.graph r.input s → entry_at r.templates item (stand r.graph s) ≡ Some e → is_open_phase (phase_of (fate_of e.state) e.attempt) ≡ true
    → Walk (out-Graph e.graph).controls (suc n) b e.number → is_settled (ends_of (out-ScopeState e.scope).ends.items b) ≡ true
run_settled r qf h s item e b n well fronts shows there opens walk =
    along_settled r qf r.templates item r.depth (seen (running h)) r.graph r.input s e b n well (run_due r qf h well fronts) shows there opens walk
