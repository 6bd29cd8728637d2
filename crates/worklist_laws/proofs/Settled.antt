-- In a right root, whoever an open item asks for has performed what is settled: where performers come before.
use Rattle.std.proofs.Common.{◌≡◌, ℕ, zero, suc, true, List, [], ◌∷◌, Some, sym, ap, subst, arith}
use Rattle.std.specs.List.{All}
use Rattle.std.specs.Prelude.{slice_get}
use Rattle.std.proofs.lemmas.Option.{none-some, option_and_then_some}
use Rattle.core_laws.specs.RightStates.{note_queue, input_now, IsRightRoot}
use Rattle.flow_core.specs.Driving.{program_in, templates}
use Rattle.flow_core.specs.declared.state.Core.{Core}
use Rattle.flow_model.specs.ScopeContainers.{graph_of}
use Rattle.flow_model.specs.declared.graphs.Graph.{Graph, out-Graph}
use Rattle.flow_model.specs.declared.graphs.Program.{Program as ProgramOf}
use Rattle.flow_model.specs.declared.graphs.Template.{Template}
use Rattle.flow_model.specs.declared.graphs.Work.{Work, Program, Block, Process}
use Rattle.flow_model.specs.declared.instances.Part.{Part}
use Rattle.item_laws.proofs.Entering.{entry_in, inside_of}
use Rattle.item_laws.proofs.Sources.{run_settled}
use Rattle.navigator.specs.Items.{Entry, Stand, stand, into, entry_at}
use Rattle.navigator.specs.declared.instance.Instance.{Instance}
use Rattle.root_laws.specs.RightRoots.{root_in}
use Rattle.template_check.specs.Built.{PerformersComeBefore, ComeBeforeTo, AreSound}
use Rattle.template_check.proofs.Together.{performed_together}
use Rattle.view_laws.specs.Runs.{Event}
use Rattle.worklist_laws.proofs.SameLines.{AsksSettled}
use Rattle.worklist_laws.specs.Shelved.{is_open_entry}

-- performers come before in each graph of a library, at every depth
abbrev pub ComeBefore : List Template → Type 0
ComeBefore ts = (t : ℕ) (g : Graph) → graph_of ts t ≡ Some g → (depth : ℕ) → ComeBeforeTo ts depth g

-- so they do in a sound one
pub sound_before : (ts : List Template) → AreSound ts → ComeBefore ts
sound_before ts sound t g is depth = listed ts t g (performed_together ts sound depth) is
  where
    listed : (us : List Template) (k : ℕ) (h : Graph) → All (λ u. ComeBeforeTo ts depth u.graph) us → graph_of us k ≡ Some h → ComeBeforeTo ts depth h
    listed [] k h all is = cc
    listed (u ∷ us) zero h all is = let same : u.graph ≡ h = cc in subst (ComeBeforeTo ts depth) same (all 0 u (omega arith))
    listed (u ∷ us) (suc k) h all is = listed us k h (λ n d less. all (suc n) d (omega arith)) is

program_is : (w : Work) (p : ProgramOf) → program_in w ≡ Some p → w ≡ Program p
program_is (Program q) p is = let same : q ≡ p = cc in ap Program same
program_is (Block g) p is = cc
program_is (Process t) p is = cc

-- an item is of an activity of its graph, in which performers come before
record IsBefore (e : Entry) : Type 0 where
  activity : slice_get (out-Graph e.graph).activities e.number ≡ Some e.activity
  before : PerformersComeBefore e.graph

before_along : (ts : List Template) (item : List Part) (here : Stand) (e : Entry) → ((depth : ℕ) → ComeBeforeTo ts depth here.graph) → entry_at ts item here ≡ Some e → IsBefore e
before_along ts [] here e before is = absurd (none-some e is)
before_along ts (q ∷ []) here e before is =
    let one = entry_in here q e is in
    record {
      activity = subst (λ (g : Graph). slice_get (out-Graph g).activities e.number ≡ Some e.activity) (sym one.graph) one.activity;
      before = subst PerformersComeBefore (sym one.graph) (before zero).here;
    }
before_along ts (q ∷ (r ∷ qs)) here e before is =
    option_and_then_some (entry_at ts (r ∷ qs)) (into ts here q) e is (λ x found entered.
    let inside = inside_of ts here.graph here.scope q x found in
    before_along ts (r ∷ qs) x e (λ depth. (before (suc depth)).inside inside.place inside.activity x.graph inside.is inside.runs) entered)

pub right_settles : (c : Core) (root : ℕ) (h : List Event) (i : Instance) (was : IsRightRoot c root h i) → ComeBefore (templates c) → (item : List Part) (e : Entry)
    → entry_at (templates c) item (stand was.right.graph i.scope) ≡ Some e → is_open_entry e ≡ true → AsksSettled e
right_settles c root h i was before item e there opens = λ p runs b asks.
    let right = was.right in
    let found = before_along (templates c) item (stand right.graph i.scope) e (before i.template right.graph right.process) there in
    let walk = found.before e.number b e.activity p found.activity (program_is e.activity.work p runs) asks in
    run_settled (root_in (templates c) right.depth right.graph (input_now c root)) (note_queue c root) h i.scope item e b walk.0 right.served.well right.legal.fronts right.shows there opens walk.1
