-- The replies to QUEUE, AUDIT, TEMPLATES, OUTPUT and INPUT are the machine's.
use Rattle.std.proofs.Common.{◌≡◌, ℕ, zero, suc, ◌+◌, ◌-◌, ◌<◌, ◌^◌, ◌==◌, ◌&&◌, Bool, true, false, List, [], ◌∷◌}
use Rattle.std.proofs.Common.{Option, Some, None, if◌then◌else◌, option_map, option_and_then, refl, sym, ap, subst}
use Rattle.std.proofs.Common.{◌∙◌, inl, inr, arith}
use Rattle.std.specs.Prelude.{is_some, slice_get}
use Rattle.std.proofs.Math.Path.{fun_ext}
use Rattle.std.proofs.lemmas.Bool.{and_parts}
use Rattle.std.proofs.lemmas.Option.{none-some, option_and_then_some, slice_get_within}
use Rattle.activity_states.specs.States.{output_of}
use Rattle.blocks_subprocs.specs.Ends.{ends_of}
use Rattle.core_laws.specs.RightStates.{IsRightState, IsRightRoot, input_now}
use Rattle.flow_core.specs.Answers.{instance_of, audit_text, mode_now}
use Rattle.flow_core.specs.Answers as engine
use Rattle.flow_core.specs.Containing.{output_text, input_text, IsOutputOf, IsOutputBy, IsOutputAnswer, IsOutputWith}
use Rattle.flow_core.specs.Containing as shown
use Rattle.flow_core.specs.Driving.{templates, item_of, entry_in, entry_with, program_entry, program_in}
use Rattle.flow_core.specs.Replies.{refusal_text}
use Rattle.flow_core.specs.declared.refusals.Refusal.TheVariants as refused
use Rattle.flow_core.specs.declared.state.Core.{Core}
use Rattle.flow_model.specs.Containers.{fresh}
use Rattle.flow_model.specs.Fates.{Ends}
use Rattle.flow_model.specs.ScopeContainers.{fed, is_complete, output_by}
use Rattle.flow_model.specs.Scopes.{output, tree_ends}
use Rattle.flow_model.specs.Wiring.{IsSinking}
use Rattle.flow_model.specs.declared.graphs.Container.{Container}
use Rattle.flow_model.specs.declared.graphs.Graph.{Graph, out-Graph}
use Rattle.flow_model.specs.declared.graphs.MapEnd.TheVariants.{Border}
use Rattle.flow_model.specs.declared.graphs.Program.{Program as ProgramOf}
use Rattle.flow_model.specs.declared.graphs.Template.{Template}
use Rattle.flow_model.specs.declared.instances.Mode.{Mode}
use Rattle.flow_model.specs.declared.instances.Mode.TheVariants.{Active, Suspended, Done, Terminated}
use Rattle.flow_model.specs.declared.instances.Part.{Part}
use Rattle.flow_model.specs.declared.instances.Path.{Path}
use Rattle.item_laws.proofs.Entering.{entry_in as entry_here, inside_of}
use Rattle.machine.specs.Answers as machine
use Rattle.machine.specs.Verdicts as judged
use Rattle.machine_scopes.specs.Seen.{row_of}
use Rattle.navigator.proofs.ReadScopes.{shown_complete}
use Rattle.navigator.specs.Events.{IsUsable}
use Rattle.navigator.specs.Instances.{mode_of}
use Rattle.navigator.specs.Items.{Entry, Stand, stand, into, entry_at, item_input, looped_from, base_at}
use Rattle.navigator.specs.Serving.{Served}
use Rattle.navigator.specs.Steps.{fields}
use Rattle.navigator.specs.declared.instance.Instance.{Instance}
use Rattle.navigator.specs.declared.scopes.ScopeState.{out-ScopeState}
use Rattle.view_laws.specs.Runs.{Event, seen as known_of, running}
use Rattle.machine_laws.specs.Viewed.{view, root_of, entry_of}
use Rattle.machine_laws.proofs.Seen.{items}
use Rattle.machine_laws.proofs.Subjects.{named_seen}

-- ---- AUDIT

pub audit_seen : (c : Core) (root : ℕ) (text : List ℕ) → text ≡ engine.audit_answer c root
    → text ≡ machine.audit_answer (view c) root ((view c).roots root)
audit_seen c root text is = is ∙ by (instance_of c root)
  where
    by : (o : Option Instance)
        → (if is_some o then audit_text root c.live.items else refusal_text (refused.Root root))
        ≡ machine.audit_answer (view c) root (option_map root_of o)
    by None = refl
    by (Some i) = refl

-- ---- OUTPUT

-- what is done is complete
done_complete : (terminated complete suspended : Bool) → mode_of terminated complete suspended ≡ Done → complete ≡ true
done_complete true complete suspended is = let never : ⊥ = cc in absurd never
done_complete false true suspended is = refl
done_complete false false true is = let never : ⊥ = cc in absurd never
done_complete false false false is = let never : ⊥ = cc in absurd never

sinks : (ts : List Template) (depth : ℕ) (g : Graph) → Served ts depth g → IsSinking g
sinks ts zero g served = served.sinking
sinks ts (suc depth) g served = served.sinking

-- a scope that is complete gives what its lines feed to its output
gives : (g : Graph) (input out : Container) (e : Ends) → is_complete g e ≡ true → output_by g input e ≡ Some out
    → out ≡ fed (out-Graph g).lines Border input e (fresh (out-Graph g).output)
gives g input out e complete is =
    let fed_so : output_by g input e ≡ Some (fed (out-Graph g).lines Border input e (fresh (out-Graph g).output)) =
    ap (λ b. if b then Some (fed (out-Graph g).lines Border input e (fresh (out-Graph g).output)) else None) complete in
    let same : Some out ≡ Some (fed (out-Graph g).lines Border input e (fresh (out-Graph g).output)) =
    sym is ∙ fed_so in
    cc

module _ (c : Core) (root : ℕ) (h : List Event) (i : Instance) (was : IsRightRoot c root h i) where
  -- the container that is shown is the one that the machine feeds
  out_so : (out : Container) → mode_now i ≡ Done → IsOutputOf (templates c) was.right.graph i out
      → out ≡ fed (out-Graph was.right.graph).lines Border (out-ScopeState i.scope).input
      (ends_of (out-ScopeState i.scope).ends.items) (fresh (out-Graph was.right.graph).output)
  out_so out done is =
      let right = was.right in
      let g = right.graph in
      let k = known_of (running h) in
      let given = input_now c root in
      let input = (out-ScopeState i.scope).input in
      let complete = (and_parts (k.begun []) (is_complete g (tree_ends (templates c) right.depth k g given))
      (sym (shown_complete (templates c) right.depth k g given i.scope right.shows)
      ∙ done_complete i.terminated ((out-ScopeState i.scope).begun && ((out-ScopeState i.scope).unsettled == 0))
      i.suspended done)).1 in
      let next : right.depth + 1 ≡ suc right.depth = omega arith in
      let told = subst (λ (n : ℕ). output (templates c) n k g given ≡ Some out) next
      (is (sinks (templates c) right.depth g right.served.served) right.depth k given right.shows complete) in
      gives g given out (tree_ends (templates c) right.depth k g given) complete told
      ∙ (ap (λ x. fed (out-Graph g).lines Border x (tree_ends (templates c) right.depth k g given)
      (fresh (out-Graph g).output)) (sym right.shows.reads)
      ∙ ap (λ e. fed (out-Graph g).lines Border input e (fresh (out-Graph g).output)) (sym (fun_ext right.shows.ends)))

  output_so : (text : List ℕ) (mode : Mode) → mode_now i ≡ mode
      → IsOutputBy (templates c) root was.right.graph i mode text
      → text ≡ machine.output_in (templates c) root (root_of i) mode
  output_so text Active is told = told
  output_so text Suspended is told = told
  output_so text Terminated is told = told
  output_so text Done is told =
      told.2 ∙ (ap (output_text root (out-Graph was.right.graph).output) (out_so told.0 is told.1)
      ∙ sym (ap (λ o. machine.output_by root o (Some (row_of (fields i.scope)))) was.right.process))

pub output_seen : (c : Core) (runs : ℕ → List Event) (root : ℕ) (text : List ℕ) → IsRightState c runs
    → IsOutputAnswer c root (instance_of c root) text
    → text ≡ machine.output_answer (templates c) root ((view c).roots root)
output_seen c runs root text right is = by (instance_of c root) refl is
  where
    by : (o : Option Instance) → instance_of c root ≡ o → IsOutputAnswer c root o text
        → text ≡ machine.output_answer (templates c) root (option_map root_of o)
    by None absent told = told
    by (Some i) live told =
        let was = right.are root i live in
        output_so c root (runs root) i was text (mode_now i) refl
        (subst (λ o. IsOutputWith (templates c) root i o text) was.right.process told)

-- ---- INPUT

-- an item that is found is of an activity of its graph, whose wiring can be read
record IsRead (e : Entry) : Type 0 where
  activity : slice_get (out-Graph e.graph).activities e.number ≡ Some e.activity
  usable : IsUsable e.graph

usable_of : (ts : List Template) (depth : ℕ) (g : Graph) → Served ts depth g → IsUsable g
usable_of ts zero g served = served.usable
usable_of ts (suc depth) g served = served.usable

read_along : (ts : List Template) (item : List Part) (depth : ℕ) (here : Stand) (e : Entry)
    → Served ts depth here.graph → entry_at ts item here ≡ Some e → IsRead e
read_along ts [] depth here e served is = absurd (none-some e is)
read_along ts (q ∷ []) depth here e served is =
    let one = entry_here here q e is in
    record {
      activity = subst (λ (g : Graph). slice_get (out-Graph g).activities e.number ≡ Some e.activity)
          (sym one.graph) one.activity;
      usable = subst IsUsable (sym one.graph) (usable_of ts depth here.graph served);
    }
read_along ts (q ∷ (r ∷ qs)) zero here e served is =
    option_and_then_some (entry_at ts (r ∷ qs)) (into ts here q) e is (λ x found entered.
    let inside = inside_of ts here.graph here.scope q x found in
    absurd (served.inside inside.place inside.activity x.graph inside.is inside.runs))
read_along ts (q ∷ (r ∷ qs)) (suc depth) here e served is =
    option_and_then_some (entry_at ts (r ∷ qs)) (into ts here q) e is (λ x found entered.
    let inside = inside_of ts here.graph here.scope q x found in
    read_along ts (r ∷ qs) depth x e
    (served.inside inside.place inside.activity x.graph inside.is inside.runs) entered)

-- an item that is kept runs a program
pub program_of : (o : Option Entry) (e : Entry) → program_entry o ≡ Some e
    → (p : ProgramOf) × (o ≡ Some e) × (program_in e.activity.work ≡ Some p)
program_of None e is = absurd (none-some e is)
program_of (Some x) e is = go (program_in x.activity.work) refl is
  where
    go : (w : Option ProgramOf) → program_in x.activity.work ≡ w → entry_with x w ≡ Some e
        → (p : ProgramOf) × (Some x ≡ Some e) × (program_in e.activity.work ≡ Some p)
    go None runs found = absurd (none-some e found)
    go (Some p) runs found =
        let same : x ≡ e = cc in
        (p, found, subst (λ (y : Entry). program_in y.activity.work ≡ Some p) same runs)

-- the container that an item reads is the one that the machine says
reads_so : (e : Entry) → IsRead e
    → item_input e.graph e.scope e.number e.state e.attempt ≡ machine.item_input (entry_of e)
reads_so e read =
    ap (λ o. looped_from e.graph e.number (base_at e.graph e.scope e.number o) (output_of e.state (e.attempt - 1)))
    read.activity

module _ (c : Core) (runs : ℕ → List Event) (right : IsRightState c runs) where
  -- an item that is there has its root, and runs a program
  pub record IsLive (path : Path) (e : Entry) : Type 0 where
    pub instance : Instance
    pub live : instance_of c path.root ≡ Some instance
    pub program : ProgramOf
    pub does : program_in e.activity.work ≡ Some program
    pub there : entry_at (templates c) path.parts (stand (right.are path.root instance live).right.graph instance.scope)
        ≡ Some e

  pub live_item : (path : Path) (e : Entry) → item_of c path ≡ Some e → IsLive path e
  live_item path e is = by (instance_of c path.root) refl
      (program_of (option_and_then (entry_in (templates c) path) (instance_of c path.root)) e is)
    where
      by : (o : Option Instance) → instance_of c path.root ≡ o
          → (p : ProgramOf) × (option_and_then (entry_in (templates c) path) (instance_of c path.root) ≡ Some e)
          × (program_in e.activity.work ≡ Some p)
          → IsLive path e
      by None absent found =
          absurd (none-some e (sym (ap (option_and_then (entry_in (templates c) path)) absent) ∙ found.1))
      by (Some i) live found = record {
        instance = i;
        live = live;
        program = found.0;
        does = found.2;
        there =
            sym (ap (option_and_then (λ g. entry_at (templates c) path.parts (stand g i.scope)))
            (right.are path.root i live).right.process)
            ∙ (sym (ap (option_and_then (entry_in (templates c) path)) live) ∙ found.1);
      }

  -- the item as the machine sees it, with what its tests ask
  pub subject_so : (path : Path) (e : Entry) → item_of c path ≡ Some e → (there : IsLive path e)
      → judged.subject_of (view c) path ≡ Some (record {
        item = entry_of e;
        program = there.program;
        mode = judged.mode_in (root_of there.instance);
        starter = there.instance.starter;
        performer = judged.performer_by (entry_of e) there.program.by;
      })
  subject_so path e is there =
      ap (option_and_then (λ x. judged.subject_by x (program_in x.activity.work) ((view c).roots path.root)))
      (items c path ∙ ap (option_map entry_of) is)
      ∙ (ap (λ p. judged.subject_by (entry_of e) p ((view c).roots path.root)) there.does
      ∙ ap (λ o. judged.subject_by (entry_of e) (Some there.program) (option_map root_of o)) there.live)

  pub input_seen : (token text : List ℕ) → shown.IsInputAnswer c token text
      → machine.IsInputAnswer (view c) token text
  input_seen token text (inl none) = (None, named_seen c token None none.0, none.1)
  input_seen token text (inr some) =
      let path = some.0 in
      let e = some.1 in
      let there = live_item path e some.3 in
      let read = read_along (templates c) path.parts (right.are path.root there.instance there.live).right.depth
      (stand (right.are path.root there.instance there.live).right.graph there.instance.scope) e
      (right.are path.root there.instance there.live).right.served.served there.there in
      let within = slice_get_within (out-Graph e.graph).activities e.number e.activity read.activity in
      let small = read.usable.small in
      let less : e.number < 2 ^ 32 = omega arith in
      let reads = (some.4.1 less read.usable.feeding read.usable.looping).0 in (
        Some (record {
          item = entry_of e;
          program = there.program;
          mode = judged.mode_in (root_of there.instance);
          starter = there.instance.starter;
          performer = judged.performer_by (entry_of e) there.program.by;
        }),
        (path, some.2, subject_so path e some.3 there),
        (
          path,
          some.2,
          some.4.2 ∙ ap (input_text path e.activity.input) (reads ∙ reads_so e read),
        ),
      )
