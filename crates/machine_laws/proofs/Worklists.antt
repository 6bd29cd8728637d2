-- The worklist of a person over the engine's state is the machine's.
use Rattle.std.proofs.Common.{◌≡◌, ℕ, ◌&&◌, ◌||◌, not, Bool, true, false, List, [], ◌∷◌, map, Option, Some, None}
use Rattle.std.proofs.Common.{if◌then◌else◌, option_map, option_and_then, refl, sym, ap, ◌∙◌}
use Rattle.std.specs.Prelude.{unwrap_or, slice_get, ◌==◌}
use Rattle.std.specs.Option.{option_map_or}
use Rattle.std.proofs.Math.Path.{fun_ext}
use Rattle.std.proofs.lemmas.Bool.{and_parts}
use Rattle.std.proofs.lemmas.Option.{none-some, option_and_then_some, cond_some, same_Some}
use Rattle.activity_states.specs.States.{fate_of, hold_of}
use Rattle.core_laws.specs.RightStates.{IsRightState, input_now}
use Rattle.flow_core.specs.Allowing.{mode_in}
use Rattle.flow_core.specs.Answers.{instance_of}
use Rattle.flow_core.specs.Answers as engine
use Rattle.flow_core.specs.Driving.{templates, item_of, program_in}
use Rattle.flow_core.specs.OpenItems.{starter_of}
use Rattle.flow_core.specs.Shelving.{line_by, if_manual, line_now, ranked, rank_on, rank_now}
use Rattle.flow_core.specs.declared.state.Core.{Core}
use Rattle.flow_model.specs.ScopeContainers.{graph_in, graph_of}
use Rattle.flow_model.specs.declared.graphs.Activity.{Activity}
use Rattle.flow_model.specs.declared.graphs.Graph.{Graph, out-Graph}
use Rattle.flow_model.specs.declared.graphs.PersonDef.{PersonDef}
use Rattle.flow_model.specs.declared.graphs.Template.{Template}
use Rattle.flow_model.specs.declared.instances.ItemLine.{ItemLine}
use Rattle.flow_model.specs.declared.instances.Mode.{Mode}
use Rattle.flow_model.specs.declared.instances.Mode.TheVariants.{Active, Suspended, Done, Terminated}
use Rattle.flow_model.specs.declared.instances.Part.{Part}
use Rattle.flow_model.specs.declared.instances.Path.{Path}
use Rattle.flow_model.specs.declared.instances.Phase.{Phase}
use Rattle.flow_model.specs.declared.instances.Phase.TheVariants.{Ready, Running, Ended}
use Rattle.flow_model.specs.declared.instances.WorkLine.{WorkLine}
use Rattle.item_laws.proofs.DoneScopes.{done_none}
use Rattle.item_laws.specs.OpenItems.{is_open_phase, open_of}
use Rattle.machine.specs.Moves.{graph_under}
use Rattle.machine.specs.Answers as machine
use Rattle.machine.specs.Verdicts as judged
use Rattle.navigator.specs.Instances.{mode_of}
use Rattle.navigator.specs.Items.{Entry, phase_of, stand, entry_at}
use Rattle.navigator.specs.Reading.{place_of}
use Rattle.navigator.specs.Showing.{graph_under as graph_below}
use Rattle.navigator.specs.declared.instance.Instance.{Instance}
use Rattle.navigator.specs.declared.scopes.ScopeState.{out-ScopeState}
use Rattle.staff_worklists.specs.Rights.{is_eligible, holds_it}
use Rattle.staff_worklists.specs.Shelves.{is_held, is_free}
use Rattle.view_laws.specs.Runs.{Event}
use Rattle.worklist_laws.proofs.ExactLines.{reply_exact}
use Rattle.worklist_laws.specs.Exact.{may_see, IsForPerson, IsExact}
use Rattle.worklist_laws.specs.Shelved.{is_open_entry, is_open_now, IsShelved}
use Rattle.machine_laws.specs.Viewed.{view, root_of, entry_of}
use Rattle.machine_laws.proofs.Seen.{items}
use Rattle.machine_laws.proofs.Answers.{IsLive, live_item, subject_so}
use Rattle.machine_laws.proofs.Subjects.{performers}

-- ---- ranks

under_seen : (ts : List Template) (o : Option Activity)
    → graph_under ts o ≡ option_and_then (λ activity. graph_in ts activity.work) o
under_seen ts None = refl
under_seen ts (Some activity) = refl

ranked_seen : (ts : List Template) (q : Part) (p : List Part) (g : Graph)
    → ((h : Graph) → machine.rank_on ts p h ≡ rank_on ts p h) → (o : Option ℕ)
    → machine.ranked q.attempt (λ a. machine.rank_on ts p
    (unwrap_or (graph_under ts (slice_get (out-Graph g).activities a)) g)) o
    ≡ ranked q.attempt (λ a. rank_on ts p (unwrap_or (graph_below ts g (Some a)) g)) o
ranked_seen ts q p g behind None = refl
ranked_seen ts q p g behind (Some a) =
    ap (λ rank. a ∷ q.attempt ∷ rank)
    (ap (λ o. machine.rank_on ts p (unwrap_or o g)) (under_seen ts (slice_get (out-Graph g).activities a))
    ∙ behind (unwrap_or (graph_below ts g (Some a)) g))

ranks_seen : (ts : List Template) (p : List Part) (g : Graph) → machine.rank_on ts p g ≡ rank_on ts p g
ranks_seen ts [] g = refl
ranks_seen ts (q ∷ p) g = ranked_seen ts q p g (λ h. ranks_seen ts p h) (place_of g q.name)

rank_seen : (c : Core) (path : Path) → machine.rank_of (view c) path ≡ rank_now c path
rank_seen c path = by (instance_of c path.root)
  where
    by : (o : Option Instance)
        → option_map (λ g. path.root ∷ machine.rank_on (templates c) path.parts g)
        (option_and_then (λ r. graph_of (templates c) r.template) (option_map root_of o))
        ≡ option_map (λ g. path.root ∷ rank_on (templates c) path.parts g)
        (option_and_then (λ i. graph_of (templates c) i.template) o)
    by None = refl
    by (Some i) =
        ap (λ f. option_map f (graph_of (templates c) i.template))
        (fun_ext (λ g. ap (λ rank. path.root ∷ rank) (ranks_seen (templates c) path.parts g)))

-- ---- modes and phases

terminated_of : (terminated complete suspended : Bool) → mode_of terminated complete suspended ≡ Terminated
    → terminated ≡ true
terminated_of true complete suspended is = refl
terminated_of false true suspended is = let never : ⊥ = cc in absurd never
terminated_of false false true is = let never : ⊥ = cc in absurd never
terminated_of false false false is = let never : ⊥ = cc in absurd never

going_so : (terminated complete suspended : Bool)
    → judged.is_going (mode_of terminated complete suspended) ≡ true → not terminated ≡ true
going_so true complete suspended is = let never : ⊥ = cc in absurd never
going_so false complete suspended is = refl

open_so : (phase : Phase) → (phase ≡ Ended → ⊥) → is_open_phase phase ≡ true
open_so Ready unended = refl
open_so Running unended = refl
open_so Ended unended = absurd (unended refl)

unended_so : (phase : Phase) → is_open_phase phase ≡ true → phase ≡ Ended → ⊥
unended_so phase opens ended =
    let e : true ≡ false = sym opens ∙ ap is_open_phase ended in let never : ⊥ = cc in never

-- what is chosen is there
chosen : {X : Type 0} (b : Bool) (x : Option X) (y : X) → (if b then x else None) ≡ Some y → x ≡ Some y
chosen true x y is = is
chosen false x y is = absurd (none-some y is)

-- ---- an item that is there

module _ (c : Core) (runs : ℕ → List Event) (right : IsRightState c runs) (path : Path) where
  module _ (e : Entry) (is : item_of c path ≡ Some e) (there : IsLive c runs right path e) where
    abbrev line : ItemLine
    line = line_by e there.program there.instance.starter

    abbrev subject : judged.Subject
    subject = record {
      item = entry_of e;
      program = there.program;
      mode = judged.mode_in (root_of there.instance);
      starter = there.instance.starter;
      performer = judged.performer_by (entry_of e) there.program.by;
    }

    line_so : line_now c path ≡ if_manual line
    line_so =
        ap (option_and_then (λ x. option_and_then (λ p. option_and_then (λ starter. if_manual (line_by x p starter))
        (starter_of c path.root)) (program_in x.activity.work))) is
        ∙ (ap (option_and_then (λ p. option_and_then (λ starter. if_manual (line_by e p starter))
        (starter_of c path.root))) there.does
        ∙ ap (λ o. option_and_then (λ starter. if_manual (line_by e there.program starter))
        (option_map (λ i. i.starter) o)) there.live)

    now_so : is_open_now c path ≡ (not there.instance.terminated && is_open_entry e)
    now_so =
        ap (λ o. option_map_or (λ i. not i.terminated) o false && option_map_or is_open_entry (item_of c path) false)
        there.live
        ∙ ap (λ o. not there.instance.terminated && option_map_or is_open_entry o false) is

    -- an open item stands in a root that goes on
    goes_so : not there.instance.terminated ≡ true → is_open_entry e ≡ true → (mode : Mode)
        → mode_in there.instance ≡ mode → judged.is_going (judged.mode_in (root_of there.instance)) ≡ true
    goes_so lives opens Active so = ap judged.is_going so
    goes_so lives opens Suspended so = ap judged.is_going so
    goes_so lives opens Terminated so =
        let ends = terminated_of there.instance.terminated
        ((out-ScopeState there.instance.scope).begun && ((out-ScopeState there.instance.scope).unsettled == 0))
        there.instance.suspended so in
        let e : true ≡ false = sym lives ∙ ap not ends in let never : ⊥ = cc in absurd never
    goes_so lives opens Done so =
        let own = (right.are path.root there.instance there.live).right in
        let none = done_none (templates c) own.depth _ own.graph (input_now c path.root) there.instance.scope
        there.instance.terminated there.instance.suspended own.served.well own.shows so path.parts in
        let some : option_and_then open_of (entry_at (templates c) path.parts (stand own.graph there.instance.scope))
        ≡ Some e.state =
        ap (option_and_then open_of) there.there ∙ ap (λ b. if b then Some e.state else None) opens in
        absurd (none-some e.state (sym none ∙ some))

    -- the person sees the subject where the person may see the line
    sees_so : (person : PersonDef)
        → (holds_it (judged.hold_in subject) person.name || (is_free (judged.hold_in subject)
        && is_eligible person subject.program subject.starter subject.performer)) ≡ may_see person line
    sees_so person =
        ap (λ performer. holds_it (hold_of e.state) person.name || (is_free (hold_of e.state)
        && is_eligible person there.program there.instance.starter performer)) (performers e there.program.by)

  -- the item of a line that the person sees is the machine's
  to_machine : (person : PersonDef) (held : Bool) → IsForPerson c person path held
      → machine.IsForPerson (view c) person path held
  to_machine person held is =
      option_and_then_some (λ x. option_and_then (λ p. option_and_then (λ starter. if_manual (line_by x p starter))
      (starter_of c path.root)) (program_in x.activity.work)) (item_of c path) is.line
      (chosen (is_open_now c path) (line_now c path) is.line is.opens)
      (λ e found rest. of e found (live_item c runs right path e found))
    where
      of : (e : Entry) → item_of c path ≡ Some e → IsLive c runs right path e
          → machine.IsForPerson (view c) person path held
      of e found there =
          let now : (if not there.instance.terminated && is_open_entry e then if_manual (line e found there) else None)
          ≡ Some is.line =
          sym (ap (λ b. if b then line_now c path else None) (now_so e found there)
          ∙ ap (λ o. if not there.instance.terminated && is_open_entry e then o else None) (line_so e found there))
          ∙ is.opens in
          let both = shown (not there.instance.terminated && is_open_entry e) (if_manual (line e found there)) now in
          let opens = and_parts (not there.instance.terminated) (is_open_entry e) both.0 in
          let manual = cond_some there.program.manual (line e found there) is.line both.1 in
          record {
            subject = subject e found there;
            there = subject_so c runs right path e found there;
            goes = goes_so e found there opens.0 opens.1 (mode_in there.instance) refl;
            opens = unended_so (phase_of (fate_of e.state) e.attempt) opens.1;
            manual = manual.0;
            seen = sees_so e found there person ∙ (ap (may_see person) manual.1 ∙ is.seen);
            held_so = is.held_so ∙ ap (λ (l : ItemLine). is_held l.hold) (sym manual.1);
          }
        where
          shown : (b : Bool) (o : Option ItemLine) → (if b then o else None) ≡ Some is.line
              → (b ≡ true) × (o ≡ Some is.line)
          shown true o so = (refl, so)
          shown false o so = absurd (none-some is.line so)

  -- and the item that the machine says is that of a line
  from_machine : (person : PersonDef) (held : Bool) → machine.IsForPerson (view c) person path held
      → IsForPerson c person path held
  from_machine person held is = by (item_of c path) refl
    where
      of : (e : Entry) → item_of c path ≡ Some e → IsLive c runs right path e → IsForPerson c person path held
      of e found there =
          let own = subject e found there in
          let same : own ≡ is.subject =
          same_Some own is.subject (sym (subject_so c runs right path e found there) ∙ is.there) in
          let goes = ap (λ (s : judged.Subject). judged.is_going s.mode) same ∙ is.goes in
          let lives = going_so there.instance.terminated
          ((out-ScopeState there.instance.scope).begun && ((out-ScopeState there.instance.scope).unsettled == 0))
          there.instance.suspended goes in
          let opens = open_so (phase_of (fate_of e.state) e.attempt)
          (λ ended. is.opens (sym (ap judged.phase_in same) ∙ ended)) in
          let manual = ap (λ (s : judged.Subject). s.program.manual) same ∙ is.manual in
          record {
            line = line e found there;
            opens =
                ap (λ b. if b then line_now c path else None) (now_so e found there
                ∙ (ap (λ b. b && is_open_entry e) lives ∙ opens))
                ∙ (line_so e found there ∙ ap (λ b. if b then Some (line e found there) else None) manual);
            seen =
                sym (sees_so e found there person)
                ∙ (ap (λ (s : judged.Subject). holds_it (judged.hold_in s) person.name || (is_free (judged.hold_in s)
                && is_eligible person s.program s.starter s.performer)) same ∙ is.seen);
            held_so = is.held_so ∙ sym (ap (λ (s : judged.Subject). is_held (judged.hold_in s)) same);
          }

      by : (o : Option Entry) → item_of c path ≡ o → IsForPerson c person path held
      by None none =
          absurd (none-some is.subject (sym (ap (option_and_then (λ e. judged.subject_by e
          (program_in e.activity.work) ((view c).roots path.root))) (items c path ∙ ap (option_map entry_of) none))
          ∙ is.there))
      by (Some e) found = of e found (live_item c runs right path e found)

-- ---- the reply

lists_so : (c : Core) (runs : ℕ → List Event) → IsRightState c runs → (person : PersonDef) (lines : List WorkLine)
    → IsExact c person lines → machine.IsWorklist (view c) person lines
lists_so c runs right person lines is = record {
  exactly = λ path held. (
    λ there. to_machine c runs right path person held ((is.exactly path held).0 there),
    λ own. (is.exactly path held).1 (from_machine c runs right path person held own),
  );
  ranks = is.ranks;
  in_order = ap (λ f. map (λ (line : WorkLine). f line.item) lines) (fun_ext (rank_seen c)) ∙ is.ranked;
  rising = is.rising;
}

pub worklist_seen : (c : Core) (runs : ℕ → List Event) (name text : List ℕ) → IsRightState c runs → IsShelved c
    → (found : Option PersonDef) → engine.IsListed c name found text → machine.IsListed (view c) name found text
worklist_seen c runs name text right shelved None is = is
worklist_seen c runs name text right shelved (Some person) is =
    let exact = reply_exact c name text (Some person) shelved is in
    (exact.0, lists_so c runs right person exact.0 exact.1, exact.2)
