-- The open line of a path, by the item to which the path leads in its root.
use Rattle.std.proofs.Common.{◌≡◌, ℕ, Bool, true, false, cond, List, ◌∷◌, Option, Some, None, refl, ap, ap₂, sym, ◌∙◌, subst}
use Rattle.std.specs.Prelude.{◌&&◌, not, option_and_then, option_map}
use Rattle.std.specs.Option.{option_map_or}
use Rattle.std.proofs.lemmas.Option.{none-some, option_and_then_some}
use Rattle.activity_states.specs.States.{State}
use Rattle.flow_core.specs.Answers.{instance_of}
use Rattle.flow_core.specs.Driving.{templates, graph_now, entry_in, program_in, entry_with, program_entry}
use Rattle.flow_core.specs.Shelving.{line_by, if_manual, line_now, rank_on, rank_now}
use Rattle.flow_core.specs.declared.state.Core.{Core}
use Rattle.flow_model.specs.ScopeContainers.{graph_of}
use Rattle.flow_model.specs.declared.graphs.Graph.{Graph}
use Rattle.flow_model.specs.declared.graphs.Program.{Program as ProgramOf}
use Rattle.flow_model.specs.declared.graphs.Template.{Template}
use Rattle.flow_model.specs.declared.instances.ItemLine.{ItemLine}
use Rattle.flow_model.specs.declared.instances.Path.{Path}
use Rattle.flow_model.specs.declared.names.Name.{Name}
use Rattle.item_laws.specs.OpenItems.{open_of}
use Rattle.navigator.specs.Items.{Entry, stand, entry_at}
use Rattle.navigator.specs.declared.instance.Instance.{Instance}
use Rattle.worklist_laws.proofs.Paths.{path_one}
use Rattle.worklist_laws.proofs.Ranks.{Leads, rank_one, entry_leads}
use Rattle.worklist_laws.proofs.Shelves.{AreRanks}
use Rattle.worklist_laws.specs.Shelved.{is_open_entry, open_line}

-- ---- by the root

-- the item of a path in a root
abbrev pub item_from : List Template → Path → Option Instance → Option Entry
item_from ts path o = program_entry (option_and_then (entry_in ts path) o)

abbrev pub line_from : List Template → Path → Option Instance → Option ItemLine
line_from ts path o =
    option_and_then (λ e. option_and_then (λ p. option_and_then (λ starter. if_manual (line_by e p starter)) (option_map (λ i. i.starter) o)) (program_in e.activity.work)) (item_from ts path o)

abbrev pub open_from : List Template → Path → Option Instance → Option ItemLine
open_from ts path o = cond (option_map_or (λ i. not i.terminated) o false && option_map_or is_open_entry (item_from ts path o) false) (line_from ts path o) None

-- a path has the same open line where its root and the library are the same
pub open_same : (c c' : Core) (path : Path) → templates c' ≡ templates c → instance_of c' path.root ≡ instance_of c path.root → open_line c' path ≡ open_line c path
open_same c c' path library root = ap₂ (λ ts o. open_from ts path o) library root

-- one whose root isn't live, or is terminated, has none
pub none_absent : (c : Core) (path : Path) → instance_of c path.root ≡ None → open_line c path ≡ None
none_absent c path absent = ap (open_from (templates c) path) absent

pub none_terminated : (c : Core) (path : Path) (i : Instance) → instance_of c path.root ≡ Some i → i.terminated ≡ true → open_line c path ≡ None
none_terminated c path i live over =
    ap (open_from (templates c) path) live
    ∙ ap (λ b. cond (not b && option_map_or is_open_entry (item_from (templates c) path (Some i)) false) (line_from (templates c) path (Some i)) None) over

-- ---- by the item

-- the line of an item that is there, where it is open
abbrev pub line_of : Name → Entry → Option ItemLine
line_of starter e = option_and_then (λ p. cond (is_open_entry e) (if_manual (line_by e p starter)) None) (program_in e.activity.work)

abbrev pub line_at : Name → Option Entry → Option ItemLine
line_at starter o = option_and_then (λ e. option_and_then (λ p. if_manual (line_by e p starter)) (program_in e.activity.work)) o

with_program : (starter : Name) (e : Entry) (o : Option ProgramOf) → program_in e.activity.work ≡ o
    → cond (option_map_or is_open_entry (entry_with e o) false) (line_at starter (entry_with e o)) None ≡ option_and_then (λ p. cond (is_open_entry e) (if_manual (line_by e p starter)) None) o
with_program starter e None is = refl
with_program starter e (Some p) is = ap (λ q. cond (is_open_entry e) (option_and_then (λ r. if_manual (line_by e r starter)) q) None) is

entry_line : (starter : Name) (o : Option Entry) → cond (option_map_or is_open_entry (program_entry o) false) (line_at starter (program_entry o)) None ≡ option_and_then (line_of starter) o
entry_line starter None = refl
entry_line starter (Some e) = with_program starter e (program_in e.activity.work) refl

-- the open line of a path in a root that goes on
pub open_is : (c : Core) (path : Path) (i : Instance) (g : Graph) → instance_of c path.root ≡ Some i → i.terminated ≡ false → graph_of (templates c) i.template ≡ Some g
    → open_line c path ≡ option_and_then (line_of i.starter) (entry_at (templates c) path.parts (stand g i.scope))
open_is c path i g live runs of =
    ap (open_from (templates c) path) live
    ∙ ap (λ b. cond (not b && option_map_or is_open_entry (item_from (templates c) path (Some i)) false) (line_from (templates c) path (Some i)) None) runs
    ∙ ap (λ o. let e = program_entry (option_and_then (λ h. entry_at (templates c) path.parts (stand h i.scope)) o) in cond (option_map_or is_open_entry e false) (line_at i.starter e) None) of
    ∙ entry_line i.starter (entry_at (templates c) path.parts (stand g i.scope))

-- its line, open or not
pub line_is : (c : Core) (path : Path) (i : Instance) (g : Graph) → instance_of c path.root ≡ Some i → graph_of (templates c) i.template ≡ Some g
    → line_now c path ≡ line_at i.starter (program_entry (entry_at (templates c) path.parts (stand g i.scope)))
line_is c path i g live of =
    ap (line_from (templates c) path) live
    ∙ ap (λ o. line_at i.starter (program_entry (option_and_then (λ h. entry_at (templates c) path.parts (stand h i.scope)) o))) of

-- ---- what is open

-- an item that isn't open has no open line
pub shut_line : (starter : Name) (e : Entry) → is_open_entry e ≡ false → line_of starter e ≡ None
shut_line starter e shut = by (program_in e.activity.work)
  where
    by : (o : Option ProgramOf) → option_and_then (λ p. cond (is_open_entry e) (if_manual (line_by e p starter)) None) o ≡ None
    by None = refl
    by (Some p) = ap (λ b. cond b (if_manual (line_by e p starter)) None) shut

-- nor has a path where nothing is open
open_none : (e : Entry) → open_of e ≡ None → is_open_entry e ≡ false
open_none e none = by (is_open_entry e) none
  where
    by : (b : Bool) → cond b (Some e.state) None ≡ None → b ≡ false
    by false none = refl
    by true none = absurd (none-some e.state (sym none))

pub none_open : (starter : Name) (o : Option Entry) → option_and_then open_of o ≡ None → option_and_then (line_of starter) o ≡ None
none_open starter None none = refl
none_open starter (Some e) none = shut_line starter e (open_none e none)

-- an item that is open in this state
pub record IsOpenEntry (o : Option Entry) (state : State) : Type 0 where
  pub entry : Entry
  pub is : o ≡ Some entry
  pub opens : is_open_entry entry ≡ true
  pub state_is : entry.state ≡ state

pub open_entry : (o : Option Entry) (state : State) → option_and_then open_of o ≡ Some state → IsOpenEntry o state
open_entry None state is = absurd (none-some state is)
open_entry (Some e) state is = by (is_open_entry e) refl is
  where
    by : (b : Bool) → is_open_entry e ≡ b → cond b (Some e.state) None ≡ Some state → IsOpenEntry (Some e) state
    by false shut found = absurd (none-some state found)
    by true opens found = record { entry = e; is = refl; opens = opens; state_is = (let same : e.state ≡ state = cc in same) }

-- its line is its open line
pub open_line_at : (starter : Name) (o : Option Entry) (state : State) → option_and_then open_of o ≡ Some state → line_at starter (program_entry o) ≡ option_and_then (line_of starter) o
open_line_at starter o state opens =
    let one = open_entry o state opens in
    ap (λ x. line_at starter (program_entry x)) one.is ∙ by one.entry one.opens (program_in one.entry.activity.work) refl ∙ ap (option_and_then (line_of starter)) (sym one.is)
  where
    by : (e : Entry) → is_open_entry e ≡ true → (p : Option ProgramOf) → program_in e.activity.work ≡ p
        → line_at starter (entry_with e p) ≡ option_and_then (λ r. cond (is_open_entry e) (if_manual (line_by e r starter)) None) p
    by e opens None is = refl
    by e opens (Some p) is =
        ap (option_and_then (λ r. if_manual (line_by e r starter))) is
        ∙ ap (λ b. cond b (if_manual (line_by e p starter)) None) (sym opens)

-- ---- ranks

-- the root of a path is live, and its names lead to activities
pub record IsNamed (c : Core) (path : Path) : Type 0 where
  pub graph : Graph
  pub live : graph_now c path.root ≡ Some graph
  pub leads : Leads (templates c) path.parts graph

pub rank_is : (c : Core) (path : Path) (g : Graph) → graph_now c path.root ≡ Some g → rank_now c path ≡ Some (path.root ∷ rank_on (templates c) path.parts g)
rank_is c path g live = ap (option_map (λ h. path.root ∷ rank_on (templates c) path.parts h)) live

first_one : (a b : ℕ) (xs ys : List ℕ) → a ∷ xs ≡ b ∷ ys → (a ≡ b) × (xs ≡ ys)
first_one a b xs ys same = (cc, cc)

pub named_ranks : (c : Core) → AreRanks (rank_now c) (IsNamed c)
named_ranks c = record {
  ranked = λ q there. (q.root ∷ rank_on (templates c) q.parts there.graph, rank_is c q there.graph there.live);
  alone = λ p q own there there' is is'.
      let both : Some (p.root ∷ rank_on (templates c) p.parts there.graph) ≡ Some (q.root ∷ rank_on (templates c) q.parts there'.graph)
      = sym (rank_is c p there.graph there.live) ∙ is ∙ sym is' ∙ rank_is c q there'.graph there'.live in
      let ranks : p.root ∷ rank_on (templates c) p.parts there.graph ≡ q.root ∷ rank_on (templates c) q.parts there'.graph = cc in
      let parts = first_one p.root q.root (rank_on (templates c) p.parts there.graph) (rank_on (templates c) q.parts there'.graph) ranks in
      let graphs : Some there'.graph ≡ Some there.graph = sym there'.live ∙ ap (graph_now c) (sym parts.0) ∙ there.live in
      let graph : there'.graph ≡ there.graph = cc in
      path_one p q parts.0
      (rank_one (templates c) p.parts q.parts there.graph there.leads (subst (Leads (templates c) q.parts) graph there'.leads)
      (parts.1 ∙ ap (rank_on (templates c) q.parts) graph));
}

-- a path with an open line is there
pub open_named : (c : Core) (path : Path) (line : ItemLine) → open_line c path ≡ Some line → IsNamed c path
open_named c path line opens = by (instance_of c path.root) refl
  where
    item_there : (i : Instance) (g : Graph) → instance_of c path.root ≡ Some i → graph_of (templates c) i.template ≡ Some g → option_and_then (line_of i.starter) (entry_at (templates c) path.parts (stand g i.scope)) ≡ Some line
        → IsNamed c path
    item_there i g live of is =
        option_and_then_some (line_of i.starter) (entry_at (templates c) path.parts (stand g i.scope)) line is (λ e there found.
        record {
          graph = g;
          live = ap (option_and_then (λ (u : Instance). graph_of (templates c) u.template)) live ∙ of;
          leads = entry_leads (templates c) path.parts (stand g i.scope) e there;
        })

    graph_there : (i : Instance) → instance_of c path.root ≡ Some i → i.terminated ≡ false → (o : Option Graph) → graph_of (templates c) i.template ≡ o → IsNamed c path
    graph_there i live runs None of =
        absurd (none-some line (sym (ap (open_from (templates c) path) live
        ∙ ap (λ o. let e = program_entry (option_and_then (λ h. entry_at (templates c) path.parts (stand h i.scope)) o) in cond (not i.terminated && option_map_or is_open_entry e false) (line_at i.starter e) None) of
        ∙ shut (not i.terminated)) ∙ opens))
      where
        shut : (b : Bool) → ◌≡◌ {A = Option ItemLine} (cond (b && false) None None) None
        shut true = refl
        shut false = refl
    graph_there i live runs (Some g) of = item_there i g live of (sym (open_is c path i g live runs of) ∙ opens)

    runs_or_not : (i : Instance) → instance_of c path.root ≡ Some i → (b : Bool) → i.terminated ≡ b → IsNamed c path
    runs_or_not i live true over = absurd (none-some line (sym (none_terminated c path i live over) ∙ opens))
    runs_or_not i live false runs = graph_there i live runs (graph_of (templates c) i.template) refl

    by : (o : Option Instance) → instance_of c path.root ≡ o → IsNamed c path
    by None absent = absurd (none-some line (sym (none_absent c path absent) ∙ opens))
    by (Some i) live = runs_or_not i live i.terminated refl
