-- What is overdue in two states of the engine that the machine sees as one.
use Rattle.std.proofs.Common.{◌≡◌, inl, inr, ℕ, zero, suc, ◌+◌, ◌≤◌, Bool, true, false, List, [], ◌∷◌, ◌++◌, Option, Some, None, map}
use Rattle.std.proofs.Common.{option_map, option_and_then, refl, sym, ap, ap₂, subst, ◌∙◌, arith}
use Rattle.std.proofs.Math.Path.{fun_ext}
use Rattle.std.proofs.lemmas.Cmp.{nat_cmp_total, nat_list_cmp_total}
use Rattle.std.proofs.lemmas.Map.Lookups.{exact_unsigned, exact_bytes}
use Rattle.std.proofs.lemmas.Map.Text.{is_eq-slice_cmp}
use Rattle.std.specs.BTreeMap.{is_at}
use Rattle.std.specs.Cmp.Lexicographic.{slice_cmp}
use Rattle.std.specs.List.{filter, filter_map, cons_option}
use Rattle.std.specs.Map.{lookup}
use Rattle.std.specs.Prelude.{bytes_eq}
use Rattle.std.specs.Ordering.{nat_cmp}
use Rattle.activity_states.specs.States.{hold_of, since_of}
use Rattle.core_laws.specs.RightStates.{IsRightState, IsRightRoot, input_now}
use Rattle.deadlines.specs.Lateness.{People, AreDeclared, AreOverdue, late_of, latest, minutes_late}
use Rattle.deadlines.specs.Lateness.{notified_by}
use Rattle.deadlines.specs.Texts.{overdue_lines}
use Rattle.deadlines.specs.declared.late.Late.{Late}
use Rattle.flow_core.specs.Allowing.{mode_in}
use Rattle.flow_core.specs.Answers.{instance_of, AreRowsOf}
use Rattle.flow_core.specs.Driving.{item_of, program_in, templates}
use Rattle.flow_core.specs.OpenItems.{HasRisingRoots, Open, told_of, open_by, open_at, attempt_left, attempt_of, open_in}
use Rattle.flow_core.specs.OpenItems.{AreOpenIf, AreOpenOf, AreOpenIn}
use Rattle.flow_core.specs.Refusals.{is_going}
use Rattle.flow_core.specs.declared.open_items.OpenItem.{OpenItem}
use Rattle.flow_core.specs.declared.state.Core.{Core}
use Rattle.flow_core.specs.declared.state.Root.{Root}
use Rattle.flow_model.specs.ScopeContainers.{graph_of}
use Rattle.flow_model.specs.declared.graphs.Graph.{Graph}
use Rattle.flow_model.specs.declared.graphs.Program.{Program as ProgramOf}
use Rattle.flow_model.specs.declared.graphs.Template.{Template}
use Rattle.flow_model.specs.declared.instances.FateRow.{FateRow}
use Rattle.flow_model.specs.declared.instances.Path.{Path}
use Rattle.flow_model.specs.declared.names.Name.{Name}
use Rattle.machine.specs.Answers as machine
use Rattle.machine.specs.Rows.{Scopes}
use Rattle.machine.specs.States as m
use Rattle.machine.specs.Items as mi
use Rattle.machine.specs.Verdicts as verdicts
use Rattle.machine_laws.specs.Viewed.{view, root_of, entry_of}
use Rattle.machine_laws.proofs.Seen.{items}
use Rattle.machine_laws.proofs.ShownRows.{shown_rows}
use Rattle.machine_scopes.specs.Seen.{scopes_of}
use Rattle.machine_laws.proofs.SeenShows.{scope_same}
use Rattle.machine_laws.proofs.Subjects.{performers}
use Rattle.navigator.specs.Items.{Entry}
use Rattle.navigator.specs.Serving.{Served}
use Rattle.navigator.specs.declared.instance.Instance.{Instance}
use Rattle.staff_worklists.specs.Rights.{is_eligible}
use Rattle.view_laws.specs.Runs.{Event, seen, running}
use Rattle.deadline_laws.specs.Overdue.{OverdueIsOne}
use Rattle.deadline_laws.proofs.Entries.{Stands, seen_at, AreAlike, found, alike, same_entries}

-- ---- what is said of an open item goes by what is told of it

abbrev told_late : ℕ → People → Open → Option Late
told_late clock people t = option_map (λ minutes.
    record {
      item = t.item;
      minutes = minutes;
      notify = notified_by t.hold
          (map (λ e. e.1.name) (filter (λ e. is_eligible e.1 t.program t.starter t.performer) people)) t.starter;
    })
    (minutes_late clock t.since t.program.expires)

late_told : (clock : ℕ) (people : People) (opens : List OpenItem)
    → filter_map (late_of clock people) opens ≡ filter_map (told_late clock people) (map told_of opens)
late_told clock people [] = refl
late_told clock people (o ∷ opens) = ap (λ ls. cons_option (late_of clock people o) ls) (late_told clock people opens)

-- ---- the open item of a path

-- by what the machine sees
abbrev seen_open : Path → mi.Entry → ProgramOf → Name → Open
seen_open path e p starter = record {
  item = path;
  since = since_of e.state;
  program = p;
  hold = hold_of e.state;
  starter = starter;
  performer = verdicts.performer_by e p.by;
}

abbrev open_seen : m.State → Path → Option Open
open_seen x path =
    option_and_then (λ e. option_and_then (λ p. option_map (seen_open path e p)
    (option_map (λ r. r.starter) (x.roots path.root))) (program_in e.activity.work)) (m.item_of x path)

by_starter : (path : Path) (e : Entry) (p : ProgramOf) (o : Option Instance)
    → option_map (open_by path e p) (option_map (λ i. i.starter) o)
    ≡ option_map (seen_open path (entry_of e) p) (option_map (λ r. r.starter) (option_map root_of o))
by_starter path e p None = refl
by_starter path e p (Some i) =
    ap (λ x. Some (record {
      item = path;
      since = since_of e.state;
      program = p;
      hold = hold_of e.state;
      starter = i.starter;
      performer = x;
    })) (sym (performers e p.by))

by_program : (path : Path) (e : Entry) (o : Option Instance) (p : Option ProgramOf)
    → option_and_then (λ q. option_map (open_by path e q) (option_map (λ i. i.starter) o)) p
    ≡ option_and_then (λ q. option_map (seen_open path (entry_of e) q)
    (option_map (λ r. r.starter) (option_map root_of o))) p
by_program path e o None = refl
by_program path e o (Some p) = by_starter path e p o

by_entry : (path : Path) (o : Option Instance) (e : Option Entry)
    → option_and_then (λ x. option_and_then (λ q. option_map (open_by path x q) (option_map (λ i. i.starter) o))
    (program_in x.activity.work)) e
    ≡ option_and_then (λ x. option_and_then (λ q. option_map (seen_open path x q)
    (option_map (λ r. r.starter) (option_map root_of o))) (program_in x.activity.work)) (option_map entry_of e)
by_entry path o None = refl
by_entry path o (Some e) = by_program path e o (program_in e.activity.work)

open_so : (c : Core) (path : Path) → open_at c path ≡ open_seen (view c) path
open_so c path =
    by_entry path (instance_of c path.root) (item_of c path)
    ∙ ap (λ o. option_and_then (λ e. option_and_then (λ p. option_map (seen_open path e p)
    (option_map (λ r. r.starter) ((view c).roots path.root))) (program_in e.activity.work)) o) (sym (items c path))

-- ---- the rows of a root

-- a graph that nests no deeper has the same rows with more levels
more_levels : (ts : List Template) (depth n : ℕ) → depth ≤ n → (g : Graph) (s : Scopes) (path : Path) → Served ts depth g
    → machine.rows_within ts (suc n) g s path ≡ machine.rows_within ts (suc depth) g s path
more_levels ts zero n le g s path served =
    scope_same ts (machine.rows_within ts n) (machine.rows_within ts zero) (λ h. ⊥)
    (λ h t p never. absurd never) g served.inside s path (s [])
more_levels ts (suc depth) zero le g s path served = absurd (omega arith)
more_levels ts (suc depth) (suc n) le g s path served =
    scope_same ts (machine.rows_within ts (suc n)) (machine.rows_within ts (suc depth)) (Served ts depth)
    (λ h t p inner. more_levels ts depth n (omega arith) h t p inner) g served.inside s path (s [])

levels_one : (ts : List Template) (d d' : ℕ) (g : Graph) (s : Scopes) (path : Path) → Served ts d g → Served ts d' g
    → machine.rows_within ts (suc d) g s path ≡ machine.rows_within ts (suc d') g s path
levels_one ts d d' g s path first second =
    sym (more_levels ts d (d + d') (omega arith) g s path first)
    ∙ more_levels ts d' (d + d') (omega arith) g s path second

rows_moved : (ts ts' : List Template) (d d' : ℕ) (g g' : Graph) (s s' : Scopes) (path : Path) → ts' ≡ ts → g' ≡ g
    → s' ≡ s → Served ts d g → Served ts' d' g'
    → machine.rows_within ts (suc d) g s path ≡ machine.rows_within ts' (suc d') g' s' path
rows_moved ts ts' d d' g g' s s' path templates_same graph_same scopes_same first second =
    let moved : Served ts d' g =
    subst (λ xs. Served xs d' g) templates_same (subst (λ h. Served ts' d' h) graph_same second) in
    levels_one ts d d' g s path first moved
    ∙ ap (λ xs. machine.rows_within xs (suc d') g s path) (sym templates_same)
    ∙ ap (λ h. machine.rows_within ts' (suc d') h s path) (sym graph_same)
    ∙ ap (λ t. machine.rows_within ts' (suc d') g' t path) (sym scopes_same)

module _ (c : Core) (root : ℕ) (h : List Event) (i : Instance) (was : IsRightRoot c root h i) where
  rows_so : (rows : List FateRow) → AreRowsOf c.store i rows
      → rows ≡ machine.rows_within (templates c) (suc was.right.depth) was.right.graph (scopes_of i.scope)
      (machine.root_path root)
  rows_so rows are =
      are was.right.graph was.right.process was.right.depth (seen (running h)) (input_now c root) was.right.shows
      ∙ (shown_rows (templates c) (suc was.right.depth) (seen (running h)) was.right.graph (input_now c root) i.scope
      (machine.root_path i.root) was.right.shows
      ∙ ap (λ n. machine.rows_within (templates c) (suc was.right.depth) was.right.graph (scopes_of i.scope)
      (machine.root_path n)) was.number)

same_some : {X : Type 0} (x y : X) → Some x ≡ Some y → x ≡ y
same_some x y is = cc

-- ---- two states

abbrev root_seen : Root → m.Root
root_seen r = root_of r.instance

fused : (o : Option Root) → option_map root_seen o ≡ option_map root_of (option_map (λ r. r.instance) o)
fused None = refl
fused (Some r) = refl

module _ (c c' : Core) (runs runs' : ℕ → List Event) (right : IsRightState c runs) (right' : IsRightState c' runs')
    (same : view c' ≡ view c) where
  templates_one : templates c' ≡ templates c
  templates_one = ap (λ x. x.library.templates) same

  open_one : (row : FateRow) → open_in c row ≡ open_in c' row
  open_one row =
      ap (λ f. option_and_then f (attempt_left row.fate))
      (fun_ext (λ j. open_so c (attempt_of row j) ∙ ap (λ x. open_seen x (attempt_of row j)) (sym same)
      ∙ sym (open_so c' (attempt_of row j))))

  module _ (root : ℕ) (i i' : Instance) (live : instance_of c root ≡ Some i) (live' : instance_of c' root ≡ Some i')
      (alike_here : root_of i ≡ root_of i') where
    graphs_one : (was : IsRightRoot c root (runs root) i) (was' : IsRightRoot c' root (runs' root) i')
        → was'.right.graph ≡ was.right.graph
    graphs_one was was' =
        same_some was'.right.graph was.right.graph
        (sym was'.right.process ∙ ap (λ ts. graph_of ts i'.template) templates_one
        ∙ ap (λ r. graph_of (templates c) r.template) (sym alike_here) ∙ was.right.process)

    rows_one : (rows rows' : List FateRow) → AreRowsOf c.store i rows
        → AreRowsOf c'.store i' rows' → rows ≡ rows'
    rows_one rows rows' are are' =
        let was = right.are root i live in
        let was' = right'.are root i' live' in
        rows_so c root (runs root) i was rows are
        ∙ rows_moved (templates c) (templates c') was.right.depth was'.right.depth was.right.graph was'.right.graph
        (scopes_of i.scope) (scopes_of i'.scope) (machine.root_path root) templates_one (graphs_one was was')
        (ap (λ r. r.scopes) (sym alike_here)) was.right.served.served was'.right.served.served
        ∙ sym (rows_so c' root (runs' root) i' was' rows' are')

    open_if_one : (going : Bool) (opens opens' : List Open) → AreOpenIf c i going opens → AreOpenIf c' i' going opens'
        → opens ≡ opens'
    open_if_one false opens opens' is is' = is ∙ sym is'
    open_if_one true opens opens' is is' =
        is.2 ∙ ap (λ rows. filter_map (open_in c) rows) (rows_one is.0 is'.0 is.1 is'.1)
        ∙ ap (λ f. filter_map f is'.0) (fun_ext open_one) ∙ sym is'.2

    open_of_one : (opens opens' : List Open) → AreOpenOf c i opens → AreOpenOf c' i' opens' → opens ≡ opens'
    open_of_one opens opens' is is' =
        open_if_one (is_going (mode_in i)) opens opens' is
        (subst (λ r. AreOpenIf c' i' (is_going (verdicts.mode_in r)) opens') (sym alike_here) is')

  -- all roots
  open_in_one : (rs qs : List (ℕ × Root)) → AreAlike nat_cmp nat_cmp_total exact_unsigned root_seen rs qs
      → ((e : ℕ × Root) → Stands e rs → instance_of c e.0 ≡ Some e.1.instance)
      → ((e : ℕ × Root) → Stands e qs → instance_of c' e.0 ≡ Some e.1.instance) → (opens opens' : List Open)
      → AreOpenIn c rs opens → AreOpenIn c' qs opens' → opens ≡ opens'
  open_in_one [] [] are first second opens opens' is is' = is ∙ sym is'
  open_in_one [] (q ∷ qs) are first second opens opens' is is' = absurd are
  open_in_one (r ∷ rs) [] are first second opens opens' is is' = absurd are
  open_in_one (r ∷ rs) (q ∷ qs) are first second opens opens' is is' =
      let there = subst (λ n. instance_of c' n ≡ Some q.1.instance) (sym are.0) (second q (inl refl)) in
      let here = open_of_one r.0 r.1.instance q.1.instance (first r (inl refl)) there are.1 is.0 is'.0 is.2 is'.2 in
      let behind = open_in_one rs qs are.2 (λ e at. first e (inr at)) (λ e at. second e (inr at)) is.1 is'.1 is.3 is'.3 in
      is.4 ∙ ap₂ (λ xs ys. xs ++ ys) here behind ∙ sym is'.4

  module _ (rising : HasRisingRoots c) (rising' : HasRisingRoots c') where
    roots_alike : AreAlike nat_cmp nat_cmp_total exact_unsigned root_seen c.live_roots.entries c'.live_roots.entries
    roots_alike =
        alike nat_cmp nat_cmp_total exact_unsigned root_seen c.live_roots.entries c'.live_roots.entries rising rising'
        (λ k. fused (lookup (is_at (nat_cmp k)) c.live_roots.entries) ∙ ap (λ x. x.roots k) (sym same)
        ∙ sym (fused (lookup (is_at (nat_cmp k)) c'.live_roots.entries)))

    opens_one : (opens opens' : List Open) → AreOpenIn c c.live_roots.entries opens
        → AreOpenIn c' c'.live_roots.entries opens' → opens ≡ opens'
    opens_one opens opens' is is' =
        open_in_one c.live_roots.entries c'.live_roots.entries roots_alike
        (λ e at. ap (option_map (λ r. r.instance))
        (found nat_cmp nat_cmp_total exact_unsigned root_seen c.live_roots.entries rising e at))
        (λ e at. ap (option_map (λ r. r.instance))
        (found nat_cmp nat_cmp_total exact_unsigned root_seen c'.live_roots.entries rising' e at))
        opens opens' is is'

  by_name : (people : People) (k : List ℕ)
      → seen_at (slice_cmp nat_cmp) nat_list_cmp_total exact_bytes (λ x. x) k people
      ≡ option_map (λ x. x) (lookup (bytes_eq k) people)
  by_name people k = ap (λ t. option_map (λ x. x) (lookup t people)) (fun_ext (is_eq-slice_cmp k))

  people_one : (people people' : People) → AreDeclared c.store people
      → AreDeclared c'.store people' → people ≡ people'
  people_one people people' are are' =
      same_entries (slice_cmp nat_cmp) nat_list_cmp_total exact_bytes people people'
      (alike (slice_cmp nat_cmp) nat_list_cmp_total exact_bytes (λ x. x) people people' are.0 are'.0
      (λ k. by_name people k
      ∙ ap (option_map (λ x. x)) (are.1 k ∙ ap (λ x. latest x.library.people k) (sym same) ∙ sym (are'.1 k))
      ∙ sym (by_name people' k)))

  lates_one : (lates lates' : List Late) → AreOverdue c lates → AreOverdue c' lates' → lates ≡ lates'
  lates_one lates lates' is is' =
      is.4 ∙ late_told c.clock is.0 is.2
      ∙ ap₂ (λ people opens. filter_map (told_late c.clock people) opens) (people_one is.0 is'.0 is.1 is'.1)
      (opens_one is.3.0 is'.3.0 (map told_of is.2) (map told_of is'.2) is.3.1 is'.3.1)
      ∙ ap (λ x. filter_map (told_late x.clock is'.0) (map told_of is'.2)) (sym same)
      ∙ sym (late_told c'.clock is'.0 is'.2) ∙ sym is'.4

pub overdue_is_one : OverdueIsOne
overdue_is_one c c' text text' right right' same is is' =
    is'.2 ∙ ap overdue_lines (sym (lates_one c c' right.0 right'.0 right.1 right'.1 same is.0 is'.0
    is.1 is'.1)) ∙ sym is.2
