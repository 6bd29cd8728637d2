-- The rows that SHOW shows of a right root are the machine's.
use Rattle.std.proofs.Common.{◌≡◌, ℕ, zero, suc, ◌+◌, ◌≤◌, List, [], ◌∷◌, Option, Some, None, if◌then◌else◌, flat_map}
use Rattle.std.proofs.Common.{refl, sym, ap, subst, ◌∙◌, arith, length, option_map}
use Rattle.std.specs.Prelude.{slice_get}
use Rattle.std.proofs.Math.Path.{fun_ext}
use Rattle.core_laws.specs.RightStates.{IsRightState, IsRightRoot, input_now}
use Rattle.flow_core.specs.Answers.{instance_of, AreRowsOf, IsShown}
use Rattle.flow_core.specs.Driving.{templates}
use Rattle.flow_core.specs.declared.state.Core.{Core}
use Rattle.flow_model.specs.Rows.{below}
use Rattle.flow_model.specs.ScopeContainers.{graph_in, up_to}
use Rattle.flow_model.specs.Scopes.{part}
use Rattle.flow_model.specs.declared.graphs.Activity.{Activity}
use Rattle.flow_model.specs.declared.graphs.Graph.{Graph, out-Graph}
use Rattle.flow_model.specs.declared.graphs.Template.{Template}
use Rattle.flow_model.specs.declared.instances.FateRow.{FateRow}
use Rattle.flow_model.specs.declared.instances.Path.{Path}
use Rattle.machine.specs.Rows.{Standing, Item, Inner, Row, Scopes, inside}
use Rattle.machine.specs.Answers as machine
use Rattle.machine.specs.Answers.{ShowRows}
use Rattle.machine_scopes.specs.Seen.{scopes_of}
use Rattle.navigator.specs.Serving.{Served}
use Rattle.navigator.specs.declared.instance.Instance.{Instance}
use Rattle.view_laws.specs.Runs.{Event, seen, running}
use Rattle.machine_laws.specs.Viewed.{view, root_of}
use Rattle.machine_laws.proofs.ShownRows.{shown_rows}

-- ---- more levels show no more rows

-- two ways to show the scopes inside a scope, which agree on the graphs that its activities run
module _ (ts : List Template) (rows rows' : ShowRows) (P : Graph → Type 0)
    (same : (h : Graph) (s : Scopes) (path : Path) → P h → rows h s path ≡ rows' h s path) where
  begun_same : (h : Graph) (s : Scopes) (path : Path) (o : Option Row) → P h
      → machine.begun_rows rows h s path o ≡ machine.begun_rows rows' h s path o
  begun_same h s path None is = refl
  begun_same h s path (Some r) is = ap (λ xs. if r.begun then xs else []) (same h s path is)

  inner_same : (path : Path) (activity : Activity) (a : ℕ) (s : Scopes) (o : Option Graph) (standing : Standing)
      → ((h : Graph) → o ≡ Some h → P h)
      → machine.inner_rows rows path activity a s o standing ≡ machine.inner_rows rows' path activity a s o standing
  inner_same path activity a s None standing is = refl
  inner_same path activity a s (Some h) (Item p) is = refl
  inner_same path activity a s (Some h) (Inner stage n) is =
      ap (λ f. flat_map f (up_to n 0))
      (fun_ext (λ i. begun_same h (inside a i s) (below path (part activity.name (i + 1))) (s ((a, i) ∷ []))
      (is h refl)))

  place_same : (path : Path) (s : Scopes) (a : ℕ) (o : Option Activity) (standing : Option Standing)
      → ((activity : Activity) → o ≡ Some activity → (h : Graph) → graph_in ts activity.work ≡ Some h → P h)
      → machine.place_rows ts rows path s a o standing ≡ machine.place_rows ts rows' path s a o standing
  place_same path s a None standing is = refl
  place_same path s a (Some activity) None is = refl
  place_same path s a (Some activity) (Some standing) is =
      ap (λ xs. record { scope = path; name = activity.name; fate = machine.standing_fate standing } ∷ xs)
      (inner_same path activity a s (graph_in ts activity.work) standing (is activity refl))

  pub scope_same : (g : Graph)
      → ((a : ℕ) (activity : Activity) (h : Graph) → slice_get (out-Graph g).activities a ≡ Some activity
      → graph_in ts activity.work ≡ Some h → P h) → (s : Scopes) (path : Path) (o : Option Row)
      → machine.scope_rows ts rows g s path o ≡ machine.scope_rows ts rows' g s path o
  scope_same g is s path None = refl
  scope_same g is s path (Some r) =
      ap (λ f. flat_map f (up_to (length (out-Graph g).activities) 0))
      (fun_ext (λ a. place_same path s a (slice_get (out-Graph g).activities a) (slice_get r.standings a)
      (λ activity there h runs. is a activity h there runs)))

-- a graph that nests no deeper has the same rows with more levels
more_levels : (ts : List Template) (depth n : ℕ) → depth ≤ n → (g : Graph) (s : Scopes) (path : Path) → Served ts depth g
    → machine.rows_within ts (suc n) g s path ≡ machine.rows_within ts (suc depth) g s path
more_levels ts zero n le g s path served =
    scope_same ts (machine.rows_within ts n) (machine.rows_within ts zero) (λ h. ⊥)
    (λ h t p never. absurd never) g served.inside s path (s [])
more_levels ts (suc depth) zero le g s path served = absurd (omega arith)
more_levels ts (suc depth) (suc n) le g s path served =
    scope_same ts (machine.rows_within ts (suc n)) (machine.rows_within ts (suc depth)) (Served ts depth)
    (λ h t p inner. more_levels ts depth n (omega arith) h t p inner) g served.inside s path (s [])

-- ---- the reply

module _ (c : Core) (root : ℕ) (h : List Event) (i : Instance) (was : IsRightRoot c root h i) where
  -- the rows with as many levels as its process has
  rows_so : (rows : List FateRow) → AreRowsOf c.store i rows
      → rows ≡ machine.rows_within (templates c) (suc was.right.depth) was.right.graph (scopes_of i.scope)
      (machine.root_path root)
  rows_so rows are =
      are was.right.graph was.right.process was.right.depth (seen (running h)) (input_now c root) was.right.shows
      ∙ (shown_rows (templates c) (suc was.right.depth) (seen (running h)) was.right.graph (input_now c root) i.scope
      (machine.root_path i.root) was.right.shows
      ∙ ap (λ n. machine.rows_within (templates c) (suc was.right.depth) was.right.graph (scopes_of i.scope)
      (machine.root_path n)) was.number)

  -- those are all
  all_so : (rows : List FateRow)
      → rows ≡ machine.rows_within (templates c) (suc was.right.depth) was.right.graph (scopes_of i.scope)
      (machine.root_path root) → (levels : ℕ) → suc was.right.depth ≤ levels
      → rows ≡ machine.rows_within (templates c) levels was.right.graph (scopes_of i.scope) (machine.root_path root)
  all_so rows are zero enough = absurd (omega arith)
  all_so rows are (suc n) enough =
      are ∙ sym (more_levels (templates c) was.right.depth n (omega (arith, enough)) was.right.graph
      (scopes_of i.scope) (machine.root_path root) was.right.served.served)

  view_so : (rows : List FateRow) → AreRowsOf c.store i rows
      → machine.AreAllRows (templates c) was.right.graph (scopes_of i.scope) (machine.root_path root) rows
  view_so rows are = record { enough = suc was.right.depth; all = all_so rows (rows_so rows are) }

pub show_seen : (c : Core) (runs : ℕ → List Event) (root : ℕ) (text : List ℕ) → IsRightState c runs
    → IsShown c.store root (instance_of c root) text
    → machine.ShowSays (templates c) root ((view c).roots root) text
show_seen c runs root text right is = by (instance_of c root) refl is
  where
    by : (o : Option Instance) → instance_of c root ≡ o → IsShown c.store root o text
        → machine.ShowSays (templates c) root (option_map root_of o) text
    by None absent told = told
    by (Some i) live told =
        let was = right.are root i live in
        subst (λ g. machine.ViewSays (templates c) root (root_of i) g text) (sym was.right.process)
        (told.0, view_so c root (runs root) i was told.0 told.1, told.2)
