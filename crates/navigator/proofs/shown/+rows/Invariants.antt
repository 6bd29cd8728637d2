use Rattle.std.proofs.Common.{◌≡◌, ◌++◌, ℕ, List, take}
use Rattle.flow_model.specs.ScopeContainers.{graph_in}
use Rattle.flow_model.specs.Scopes.{Known, Start}
use Rattle.flow_model.specs.declared.graphs.Container.{Container}
use Rattle.flow_model.specs.declared.instances.Fate.{Fate}
use Rattle.navigator.proofs.RowLists.{first_rows}
use Rattle.navigator.specs.ViewRows.{AreNumbered, inner_rows, rows_within}
use Rattle.navigator.specs.Views.{ShowsWithin, ShowsNested, shows_attempt}
use Rattle.navigator.specs.declared.scopes.ActivityState.{Nested}
use Rattle.navigator.proofs.shown.+rows.Given as goal

abbrev pub invariant-add_inner-loop-i : goal.invariant-add_inner-loop-i
invariant-add_inner-loop-i l =
    (n : ℕ) → (k : Known) → (fate : Fate) → (starts : List Start) → AreNumbered starts
    → ShowsNested fate starts (shows_attempt (ShowsWithin l.library.templates n) k l.activity.name (graph_in l.library.templates l.activity.work)) l.state
    → l.rows ≡ l.initial.rows ++ inner_rows l.library.templates (rows_within l.library.templates n) k l.activity (Nested l.state) l.path (take l.i starts)

abbrev pub invariant-add_rows-loop-place : goal.invariant-add_rows-loop-place
invariant-add_rows-loop-place l =
    (n : ℕ) → (k : Known) → (input : Container) → ShowsWithin l.library.templates n k l.graph input l.scope
    → l.rows ≡ l.initial.rows ++ first_rows l.library.templates n k l.graph input l.scope l.path l.place
