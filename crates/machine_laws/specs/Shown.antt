-- The rows that SHOW shows are a function of the scopes of a root.
use Rattle.std.specs.Prelude.{◌≡◌, ℕ, List}
use Rattle.flow_model.specs.Scopes.{Known}
use Rattle.flow_model.specs.declared.graphs.Container.{Container}
use Rattle.flow_model.specs.declared.graphs.Graph.{Graph}
use Rattle.flow_model.specs.declared.graphs.Template.{Template}
use Rattle.flow_model.specs.declared.instances.Path.{Path}
use Rattle.machine.specs.Answers.{rows_within}
use Rattle.machine_scopes.specs.Seen.{scopes_of}
use Rattle.navigator.specs.ViewRows.{rows_within as view_rows_within}
use Rattle.navigator.specs.Views.{ShowsWithin}
use Rattle.navigator.specs.declared.scopes.ScopeState.{ScopeState}

-- the rows of a view, with whatever levels, are those of the scopes of a state that shows it
abbrev pub RowsAreShown : Type 0
RowsAreShown =
    (ts : List Template) (n : ℕ) (k : Known) (g : Graph) (input : Container) (s : ScopeState) (path : Path)
    → ShowsWithin ts n k g input s
    → view_rows_within ts n k g input s path ≡ rows_within ts n g (scopes_of s) path
