-- What an item reads, where the state of its scope shows the view.
use Rattle.std.specs.Prelude.{◌≡◌, ℕ, Some, List, slice_get}
use Rattle.activity_states.specs.States.{State}
use Rattle.flow_model.specs.Scopes.{Known, Start}
use Rattle.flow_model.specs.declared.graphs.Activity.{Activity}
use Rattle.flow_model.specs.declared.graphs.Container.{Container}
use Rattle.flow_model.specs.declared.graphs.Graph.{Graph, out-Graph}
use Rattle.flow_model.specs.declared.graphs.Template.{Template}
use Rattle.navigator.specs.Views.{Shows}
use Rattle.navigator.specs.declared.scopes.ActivityState.{Program}
use Rattle.navigator.specs.declared.scopes.ScopeState.{ScopeState, out-ScopeState}
use Rattle.view_laws.specs.Coming.{started_in}

-- the input of its attempt: of the program activity at this place, in whatever view the scope shows
abbrev pub ReadsAttempt : Graph → ScopeState → ℕ → State → ℕ → Container → Type 0
ReadsAttempt g s a p j read =
    (ts : List Template) (depth : ℕ) (k : Known) (input : Container) (activity : Activity) (n : ℕ) (start : Start)
    → slice_get (out-Graph g).activities a ≡ Some activity
    → slice_get (out-ScopeState s).states.items a ≡ Some (Program p) → Shows ts depth k g input s
    → slice_get (started_in ts depth k g input a activity) n ≡ Some start → start.attempt ≡ j → read ≡ start.input
