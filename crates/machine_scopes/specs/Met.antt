-- What may come is met: where the state of a root shows its view, an event that may come by it finds its scope as it
-- needs it.
use Rattle.std.specs.Prelude.{◌≡◌, ℕ, Some, List}
use Rattle.activity_states.specs.declared.states.Completed.{Completed}
use Rattle.fate_laws.specs.WellFormed.{Well}
use Rattle.flow_model.specs.Scopes.{Known}
use Rattle.flow_model.specs.declared.graphs.Container.{Container}
use Rattle.flow_model.specs.declared.graphs.Graph.{Graph}
use Rattle.flow_model.specs.declared.graphs.Template.{Template}
use Rattle.flow_model.specs.declared.instances.Message.{Message}
use Rattle.flow_model.specs.declared.instances.Path.{Path}
use Rattle.navigator.specs.Serving.{Served}
use Rattle.navigator.specs.Showing.{note_in}
use Rattle.navigator.specs.Views.{Shows}
use Rattle.navigator.specs.declared.scopes.ScopeState.{ScopeState}
use Rattle.view_laws.specs.Coming.{IsByMessages, Comes, ComesOutput}
use Rattle.view_laws.specs.Messages.{Note}
use Rattle.flow_model.specs.declared.instances.Part.{Part}
use Rattle.navigator.specs.Items.{Entry, stand, entry_at}
use Rattle.machine_scopes.specs.Turns.{MeetsMessage, MeetsItem, MeetsHold}

-- a message that may come finds its scope as it needs it
abbrev pub MessagesAreMet : Type 0
MessagesAreMet =
    (ts : List Template) (depth : ℕ) (k k' : Known) (g : Graph) (input : Container) (note : Note) (message : Message)
    (s : ScopeState) → Well ts depth g → Served ts depth g → IsByMessages k
    → note_in ts g message ≡ Some note → Comes ts depth k g input note k' → Shows ts depth k g input s
    → MeetsMessage ts message g s

-- so does a completion that may come
abbrev pub CompletionsAreMet : Type 0
CompletionsAreMet =
    (ts : List Template) (depth : ℕ) (k k' : Known) (g : Graph) (input : Container) (item : Path) (c : Completed)
    (s : ScopeState) → Well ts depth g → Served ts depth g → IsByMessages k
    → ComesOutput ts depth k g input item.parts c.output k' → Shows ts depth k g input s → MeetsItem ts c item g s

-- an item that is there has its scope, so its hold is met
abbrev pub HoldsAreMet : Type 0
HoldsAreMet =
    (ts : List Template) (item : List Part) (g : Graph) (s : ScopeState) (e : Entry)
    → entry_at ts item (stand g s) ≡ Some e → MeetsHold ts item g s
