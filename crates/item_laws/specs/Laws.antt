-- Laws of the open items of a root: what happens to them by a message, a completion and a change of a hold, and where
-- there is none.
use Rattle.std.specs.Prelude.{◌≡◌, ℕ, ◌==◌, Bool, ◌&&◌, Option, Some, None, List, [], ◌∷◌, ◌++◌}
use Rattle.activity_states.specs.States.{State}
use Rattle.activity_states.specs.declared.states.Completed.{Completed}
use Rattle.fate_laws.specs.WellFormed.{Well}
use Rattle.flow_model.specs.Scopes.{Known}
use Rattle.flow_model.specs.declared.graphs.Container.{Container}
use Rattle.flow_model.specs.declared.graphs.Graph.{Graph}
use Rattle.flow_model.specs.declared.graphs.Template.{Template}
use Rattle.flow_model.specs.declared.instances.Message.{Message}
use Rattle.flow_model.specs.declared.instances.Mode.TheVariants.{Done}
use Rattle.flow_model.specs.declared.instances.Part.{Part}
use Rattle.flow_model.specs.declared.instances.Path.{Path}
use Rattle.item_laws.specs.OpenItems.{open_at, NoneOpen, OpenItems, ItemsMove}
use Rattle.navigator.specs.Events.{Completes, Happens, Takes}
use Rattle.navigator.specs.Fresh.{IsFresh}
use Rattle.navigator.specs.Giving.{root_named}
use Rattle.navigator.specs.Holding.{held_by, HoldsChanged}
use Rattle.navigator.specs.Instances.{mode_of}
use Rattle.navigator.specs.Serving.{Served}
use Rattle.navigator.specs.Showing.{note_in, IsCounted}
use Rattle.navigator.specs.Views.{Shows}
use Rattle.navigator.specs.declared.instance.HoldChange.{HoldChange}
use Rattle.navigator.specs.declared.scopes.ScopeState.{ScopeState, out-ScopeState}
use Rattle.view_laws.specs.Coming.{Comes, ComesOutput}
use Rattle.view_laws.specs.Messages.{Note}

-- ---- an event

-- whatever is known: where the state shows it and the event may come, the items move so
abbrev pub MovesItems : (ℕ → Known → Container → Known → Type 0) → List Template → ℕ → ℕ → Option (List Part) → Graph
    → ScopeState → ScopeState → List Path → Type 0
MovesItems comes ts root clock completed g s s' items =
    (depth : ℕ) (k k' : Known) (input : Container) → Well ts depth g → Served ts depth g → IsCounted k
    → comes depth k input k'
    → Shows ts depth k g input s → ItemsMove root clock completed items (open_at ts g s) (open_at ts g s')

-- a message that may come is taken: the items that it makes ready open, and every other one stays as it was
abbrev pub MessagesMoveItems : Type 0
MessagesMoveItems =
    (ts : List Template) (clock : ℕ) (message : Message) (note : Note) (g : Graph) (s s' : ScopeState)
    (given : List Message) (items : List Path)
    → Takes ts clock message g s s' given items → note_in ts g message ≡ Some note
    → MovesItems (λ depth k input k'. Comes ts depth k g input note k') ts (root_named message) clock None g s s' items

-- an item that may be completed is: it closes, the item that it makes ready opens, and every other one stays as it was
abbrev pub CompletionsMoveItems : Type 0
CompletionsMoveItems =
    (ts : List Template) (clock : ℕ) (item : Path) (c : Completed) (g : Graph) (s s' : ScopeState)
    (given : List Message) (items : List Path)
    → ((around : List Part) (q : Part) → item.parts ≡ around ++ q ∷ []
    → Happens ts (record { root = item.root; parts = around }) clock (Completes q.name c) g s s' given items)
    → MovesItems (λ depth k input k'. ComesOutput ts depth k g input item.parts c.output k') ts item.root clock
    (Some item.parts) g s s' items

-- ---- a hold

-- the item is open and held so, and every other one stays as it was
pub record ItemIsHeld (item : List Part) (change : HoldChange) (state : State) (before after : OpenItems) : Type 0 where
  pub held : after item ≡ Some (held_by change state)
  pub others : (other : List Part) → (other ≡ item → ⊥) → after other ≡ before other

-- the hold of an open item is changed
abbrev pub HoldsMoveNoItem : Type 0
HoldsMoveNoItem =
    (ts : List Template) (item : List Part) (change : HoldChange) (g : Graph) (s s' : ScopeState) (take : ℕ)
    (state : State)
    → open_at ts g s item ≡ Some state → HoldsChanged ts item change g s s' take
    → ItemIsHeld item change state (open_at ts g s) (open_at ts g s')

-- ---- no item

-- a scope that hasn't begun has no open item
abbrev pub FreshScopesHaveNoItem : Type 0
FreshScopesHaveNoItem = (ts : List Template) (g : Graph) (input : Container) (s : ScopeState) → IsFresh g input s
    → NoneOpen ts g s

-- a root that is done has none
abbrev pub DoneRootsHaveNoItem : Type 0
DoneRootsHaveNoItem =
    (ts : List Template) (depth : ℕ) (k : Known) (g : Graph) (input : Container) (s : ScopeState)
    (terminated suspended : Bool)
    → Well ts depth g → Shows ts depth k g input s
    → mode_of terminated ((out-ScopeState s).begun && ((out-ScopeState s).unsettled == 0)) suspended ≡ Done
    → NoneOpen ts g s
