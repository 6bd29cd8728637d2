-- The open items of a root: which items are ready or running, and what happens to all of them by an event.
use Rattle.std.specs.Prelude.{◌≡◌, ℕ, Bool, true, false, if◌then◌else◌, Option, Some, None, List, slice_get}
use Rattle.std.specs.Prelude.{option_and_then}
use Rattle.activity_states.specs.States.{State, fate_of, hold_of, since_of}
use Rattle.flow_model.specs.declared.graphs.Graph.{Graph}
use Rattle.flow_model.specs.declared.graphs.Template.{Template}
use Rattle.flow_model.specs.declared.instances.Hold.TheVariants.{Nobody}
use Rattle.flow_model.specs.declared.instances.Part.{Part}
use Rattle.flow_model.specs.declared.instances.Path.{Path}
use Rattle.flow_model.specs.declared.instances.Phase.{Phase}
use Rattle.flow_model.specs.declared.instances.Phase.TheVariants.{Ready, Running, Ended}
use Rattle.navigator.specs.Items.{Entry, stand, entry_at, phase_of}
use Rattle.navigator.specs.declared.scopes.ScopeState.{ScopeState}

-- ---- one item

-- an item is open while it is ready or running
abbrev pub is_open_phase : Phase → Bool
is_open_phase Ready = true
is_open_phase Running = true
is_open_phase Ended = false

-- the state of an item's activity, where the item is open
abbrev pub open_of : Entry → Option State
open_of e = if is_open_phase (phase_of (fate_of e.state) e.attempt) then Some e.state else None

-- the item to which a path leads from a scope of this graph, where it is open: the state of its activity
abbrev pub open_at : List Template → Graph → ScopeState → List Part → Option State
open_at ts g s item = option_and_then open_of (entry_at ts item (stand g s))

-- no item is open in a scope or below it
abbrev pub NoneOpen : List Template → Graph → ScopeState → Type 0
NoneOpen ts g s = (item : List Part) → open_at ts g s item ≡ None

-- ---- what happens to the items

-- what is open at each path
abbrev pub OpenItems : Type 0
OpenItems = List Part → Option State

-- an item became ready at this time: it wasn't open, is open now, and nobody holds it
pub record HasOpened (clock : ℕ) (before after : Option State) : Type 0 where
  pub was : before ≡ None
  pub state : State
  pub is : after ≡ Some state
  pub free : hold_of state ≡ Nobody
  pub since : since_of state ≡ clock

-- an item was open, and is open no more
pub record HasClosed (before after : Option State) : Type 0 where
  pub state : State
  pub was : before ≡ Some state
  pub is : after ≡ None

-- the path stands in the list
abbrev pub IsListed : List Path → Path → Type 0
IsListed items path = (n : ℕ) × (slice_get items n ≡ Some path)

-- the listed items of a root became ready, each is listed once; the one that is completed, if any, closed; every
-- other one stays as it was
pub record ItemsMove (root clock : ℕ) (completed : Option (List Part)) (items : List Path)
    (before after : OpenItems) : Type 0 where
  pub named : (n : ℕ) (path : Path) → slice_get items n ≡ Some path → path.root ≡ root
  pub once : (n m : ℕ) (path : Path) → slice_get items n ≡ Some path → slice_get items m ≡ Some path → n ≡ m
  pub opened : (n : ℕ) (path : Path) → slice_get items n ≡ Some path
      → HasOpened clock (before path.parts) (after path.parts)
  pub closed : (item : List Part) → completed ≡ Some item → HasClosed (before item) (after item)
  pub others : (item : List Part) → (IsListed items (record { root = root; parts = item }) → ⊥)
      → (completed ≡ Some item → ⊥) → after item ≡ before item
