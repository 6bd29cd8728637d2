-- Which hold a claim, a take, a release or a transfer sets, and that it changes nothing else.
use Rattle.std.specs.Prelude.{◌≡◌, ℕ, ◌&&◌, Bool, false, bytes_eq, if◌then◌else◌, Option, Some, None, List, [], ◌∷◌}
use Rattle.std.specs.Prelude.{◌++◌, slice_get}
use Rattle.activity_states.specs.States.{State, held, taken, next_take}
use Rattle.flow_model.specs.Rows.{same_part}
use Rattle.flow_model.specs.declared.graphs.Graph.{Graph}
use Rattle.flow_model.specs.declared.graphs.Template.{Template}
use Rattle.flow_model.specs.declared.instances.Hold.TheVariants as hold
use Rattle.flow_model.specs.declared.instances.Part.{Part}
use Rattle.flow_model.specs.declared.names.Name.{Name}
use Rattle.navigator.specs.Events.{ChangesAt}
use Rattle.navigator.specs.Items.{Entry, stand, entry_at}
use Rattle.navigator.specs.Reading.{place_of}
use Rattle.navigator.specs.Steps.{Fields, fields, changed_at}
use Rattle.navigator.specs.declared.instance.HoldChange.{HoldChange}
use Rattle.navigator.specs.declared.instance.HoldChange.TheVariants.{Person, Agent, Nobody}
use Rattle.navigator.specs.declared.scopes.ActivityState.{ActivityState, Program, Nested}
use Rattle.navigator.specs.declared.scopes.ScopeState.{ScopeState, out-ScopeState}

-- ---- one activity

-- a person holds the next attempt, an agent by the next take number, or nobody does
abbrev pub held_by : HoldChange → State → State
held_by (Person who) p = held p (hold.Person who)
held_by Agent p = taken p
held_by Nobody p = held p hold.Nobody

-- the take number that is answered: that of the agent, else 0
abbrev pub take_of : HoldChange → State → ℕ
take_of (Person who) p = 0
take_of Agent p = next_take p
take_of Nobody p = 0

-- so it is of an activity that runs a program; another one has no hold
abbrev pub held_state : HoldChange → ActivityState → ActivityState
held_state change (Program p) = Program (held_by change p)
held_state change (Nested n) = Nested n

abbrev pub take_from : HoldChange → ActivityState → ℕ
take_from change (Program p) = take_of change p
take_from change (Nested n) = 0

-- ---- a scope

-- the activity at a place, where there is one, is held so, and nothing else changes
abbrev pub held_at : HoldChange → Option ℕ → Fields → Fields
held_at change None f = f
held_at change (Some a) f = changed_at (held_state change) a (slice_get f.states a) f

abbrev pub take_in : HoldChange → Option ActivityState → ℕ
take_in change None = 0
take_in change (Some state) = take_from change state

abbrev pub take_at : HoldChange → Option ℕ → Fields → ℕ
take_at change None f = 0
take_at change (Some a) f = take_in change (slice_get f.states a)

-- the activity of this name is held so, and this take number is answered
pub record SetsHold (name : Name) (change : HoldChange) (take : ℕ) (g : Graph) (s s' : ScopeState) : Type 0 where
  pub scope : fields s' ≡ held_at change (place_of g name) (fields s)
  pub take_is : take ≡ take_at change (place_of g name) (fields s)

-- ---- a root

-- the last part of an item's path names its activity, in the scope to which the others lead; only that scope changes
abbrev pub HoldsChanged : List Template → List Part → HoldChange → Graph → ScopeState → ScopeState → ℕ → Type 0
HoldsChanged ts item change g s s' take = (parts : List Part) (q : Part) → item ≡ parts ++ q ∷ []
    → ChangesAt ts (SetsHold q.name change take) parts g s s'

-- ---- what is found at each path then

-- two paths name one activity of one scope: they differ at most in the attempt that stands last
abbrev pub name_one : List Part → List Part → Bool
name_one [] other = false
name_one (q ∷ qs) [] = false
name_one (q ∷ []) (r ∷ []) = bytes_eq q.name r.name
name_one (q ∷ []) (r ∷ (r' ∷ rs)) = false
name_one (q ∷ (q' ∷ qs)) (r ∷ rs) = same_part q r && name_one (q' ∷ qs) rs

abbrev pub held_if : Bool → HoldChange → State → State
held_if b change p = if b then held_by change p else p

-- an item stands as before, but for its state, which is changed so
pub record StandsSo (change : State → State) (e e' : Entry) : Type 0 where
  pub graph : e'.graph ≡ e.graph
  pub number : e'.number ≡ e.number
  pub activity : e'.activity ≡ e.activity
  pub attempt : e'.attempt ≡ e.attempt
  pub state : e'.state ≡ change e.state
  pub input : (out-ScopeState e'.scope).input ≡ (out-ScopeState e.scope).input
  pub ends : (out-ScopeState e'.scope).ends.items ≡ (out-ScopeState e.scope).ends.items

-- and where there was none, there is none
abbrev pub Stands : (State → State) → Option Entry → Option Entry → Type 0
Stands change None None = Unit {0}
Stands change None (Some e') = ⊥
Stands change (Some e) None = ⊥
Stands change (Some e) (Some e') = StandsSo change e e'

-- the items of that activity are held so, and the items of every other one stay
pub record IsHeldSo (ts : List Template) (item : List Part) (change : HoldChange) (g : Graph) (s s' : ScopeState)
    (take : ℕ) (e : Entry) : Type 0 where
  pub item_is : Stands (held_by change) (Some e) (entry_at ts item (stand g s'))
  pub others : (other : List Part) → Stands (held_if (name_one item other) change) (entry_at ts other (stand g s))
      (entry_at ts other (stand g s'))
  pub take_is : take ≡ take_of change e.state

-- after a change of the hold of an item that is there, exactly the items of its activity are held so
abbrev pub HoldsAreSet : Type 0
HoldsAreSet =
    (ts : List Template) (item : List Part) (change : HoldChange) (g : Graph) (s s' : ScopeState) (take : ℕ) (e : Entry)
    → entry_at ts item (stand g s) ≡ Some e → HoldsChanged ts item change g s s' take
    → IsHeldSo ts item change g s s' take e
