-- What is read from the states of scopes: places, fates, holds, scopes further in, and items.
use Rattle.std.specs.Prelude.{ℕ, zero, suc, Option, Some, None, length, slice_get, position, bytes_eq, option_and_then}
use Rattle.std.specs.Option.{option_map_or}
use Rattle.activity_states.specs.States.{fate_of, hold_of}
use Rattle.flow_model.specs.declared.graphs.Graph.{Graph, out-Graph}
use Rattle.flow_model.specs.declared.instances.Fate.{Fate}
use Rattle.flow_model.specs.declared.instances.Fate.TheVariants.{Waiting, Ready, Running, Finished, Dead}
use Rattle.flow_model.specs.declared.instances.Hold.{Hold}
use Rattle.flow_model.specs.declared.instances.Hold.TheVariants.{Nobody, Person, Agent}
use Rattle.flow_model.specs.declared.names.Name.{Name}
use Rattle.navigator.specs.Views.{stage_fate}
use Rattle.navigator.specs.declared.scopes.ActivityState.{ActivityState, Program, Nested}
use Rattle.navigator.specs.declared.scopes.NestedState.{NestedState, out-NestedState}
use Rattle.navigator.specs.declared.scopes.ScopeState.{ScopeState, out-ScopeState}

-- ---- places

-- the place of the first activity of this name
abbrev pub place_of : Graph → Name → Option ℕ
place_of g name = position (λ a. bytes_eq a.name name) (out-Graph g).activities

-- attempts are counted from 1, places from 0
abbrev pub attempt_place : ℕ → Option ℕ
attempt_place zero = None
attempt_place (suc j) = Some j

-- ---- fates and holds

abbrev pub nested_fate : NestedState → Fate
nested_fate n = stage_fate (out-NestedState n).stage (length (out-NestedState n).scopes.items)

abbrev pub state_fate : ActivityState → Fate
state_fate (Program p) = fate_of p
state_fate (Nested n) = nested_fate n

-- the fate of the activity at a place; it waits where there is none
abbrev pub fate_in : ScopeState → ℕ → Fate
fate_in s a = option_map_or state_fate (slice_get (out-ScopeState s).states.items a) Waiting

abbrev pub state_hold : ActivityState → Hold
state_hold (Program p) = hold_of p
state_hold (Nested n) = Nobody

-- who holds the next attempt of the activity at a place
abbrev pub hold_in : ScopeState → ℕ → Hold
hold_in s a = option_map_or state_hold (slice_get (out-ScopeState s).states.items a) Nobody

abbrev pub taken_up : Fate → Fate
taken_up Waiting = Waiting
taken_up (Ready j) = Running j
taken_up (Running j) = Running j
taken_up (Finished j) = Finished j
taken_up Dead = Dead

-- a ready attempt that somebody holds is running
abbrev pub with_hold : Hold → Fate → Fate
with_hold Nobody f = f
with_hold (Person name) f = taken_up f
with_hold (Agent take) f = taken_up f

-- ---- scopes further in

abbrev pub scope_of : ActivityState → ℕ → Option ScopeState
scope_of (Program p) j = None
scope_of (Nested n) j = option_and_then (slice_get (out-NestedState n).scopes.items) (attempt_place j)

-- the scope of an attempt of the activity at a place
abbrev pub inner_of : ScopeState → ℕ → ℕ → Option ScopeState
inner_of s a j = option_and_then (λ state. scope_of state j) (slice_get (out-ScopeState s).states.items a)
