-- A program activity: its completions in the order of the attempts, and who holds the next attempt.
-- A step has no effect where the activity isn't as the step needs it.
use Rattle.std.specs.Prelude.{ℕ, zero, suc, ◌+◌, ◌-◌, ◌^◌, min, ◌==◌, ◌&&◌, Bool, true, false, Option, Some, None, List}
use Rattle.std.specs.Prelude.{[], ◌∷◌, ◌++◌, length, slice_get}
use Rattle.std.specs.Option.{option_map}
use Rattle.flow_model.specs.declared.graphs.Container.{Container}
use Rattle.flow_model.specs.declared.instances.Fate.{Fate}
use Rattle.flow_model.specs.declared.instances.Fate.TheVariants as fates
use Rattle.flow_model.specs.declared.instances.Hold.{Hold}
use Rattle.flow_model.specs.declared.instances.Hold.TheVariants.{Nobody, Person, Agent}
use Rattle.activity_states.specs.declared.states.Completed.{Completed}
use Rattle.activity_states.specs.declared.states.Stage.{Stage}
use Rattle.activity_states.specs.declared.states.Stage.TheVariants as stages

-- An open activity has its completions, who holds the next attempt, how often agents took that attempt, and the
-- clock when it became ready.
pub data State : Type 0 where
  waiting : State
  dead : State
  opened : List Completed → Hold → ℕ → ℕ → State
  finished : List Completed → State

-- what the fields of a state say
abbrev pub state_of : Stage → List Completed → Hold → ℕ → ℕ → State
state_of stages.Waiting cs hold takes since = waiting
state_of stages.Dead cs hold takes since = dead
state_of stages.Open cs hold takes since = opened cs hold takes since
state_of stages.Finished cs hold takes since = finished cs

abbrev pub is_nobody : Hold → Bool
is_nobody Nobody = true
is_nobody (Person name) = false
is_nobody (Agent take) = false

-- nobody holds what isn't open; what waits or is dead has no completion, and what waits no takes
abbrev pub is_sound : Stage → List Completed → Hold → ℕ → Bool
is_sound stages.Waiting cs hold takes = is_nobody hold && (length cs == 0) && (takes == 0)
is_sound stages.Dead cs hold takes = is_nobody hold && (length cs == 0)
is_sound stages.Open cs hold takes = true
is_sound stages.Finished cs hold takes = is_nobody hold

-- ---- what it shows

-- an attempt that nobody holds is ready, another one is running
abbrev pub open_fate : Hold → ℕ → Fate
open_fate Nobody k = fates.Ready k
open_fate (Person name) k = fates.Running k
open_fate (Agent take) k = fates.Running k

abbrev pub fate_of : State → Fate
fate_of waiting = fates.Waiting
fate_of dead = fates.Dead
fate_of (opened cs hold takes since) = open_fate hold (length cs + 1)
fate_of (finished cs) = fates.Finished (length cs)

-- who holds the attempt that is ready or running
abbrev pub hold_of : State → Hold
hold_of waiting = Nobody
hold_of dead = Nobody
hold_of (opened cs hold takes since) = hold
hold_of (finished cs) = Nobody

-- the clock when that attempt became ready; 0 where there is none
abbrev pub since_of : State → ℕ
since_of waiting = 0
since_of dead = 0
since_of (opened cs hold takes since) = since
since_of (finished cs) = 0

abbrev pub completions : State → List Completed
completions waiting = []
completions dead = []
completions (opened cs hold takes since) = cs
completions (finished cs) = cs

-- the output of an attempt, counted from 1
abbrev pub output_of : State → ℕ → Option Container
output_of s zero = None
output_of s (suc k) = option_map (λ c. c.output) (slice_get (completions s) k)

abbrev pub performer_in : Option Completed → Option (List ℕ)
performer_in None = None
performer_in (Some c) = c.performer

-- the person whose completion the last one was, where it was a person's
abbrev pub performer_of : State → Option (List ℕ)
performer_of s = performer_in (slice_get (completions s) (length (completions s) - 1))

-- one more, where the number has room for it
abbrev pub next_number : ℕ → ℕ
next_number n = min (n + 1) (2 ^ 64 - 1)

-- the number of the next take of the next attempt
abbrev pub next_take : State → ℕ
next_take waiting = 1
next_take dead = 1
next_take (opened cs hold takes since) = next_number takes
next_take (finished cs) = 1

-- ---- the steps

-- a waiting activity has its first attempt
abbrev pub made_ready : State → ℕ → State
made_ready waiting clock = opened [] Nobody 0 clock
made_ready dead clock = dead
made_ready (opened cs hold takes since) clock = opened cs hold takes since
made_ready (finished cs) clock = finished cs

-- a waiting activity is dead
abbrev pub killed : State → State
killed waiting = dead
killed dead = dead
killed (opened cs hold takes since) = opened cs hold takes since
killed (finished cs) = finished cs

-- another hold of the next attempt
abbrev pub held : State → Hold → State
held waiting hold = waiting
held dead hold = dead
held (opened cs was takes since) hold = opened cs hold takes since
held (finished cs) hold = finished cs

-- an agent holds the next attempt, by the next take number
abbrev pub taken : State → State
taken waiting = waiting
taken dead = dead
taken (opened cs was takes since) = opened cs (Agent (next_number takes)) (next_number takes) since
taken (finished cs) = finished cs

-- where the activity goes on after a completion
abbrev pub after : Bool → List Completed → ℕ → State
after true cs clock = finished cs
after false cs clock = opened cs Nobody 0 clock

-- the next attempt is completed
abbrev pub completed : State → Completed → Bool → ℕ → State
completed waiting c ends clock = waiting
completed dead c ends clock = dead
completed (opened cs hold takes since) c ends clock = after ends (cs ++ c ∷ []) clock
completed (finished cs) c ends clock = finished cs
