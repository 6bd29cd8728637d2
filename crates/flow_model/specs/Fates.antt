-- Connector values, joins, and the fate of an activity from its attempts.
use Rattle.std.specs.Prelude.{ℕ, ◌+◌, ◌==◌, nat_le, Bool, true, false, not, ◌||◌, ◌&&◌, if◌then◌else◌, Option, Some}
use Rattle.std.specs.Prelude.{None, is_none, unwrap_or, List, length}
use Rattle.std.specs.Prelude.{count_by}
use Rattle.std.specs.List.{list_any, list_all, last_or}
use Rattle.flow_model.specs.declared.graphs.Container.{Container}
use Rattle.flow_model.specs.declared.graphs.Join.{Join}
use Rattle.flow_model.specs.declared.graphs.Join.TheVariants.{All, AtLeastOne, AtLeast}
use Rattle.flow_model.specs.declared.graphs.When.{When}
use Rattle.flow_model.specs.declared.graphs.When.TheVariants.{Always, Cond, Otherwise}
use Rattle.flow_model.specs.declared.graphs.Work.{Work, Program, Block, Process}
use Rattle.flow_model.specs.declared.graphs.Control.{Control}
use Rattle.flow_model.specs.declared.graphs.Activity.{Activity}
use Rattle.flow_model.specs.declared.instances.Fate.{Fate}
use Rattle.flow_model.specs.declared.instances.Fate.TheVariants.{Waiting, Ready, Running, Finished, Dead}
use Rattle.flow_model.specs.declared.instances.SourceEnd.{SourceEnd}
use Rattle.flow_model.specs.declared.instances.SourceEnd.TheVariants as end
use Rattle.flow_model.specs.Conditions.{holds, truth}

-- ---- connectors

-- whether a WHEN condition is true on the final output of its source
abbrev pub when_true : When → Container → Bool
when_true Always out = false
when_true (Cond e) out = truth e out
when_true Otherwise out = false

-- one of the WHEN connectors of the source is true
abbrev pub some_when : List Control → ℕ → Container → Bool
some_when controls source out = list_any (λ c. (c.from == source) && when_true c.when out) controls

-- the truth of a connector of a finished source
abbrev pub truth_of : List Control → ℕ → When → Container → Bool
truth_of controls source Always out = true
truth_of controls source (Cond e) out = truth e out
truth_of controls source Otherwise out = not (some_when controls source out)

-- the value of a connector, by how its source has ended; None is unknown
abbrev pub connector_value : List Control → Control → SourceEnd → Option Bool
connector_value controls c end.Unsettled = None
connector_value controls c end.Dead = Some false
connector_value controls c (end.Finished out) = Some (truth_of controls c.from c.when out)

-- ---- joins

abbrev pub is_yes : Option Bool → Bool
is_yes v = unwrap_or v false

-- what a join asks of known values; with no value it is true
abbrev pub asks : Join → List (Option Bool) → Bool
asks All vs = list_all is_yes vs
asks AtLeastOne vs = (length vs == 0) || list_any is_yes vs
asks (AtLeast n) vs = (length vs == 0) || nat_le n (count_by is_yes vs)

-- unknown while a value is unknown
abbrev pub joined : Join → List (Option Bool) → Option Bool
joined rule vs = if list_any is_none vs then None else Some (asks rule vs)

-- ---- fates

-- an activity whose next attempt is this one
abbrev pub goes_on : Work → ℕ → Fate
goes_on (Program p) k = Ready k
goes_on (Block g) k = Running k
goes_on (Process t) k = Running k

-- the fate after n attempts with this last output
abbrev pub tried : Activity → ℕ → Option Container → Fate
tried a n None = goes_on a.work 1
tried a n (Some out) = if holds a.exit out then Finished n else goes_on a.work (n + 1)

-- the fate by the join and the outputs of the attempts
abbrev pub fate_by : Activity → Option Bool → List Container → Fate
fate_by a None outs = Waiting
fate_by a (Some false) outs = Dead
fate_by a (Some true) outs = tried a (length outs) (last_or None outs)

-- how an activity with this fate and these attempts has ended
abbrev pub ended : Fate → List Container → SourceEnd
ended Waiting outs = end.Unsettled
ended (Ready k) outs = end.Unsettled
ended (Running k) outs = end.Unsettled
ended Dead outs = end.Dead
ended (Finished k) outs = finished (last_or None outs)
  where
    finished : Option Container → SourceEnd
    finished None = end.Unsettled
    finished (Some out) = end.Finished out

-- a settled activity is finished or dead
abbrev pub is_settled : SourceEnd → Bool
is_settled end.Unsettled = false
is_settled end.Dead = true
is_settled (end.Finished out) = true

-- the join of an activity is true
abbrev pub is_open : Fate → Bool
is_open Waiting = false
is_open (Ready j) = true
is_open (Running j) = true
is_open (Finished j) = true
is_open Dead = false

abbrev pub is_waiting : Fate → Bool
is_waiting Waiting = true
is_waiting (Ready k) = false
is_waiting (Running k) = false
is_waiting (Finished k) = false
is_waiting Dead = false

-- how each activity of a scope has ended, by its place
abbrev pub Ends : Type 0
Ends = ℕ → SourceEnd
