-- The scopes of a root, as a function of where they lie: what stands in each, and nothing of how it is kept.
use Rattle.std.specs.Prelude.{ℕ, zero, suc, ◌-◌, ◌==◌, ◌&&◌, ◌^◌, min, Bool, false, if◌then◌else◌, Option, Some}
use Rattle.std.specs.Prelude.{None, List, [], ◌∷◌, length, map, replicate, position, bytes_eq}
use Rattle.activity_states.specs.States.{State, waiting}
use Rattle.dead_paths.specs.declared.joins.Tally.{Tally}
use Rattle.flow_model.specs.Wiring.{row_at}
use Rattle.flow_model.specs.ScopeContainers.{up_to}
use Rattle.flow_model.specs.declared.graphs.Container.{Container}
use Rattle.flow_model.specs.declared.graphs.Graph.{Graph, out-Graph}
use Rattle.flow_model.specs.declared.graphs.Work.{Work, Program as RunsProgram, Block, Process}
use Rattle.flow_model.specs.declared.instances.SourceEnd.{SourceEnd}
use Rattle.flow_model.specs.declared.instances.SourceEnd.TheVariants.{Unsettled}
use Rattle.flow_model.specs.declared.names.Name.{Name}

-- ---- one scope

-- what has become of a block or process activity
pub data Stage : Type 0 where
  Waits : Stage
  Runs : Stage
  Ended : Stage
  Died : Stage

-- the state of an activity: that of its program, or the stage of a block or process activity with the number of its
-- scopes
pub data Standing : Type 0 where
  Item : State → Standing
  Inner : Stage → ℕ → Standing

-- what stands in a scope: whether its BEGIN is taken, its input, what is known of the connectors that lead to each
-- activity, how each has
-- ended, the state of each, and the number of those that aren't settled
pub record Row : Type 0 where
  pub begun : Bool
  pub input : Container
  pub tallies : List Tally
  pub ends : List SourceEnd
  pub standings : List Standing
  pub unsettled : ℕ

-- ---- all scopes

-- one step further in: the place of an activity, and the place of an attempt
abbrev pub Step : Type 0
Step = ℕ × ℕ

-- what stands in the scope to which steps lead, where there is one
abbrev pub Scopes : Type 0
Scopes = List Step → Option Row

-- a scope with none inside it
abbrev pub only : Row → Scopes
only r [] = Some r
only r (q ∷ p) = None

-- the scopes of an attempt of an activity, with the scope of the attempt first
abbrev pub inside : ℕ → ℕ → Scopes → Scopes
inside a i s p = s ((a, i) ∷ p)

-- something else stands in the scope itself
abbrev pub with_row : Row → Scopes → Scopes
with_row r s [] = Some r
with_row r s (q ∷ p) = s (q ∷ p)

-- an attempt of an activity has these scopes
abbrev pub with_inside : ℕ → ℕ → Scopes → Scopes → Scopes
with_inside a i inner s [] = s []
with_inside a i inner s (q ∷ p) = if (q.0 == a) && (q.1 == i) then inner p else s (q ∷ p)

-- ---- places

-- the place of the first activity of this name
abbrev pub place_of : Graph → Name → Option ℕ
place_of g name = position (λ a. bytes_eq a.name name) (out-Graph g).activities

-- attempts are counted from 1, places from 0
abbrev pub attempt_place : ℕ → Option ℕ
attempt_place zero = None
attempt_place (suc j) = Some j

-- ---- a scope that hasn't begun

-- the state of an activity that nothing has happened to
abbrev pub fresh_standing : Work → Standing
fresh_standing (RunsProgram w) = Item waiting
fresh_standing (Block g) = Inner Waits 0
fresh_standing (Process t) = Inner Waits 0

-- the number of connectors that lead to an activity, by the wiring, as far as a tally counts
abbrev pub incoming_count : Graph → ℕ → ℕ
incoming_count g a = min (length (row_at (out-Graph g).wiring.incoming a)) (2 ^ 32 - 1)

-- a tally of a number of connectors of which no value is known
abbrev pub fresh_tally : ℕ → Tally
fresh_tally n = record { total = n; missing = n; trues = 0 }

-- what stands in a scope of this graph and input before its BEGIN is taken
abbrev pub fresh_row : Graph → Container → Row
fresh_row g input = record {
  begun = false;
  input = input;
  tallies = map (λ a. fresh_tally (incoming_count g a)) (up_to (length (out-Graph g).activities) 0);
  ends = replicate (length (out-Graph g).activities) Unsettled;
  standings = map (λ activity. fresh_standing activity.work) (out-Graph g).activities;
  unsettled = length (out-Graph g).activities;
}

-- the scopes of a root that has just been started
abbrev pub fresh_scopes : Graph → Container → Scopes
fresh_scopes g input = only (fresh_row g input)
