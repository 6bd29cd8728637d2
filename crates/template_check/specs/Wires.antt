-- Rows of places, one for each activity: which elements of a list lead to it.
use Rattle.std.specs.Prelude.{◌≡◌, ℕ, ◌<◌, ◌==◌, Bool, List, length, map}
use Rattle.std.specs.List.{All}
use Rattle.flow_model.specs.ScopeContainers.{same_end}
use Rattle.flow_model.specs.Wiring.{row_at, places}
use Rattle.flow_model.specs.declared.graphs.Control.{Control}
use Rattle.flow_model.specs.declared.graphs.DataLine.{DataLine}
use Rattle.flow_model.specs.declared.graphs.LoopLine.{LoopLine}
use Rattle.flow_model.specs.declared.graphs.MapEnd.{MapEnd}
use Rattle.flow_model.specs.declared.graphs.MapEnd.TheVariants.{Border, Activity as At}
use Rattle.flow_model.specs.declared.graphs.Wiring.{Wiring}
use Rattle.graph_levels.specs.Levels.{IsLevelOrder}

-- this many rows, each with the places of the elements that lead to its activity, in order
pub record AreRows {X : Type 0} (leads : X → ℕ → Bool) (count : ℕ) (items : List X)
    (rows : List (List ℕ)) : Type 0 where
  pub long : length rows ≡ count
  pub each : (a : ℕ) → row_at rows a ≡ places (λ x. leads x a) 0 items

-- an end that is an activity is one of this many
abbrev pub IsEndBelow : ℕ → MapEnd → Type 0
IsEndBelow count Border = Unit {0}
IsEndBelow count (At a) = a < count

-- the ends of all lines are among this many activities
pub record AreWithin (count : ℕ) (controls : List Control) (lines : List DataLine)
    (loops : List LoopLine) : Type 0 where
  pub sources : All (λ c. c.from < count) controls
  pub targets : All (λ c. c.to < count) controls
  pub fed : All (λ line. IsEndBelow count line.to) lines
  pub looped : All (λ line. line.activity < count) loops

-- the connectors as pairs of numbers
abbrev pub pairs_of : List Control → List (ℕ × ℕ)
pairs_of controls = map (λ c. (c.from, c.to)) controls

-- the rows of a wiring are those of its lists, and its order has the activities by the longest walk of connectors that
-- leads to each: a graph has one wiring
pub record AreWired (count : ℕ) (controls : List Control) (lines : List DataLine) (loops : List LoopLine)
    (wiring : Wiring) : Type 0 where
  pub ordered : IsLevelOrder count (pairs_of controls) wiring.order
  pub incoming : AreRows (λ c a. c.to == a) count controls wiring.incoming
  pub outgoing : AreRows (λ c a. c.from == a) count controls wiring.outgoing
  pub feeding : AreRows (λ line a. same_end line.to (At a)) count lines wiring.feeding
  pub sinking : wiring.sinking ≡ places (λ line. same_end line.to Border) 0 lines
  pub looping : AreRows (λ line a. line.activity == a) count loops wiring.looping
