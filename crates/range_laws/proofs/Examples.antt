-- That definitions say what they should: how many levels a block within a graph takes, and a history in bounds.
use Rattle.std.proofs.Common.{◌≡◌, ℕ, zero, suc, ◌^◌, ◌<◌, false, [], ◌∷◌, length, Some, None, refl, subst, arith}
use Rattle.std.specs.Prelude.{slice_get}
use Rattle.std.proofs.lemmas.Option.{none-some}
use Rattle.flow_model.specs.declared.graphs.Activity.{Activity}
use Rattle.flow_model.specs.declared.graphs.DoneBy.TheVariants.{Starter}
use Rattle.flow_model.specs.declared.graphs.Graph.{Graph, out-Graph, roll-Graph}
use Rattle.flow_model.specs.declared.graphs.Join.TheVariants as join
use Rattle.flow_model.specs.declared.graphs.Leaves.{Leaves}
use Rattle.flow_model.specs.declared.graphs.Wiring.{Wiring}
use Rattle.flow_model.specs.declared.graphs.Work.{Work, Program, Block}
use Rattle.flow_model.specs.declared.graphs.Work.TheBlock.{shown-the_row-Activity-0}
use Rattle.range_laws.specs.Bounds.{RunsOnly, HasBounds, IsInBounds}
use Rattle.range_laws.proofs.Scenes.{some_is}
use denote.Hole.Carrier

unfoldable opened : Unit {0}
unfolding roll-Graph out-Graph Carrier.out Carrier.roll Carrier.shown Carrier.hidden shown-the_row-Activity-0
opened = tt

abbrev no_leaf : Leaves
no_leaf = record { leaves = [] }

abbrev wiring : Wiring
wiring = record { order = []; incoming = []; outgoing = []; feeding = []; sinking = []; looping = [] }

-- an activity of the name X
abbrev named : Work → Activity
named work =
    record { name = 88 ∷ []; work = work; input = no_leaf; output = no_leaf; join = join.All; exit = None }

-- a graph of it alone
abbrev only : Work → Graph
only work = roll-Graph record {
  input = no_leaf;
  output = no_leaf;
  activities = named work ∷ [];
  controls = [];
  lines = [];
  loops = [];
  wiring = wiring;
}

abbrev program : Work
program = Program record { manual = false; by = Starter; expires = None }

-- a block around a program
abbrev block : Work
block = Block (only program)

few : length no_leaf.leaves < 2 ^ 16
few = omega arith

first_alone : (work : Work) (a : ℕ) (activity : Activity) → slice_get (named work ∷ []) a ≡ Some activity
    → named work ≡ activity
first_alone work zero activity at = some_is (named work) activity at
first_alone work (suc a) activity at = absurd (none-some activity at)

-- a graph of one activity has one level more than what that runs
one_more : (work : Work) (levels : ℕ) → RunsOnly [] (IsInBounds [] levels) work → IsInBounds [] (suc levels) (only work)
unfolding opened
one_more work levels runs = record {
  few = omega arith;
  each = λ a activity at. subst (HasBounds [] (IsInBounds [] levels)) (first_alone work a activity at)
      (record { named = refl; small = few; inside = runs });
}

-- a block within a graph makes two levels
two_levels : IsInBounds [] 2 (only block)
two_levels = one_more block 1 (one_more program 0 tt)

-- and no less
no_one_level : IsInBounds [] 1 (only block) → ⊥
unfolding opened
no_one_level here = (here.each 0 (named block) refl).inside
