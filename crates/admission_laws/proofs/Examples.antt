-- That leaves have names apart says what it should, of an output with an array and of a block within a graph; and that
-- a record is admitted where the laws ask it.
use Rattle.std.proofs.Common.{◌≡◌, inr, ℕ, zero, suc, ◌+◌, ◌<◌, ◌≤◌, false, List, [], ◌∷◌, Some, None, refl, sym, ap}
use Rattle.std.proofs.Common.{subst, arith}
use Rattle.std.specs.Prelude.{slice_get, nat_le}
use Rattle.std.proofs.lemmas.List.Elements.{All-nil, All-cons, All-head}
use Rattle.std.proofs.lemmas.Option.{none-some}
use Rattle.flow_core.specs.Admitting.{IsDue, IsAdmitted}
use Rattle.flow_core.specs.Allowing.{IsBlank}
use Rattle.flow_core.specs.Driving.{templates}
use Rattle.flow_core.specs.Refusals.{unless}
use Rattle.flow_core.specs.declared.refusals.Refusal.TheVariants as refused
use Rattle.flow_core.specs.declared.state.Core.{Core}
use Rattle.flow_model.specs.ScopeContainers.{graph_in}
use Rattle.flow_model.specs.declared.graphs.Activity.{Activity}
use Rattle.flow_model.specs.declared.graphs.DoneBy.TheVariants.{Starter}
use Rattle.flow_model.specs.declared.graphs.Graph.{Graph, out-Graph, roll-Graph}
use Rattle.flow_model.specs.declared.graphs.Join.TheVariants as join
use Rattle.flow_model.specs.declared.graphs.Kind.TheVariants.{Long, Str}
use Rattle.flow_model.specs.declared.graphs.Leaf.{Leaf}
use Rattle.flow_model.specs.declared.graphs.Leaves.{Leaves}
use Rattle.flow_model.specs.declared.graphs.Step.{Step}
use Rattle.flow_model.specs.declared.graphs.Step.TheVariants.{Member, Place}
use Rattle.flow_model.specs.declared.graphs.Template.{Template}
use Rattle.flow_model.specs.declared.graphs.Wiring.{Wiring}
use Rattle.flow_model.specs.declared.graphs.Work.{Work, Program, Block}
use Rattle.flow_model.specs.declared.graphs.Work.TheBlock.{shown-the_row-Activity-0}
use Rattle.flow_model.specs.declared.transactions.Transaction.TheVariants.{Clock}
use Rattle.leaf_rules.specs.ReturnCodes.{return_code}
use Rattle.admission_laws.specs.ApartLeaves.{IsNamedApart, AreLeavesApart, HasOutputApart, HasOutputsApartTo}
use Rattle.admission_laws.specs.ApartLeaves.{HasLeavesApart, HaveLeavesApart}
use denote.Hole.Carrier

unfoldable opened : Unit {0}
unfolding roll-Graph out-Graph Carrier.out Carrier.roll Carrier.shown Carrier.hidden shown-the_row-Activity-0
opened = tt

-- ---- leaves

-- 'A', and the places 0 and 1 of an array 'B'
abbrev amount : Leaf
amount = record { name = record { steps = Member (65 ∷ []) ∷ [] }; kind = Long }

abbrev place_of : ℕ → Leaf
place_of i = record { name = record { steps = Member (66 ∷ []) ∷ Place i ∷ [] }; kind = Str }

-- an output has them behind its return code
abbrev output_leaves : List Leaf
output_leaves = return_code ∷ amount ∷ place_of 0 ∷ place_of 1 ∷ []

place_apart : IsNamedApart (place_of 0) (place_of 1)
place_apart same = let never : ⊥ = cc in never

amount_apart : (i : ℕ) → IsNamedApart amount (place_of i)
amount_apart i same = let never : ⊥ = cc in never

code_apart : (name : List ℕ) (steps : List Step) (leaf : Leaf) → leaf.name.steps ≡ Member name ∷ steps
    → IsNamedApart return_code leaf
code_apart name steps leaf named same = let never : ⊥ = cc in never

apart : AreLeavesApart output_leaves
apart = (
  All-cons (IsNamedApart return_code) amount (place_of 0 ∷ place_of 1 ∷ []) (code_apart (65 ∷ []) [] amount refl)
      (All-cons (IsNamedApart return_code) (place_of 0) (place_of 1 ∷ [])
      (code_apart (66 ∷ []) (Place 0 ∷ []) (place_of 0) refl)
      (All-cons (IsNamedApart return_code) (place_of 1) [] (code_apart (66 ∷ []) (Place 1 ∷ []) (place_of 1) refl)
      (All-nil (IsNamedApart return_code)))),
  (
    All-cons (IsNamedApart amount) (place_of 0) (place_of 1 ∷ []) (amount_apart 0)
        (All-cons (IsNamedApart amount) (place_of 1) [] (amount_apart 1) (All-nil (IsNamedApart amount))),
    (
      All-cons (IsNamedApart (place_of 0)) (place_of 1) [] place_apart (All-nil (IsNamedApart (place_of 0))),
      (All-nil (IsNamedApart (place_of 1)), tt),
    ),
  ),
)

-- a leaf that comes twice isn't apart
not_apart : AreLeavesApart (amount ∷ amount ∷ []) → ⊥
not_apart both = All-head (IsNamedApart amount) amount [] both.0 refl

-- ---- a block within a graph

abbrev input : Leaves
input = record { leaves = amount ∷ [] }

abbrev output : Leaves
output = record { leaves = output_leaves }

abbrev wiring : Wiring
wiring = record { order = []; incoming = []; outgoing = []; feeding = []; sinking = []; looping = [] }

-- an activity of the name X
abbrev named : Work → Activity
named work = record { name = 88 ∷ []; work = work; input = input; output = output; join = join.All; exit = None }

-- a graph of it alone
abbrev only : Work → Graph
only work = roll-Graph record {
  input = input;
  output = output;
  activities = named work ∷ [];
  controls = [];
  lines = [];
  loops = [];
  wiring = wiring;
}

abbrev program : Work
program = Program record { manual = false; by = Starter; expires = None }

-- a block around a program
abbrev block : Work
block = Block (only program)

first_alone : (work : Work) (a : ℕ) (activity : Activity) → slice_get (named work ∷ []) a ≡ Some activity
    → named work ≡ activity
first_alone work zero activity there = cc
first_alone work (suc a) activity there = absurd (none-some activity there)

-- so it is one level further out
one_more : (work : Work) (depth : ℕ) → ((h : Graph) → graph_in [] work ≡ Some h → HasOutputsApartTo depth h)
    → HasOutputsApartTo (suc depth) (only work)
unfolding opened
one_more work depth inside = λ a activity there.
    subst (HasOutputApart (HasOutputsApartTo depth)) (first_alone work a activity there)
    (record { output = apart; inside = inside })

program_apart : (depth : ℕ) → HasOutputsApartTo depth (only program)
program_apart zero = tt
program_apart (suc depth) = one_more program depth (λ h none. absurd (none-some h none))

block_apart : (depth : ℕ) → HasOutputsApartTo depth (only block)
block_apart zero = tt
block_apart (suc depth) =
    one_more block depth
    (λ h there. (let same : only program ≡ h = cc in subst (HasOutputsApartTo depth) same (program_apart depth)))

two_levels : HasLeavesApart (only block)
unfolding opened
two_levels = record { input = (All-nil (IsNamedApart amount), tt); outputs = block_apart }

-- ---- a record that is admitted

-- in a blank state with room a CLOCK is admitted as the next record, and the names of its leaves are apart
module _ (c : Core) (blank : IsBlank c) (room : c.number < c.limit) (kept : c.kept ≤ c.number) where
  blank_apart : HaveLeavesApart (templates c)
  blank_apart = subst HaveLeavesApart (sym blank.library) (All-nil (λ (t : Template). HasLeavesApart t.graph))

  five : IsDue c (Clock 5)
  five = (omega arith, ap (λ now. unless (nat_le now 5) (refused.Clock now)) blank.clock)

  clock_admitted : IsAdmitted c (c.number + 1) (Clock 5)
  clock_admitted = record { place = inr ((omega (arith, kept), room, refl), tt); due = five }
