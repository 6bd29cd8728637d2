-- How large a written condition is.
use Rattle.std.specs.Prelude.{ℕ, ◌+◌, ◌-◌, ◌^◌, min, length, sum}
use Rattle.flow_model.specs.declared.trees.Cond.{Cond}
use Rattle.flow_model.specs.declared.trees.Cond.TheOpen.{Cond-F}
use Rattle.flow_model.specs.declared.trees.Cond.TheFolds.{fold-Cond}
use Rattle.flow_model.specs.declared.trees.Side.{Side}
use Rattle.flow_model.specs.declared.trees.Side.TheVariants as side

-- a number as far as it can be told in 64 bits
abbrev pub told : ℕ → ℕ
told n = min n (2 ^ 64 - 1)

-- a text is one operand
abbrev pub side_operands : Side → ℕ
side_operands (side.Text text place) = 1
side_operands (side.Sum terms) = length terms

abbrev pub operands_by : Cond-F ℕ → ℕ
operands_by (Cond-F.Or members) = sum members
operands_by (Cond-F.And members) = sum members
operands_by (Cond-F.Not member) = member
operands_by (Cond-F.Compare left operator right) = side_operands left + side_operands right

-- the operands of a condition
abbrev pub operands_of : Cond → ℕ
operands_of = fold-Cond ℕ operands_by

abbrev pub nodes_by : Cond-F ℕ → ℕ
nodes_by (Cond-F.Or members) = sum members + (length members - 1)
nodes_by (Cond-F.And members) = sum members + (length members - 1)
nodes_by (Cond-F.Not member) = member + 1
nodes_by (Cond-F.Compare left operator right) = 1

-- the comparisons of a condition, with its words NOT, and the words OR and AND between two members
abbrev pub nodes_of : Cond → ℕ
nodes_of = fold-Cond ℕ nodes_by
