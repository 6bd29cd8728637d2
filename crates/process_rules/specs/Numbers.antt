-- Rule 23: numbers that are out of range.
use Rattle.std.specs.Prelude.{◌≡◌, ◌<◌, ◌⊎◌, ◌==◌, ℕ, Bool, false, Option, Some, None, List}
use Rattle.std.specs.List.{count_by}
use Rattle.conditions.specs.Faults.{unsized_number}
use Rattle.flow_model.specs.declared.trees.AttrTree.{AttrTree}
use Rattle.flow_model.specs.declared.trees.AttrTree.TheVariants as attr
use Rattle.flow_model.specs.declared.trees.CondAt.{CondAt}
use Rattle.flow_model.specs.declared.trees.ControlTree.{ControlTree}
use Rattle.flow_model.specs.declared.trees.ElementTree.{ElementTree}
use Rattle.flow_model.specs.declared.trees.JoinTree.{JoinTree}
use Rattle.flow_model.specs.declared.trees.JoinTree.TheVariants as join
use Rattle.flow_model.specs.declared.trees.NumberAt.{NumberAt}
use Rattle.text_graphs.specs.Graphs.{GraphAt}
use Rattle.text_graphs.specs.Places.{AnyAt}
use Rattle.text_graphs.specs.Texts.{activities_in, controls_in, number_in}
use Rattle.process_rules.specs.Numbering.{NumberedAt}
use Rattle.process_rules.specs.Said.{InConditions}

-- ---- conditions

-- the place of the first number of a condition that has no 64 bits
abbrev pub IsUnsized : CondAt → ℕ → Type 0
IsUnsized c p = unsized_number c.cond ≡ Some p

-- ---- attributes

-- the place of a number outside 1 to the most
abbrev pub IsOutside : ℕ → NumberAt → ℕ → Type 0
IsOutside most number p = ((number.size < 1) ⊎ (most < number.size)) × (number.place ≡ p)

-- of the number of AT_LEAST
abbrev pub IsJoinOutside : ℕ → JoinTree → ℕ → Type 0
IsJoinOutside most join.All p = ⊥
IsJoinOutside most join.AtLeastOne p = ⊥
IsJoinOutside most (join.AtLeast number) p = IsOutside most number p

-- of a number in an attribute of an activity to which this many connectors lead
abbrev pub IsSaidOutside : ℕ → AttrTree → ℕ → Type 0
IsSaidOutside connectors (attr.When j) p = IsJoinOutside connectors j p
IsSaidOutside connectors (attr.Exit c) p = ⊥
IsSaidOutside connectors (attr.Start manual) p = ⊥
IsSaidOutside connectors (attr.Expires number) p = IsOutside 2147483647 number p
IsSaidOutside connectors (attr.Role name) p = ⊥
IsSaidOutside connectors (attr.Person name) p = ⊥
IsSaidOutside connectors attr.Starter p = ⊥
IsSaidOutside connectors (attr.Performer name) p = ⊥

-- a number is known, and it is this one
abbrev pub is_number : ℕ → Option ℕ → Bool
is_number number None = false
is_number number (Some found) = found == number

-- a connector leads to the activity of this number
abbrev pub is_to : List ElementTree → ℕ → ControlTree → Bool
is_to elements number c = is_number number (number_in elements c.to.name)

-- how many do
abbrev pub connectors_to : List ElementTree → ℕ → ℕ
connectors_to elements number = count_by (is_to elements number) (controls_in elements)

-- of a number in an attribute of the activities of a graph
abbrev pub AreSaidOutside : GraphAt → ℕ → Type 0
AreSaidOutside g = NumberedAt (λ number a. AnyAt (λ x. IsSaidOutside (connectors_to g.elements number) x.what) a.attrs)
    (activities_in g.elements)

-- ---- both

-- of a number in a graph
abbrev pub IsNumberWrong : GraphAt → ℕ → Type 0
IsNumberWrong g p = AreSaidOutside g p ⊎ InConditions IsUnsized g p
