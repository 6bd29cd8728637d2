-- What the attributes of an activity say: the first of each kind counts.
use Rattle.std.specs.Prelude.{ℕ, ◌^◌, ◌-◌, min, nat_lt, if◌then◌else◌, Bool, false, Option, Some, None, unwrap_or, List}
use Rattle.std.specs.Prelude.{[], ◌∷◌}
use Rattle.std.specs.List.{list_any}
use Rattle.std.specs.Option.{option_map, option_or, option_and_then}
use Rattle.flow_model.specs.declared.graphs.DoneBy.{DoneBy}
use Rattle.flow_model.specs.declared.graphs.DoneBy.TheVariants as doer
use Rattle.flow_model.specs.declared.graphs.Join.{Join}
use Rattle.flow_model.specs.declared.graphs.Join.TheVariants.{All, AtLeastOne, AtLeast}
use Rattle.flow_model.specs.declared.graphs.Program.{Program}
use Rattle.flow_model.specs.declared.trees.AttrAt.{AttrAt}
use Rattle.flow_model.specs.declared.trees.AttrTree.{AttrTree}
use Rattle.flow_model.specs.declared.trees.AttrTree.TheVariants as attr
use Rattle.flow_model.specs.declared.trees.CondAt.{CondAt}
use Rattle.flow_model.specs.declared.trees.ElementTree.{ElementTree}
use Rattle.flow_model.specs.declared.trees.JoinTree.{JoinTree}
use Rattle.flow_model.specs.declared.trees.JoinTree.TheVariants as join
use Rattle.flow_model.specs.declared.trees.NumberAt.{NumberAt}
use Rattle.text_graphs.specs.Texts.{number_in}

-- the first that is said
abbrev pub first_said : {A : Type 0} → (AttrTree → Option A) → List AttrAt → Option A
first_said said [] = None
first_said said (a ∷ attrs) = option_or (said a.what) (first_said said attrs)

-- the start condition that WHEN says; a number is told as far as 32 bits do
abbrev pub join_by : JoinTree → Join
join_by join.All = All
join_by join.AtLeastOne = AtLeastOne
join_by (join.AtLeast number) = AtLeast (min number.size (2 ^ 32 - 1))

abbrev pub join_said : AttrTree → Option Join
join_said (attr.When j) = Some (join_by j)
join_said (attr.Exit c) = None
join_said (attr.Start manual) = None
join_said (attr.Expires number) = None
join_said (attr.Role name) = None
join_said (attr.Person name) = None
join_said attr.Starter = None
join_said (attr.Performer name) = None

-- ALL where nothing is said
abbrev pub joined_by : List AttrAt → Join
joined_by attrs = unwrap_or (first_said join_said attrs) All

-- the minutes that EXPIRES says
abbrev pub expires_said : AttrTree → Option NumberAt
expires_said (attr.When j) = None
expires_said (attr.Exit c) = None
expires_said (attr.Start manual) = None
expires_said (attr.Expires number) = Some number
expires_said (attr.Role name) = None
expires_said (attr.Person name) = None
expires_said attr.Starter = None
expires_said (attr.Performer name) = None

-- minutes of 32 bits
abbrev pub minutes_of : NumberAt → Option ℕ
minutes_of number = if nat_lt number.size (2 ^ 32) then Some number.size else None

abbrev pub expires_by : List AttrAt → Option ℕ
expires_by attrs = option_and_then minutes_of (first_said expires_said attrs)

-- the exit condition
abbrev pub exit_said : AttrTree → Option CondAt
exit_said (attr.When j) = None
exit_said (attr.Exit c) = Some c
exit_said (attr.Start manual) = None
exit_said (attr.Expires number) = None
exit_said (attr.Role name) = None
exit_said (attr.Person name) = None
exit_said attr.Starter = None
exit_said (attr.Performer name) = None

-- who may do it, in a graph of these elements
abbrev pub doer_said : List ElementTree → AttrTree → Option DoneBy
doer_said elements (attr.When j) = None
doer_said elements (attr.Exit c) = None
doer_said elements (attr.Start manual) = None
doer_said elements (attr.Expires number) = None
doer_said elements (attr.Role name) = Some (doer.Role name.name)
doer_said elements (attr.Person name) = Some (doer.Person name.name)
doer_said elements attr.Starter = Some doer.Starter
doer_said elements (attr.Performer name) = option_map (λ place. doer.PerformerOf place) (number_in elements name.name)

-- its starter where nothing is said
abbrev pub done_by : List ElementTree → List AttrAt → DoneBy
done_by elements attrs = unwrap_or (first_said (doer_said elements) attrs) doer.Starter

-- START MANUAL
abbrev pub is_start_manual : AttrTree → Bool
is_start_manual (attr.When j) = false
is_start_manual (attr.Exit c) = false
is_start_manual (attr.Start manual) = manual
is_start_manual (attr.Expires number) = false
is_start_manual (attr.Role name) = false
is_start_manual (attr.Person name) = false
is_start_manual attr.Starter = false
is_start_manual (attr.Performer name) = false

-- a program activity with these attributes
abbrev pub program_by : List ElementTree → List AttrAt → Program
program_by elements attrs = record {
  manual = list_any (λ a. is_start_manual a.what) attrs;
  by =
      done_by elements attrs;
  expires = expires_by attrs;
}
