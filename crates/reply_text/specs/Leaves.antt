-- How leaves, values and containers are written.
use Rattle.std.specs.Prelude.{ℕ, List, [], ◌∷◌, ◌++◌, codes}
use Rattle.std.specs.List.{flat_map, zip}
use Rattle.std.specs.Fmt.{decimal, signed_decimal}
use Rattle.flow_model.specs.declared.graphs.Step.{Step}
use Rattle.flow_model.specs.declared.graphs.Step.TheVariants.{Member, Rc, Place}
use Rattle.flow_model.specs.declared.graphs.Leaf.{Leaf}
use Rattle.flow_model.specs.declared.graphs.Leaves.{Leaves}
use Rattle.flow_model.specs.declared.graphs.Value.{Value}
use Rattle.flow_model.specs.declared.graphs.Value.TheVariants.{Whole, Text}
use Rattle.flow_model.specs.declared.graphs.Container.{Container}
use Rattle.flow_text.specs.Spelling.{name_in_quotes, text_in_quotes}

-- the first step: a member's name in quotes, the return code, or a place in brackets
abbrev pub first_text : Step → List ℕ
first_text (Member name) = name_in_quotes name
first_text Rc = codes "'_RC'"
first_text (Place place) = 91 ∷ [] ++ decimal place ++ 93 ∷ []

-- a later step: a member has a dot before it
abbrev pub later_text : Step → List ℕ
later_text (Member name) = 46 ∷ name_in_quotes name
later_text Rc = codes "'_RC'"
later_text (Place place) = 91 ∷ [] ++ decimal place ++ 93 ∷ []

-- a leaf's steps, one behind the other
abbrev pub steps_text : List Step → List ℕ
steps_text [] = []
steps_text (first ∷ later) = first_text first ++ flat_map later_text later

-- a leaf, as `'A'`, `'A'.'B'` or `'A'[0]`
abbrev pub leaf_text : Leaf → List ℕ
leaf_text leaf = steps_text leaf.name.steps

-- a signed number, or a text in double quotes
abbrev pub value_text : Value → List ℕ
value_text (Whole number) = signed_decimal number
value_text (Text text) = text_in_quotes text

-- the line of a leaf and its value
abbrev pub line_text : Leaf × Value → List ℕ
line_text line = leaf_text line.0 ++ codes " = " ++ value_text line.1 ++ 10 ∷ []

-- a line for each leaf that has a value, in order
abbrev pub container_text : Leaves → Container → List ℕ
container_text of container = flat_map line_text (zip of.leaves container.values)
