-- Rows of a table of leaves: the leaf that a row stands for, behind the leaves of the rows before it.
use Rattle.std.specs.Prelude.{ℕ, zero, suc, Option, None, Some, List, [], ◌∷◌, ◌++◌, slice_get}
use Rattle.flow_model.specs.declared.graphs.Leaf.{Leaf}
use Rattle.flow_model.specs.declared.graphs.Step.{Step}
use Rattle.flow_model.specs.declared.graphs.Step.TheVariants.{Place}
use Rattle.flow_model.specs.declared.leaf_rows.LeafRow.{LeafRow}

-- the step to a place of an array, for one more than the place; 0 stands for no step
abbrev pub place_steps : ℕ → List Step
place_steps zero = []
place_steps (suc place) = Place place ∷ []

-- the steps of a leaf, if there is one
abbrev pub steps_said : Option Leaf → List Step
steps_said None = []
steps_said (Some leaf) = leaf.name.steps

-- the steps of the leaf at a place, for one more than the place; 0 stands for no steps
abbrev pub linked_steps : List Leaf → ℕ → List Step
linked_steps leaves zero = []
linked_steps leaves (suc place) = steps_said (slice_get leaves place)

-- the leaf of a row
abbrev pub leaf_of : List Leaf → LeafRow → Leaf
leaf_of before row = record {
  name = record {
    steps = row.head.value ∷
        (place_steps row.place ++ linked_steps before row.rest);
  };
  kind = row.kind;
}

-- those of some rows, behind leaves that are there
abbrev pub leaves_behind : List Leaf → List LeafRow → List Leaf
leaves_behind before [] = before
leaves_behind before (row ∷ rows) = leaves_behind (before ++ leaf_of before row ∷ []) rows
