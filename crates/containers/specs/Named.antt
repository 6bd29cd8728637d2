-- Leaves by their written names.
use Rattle.std.specs.Prelude.{ℕ, ◌==◌, Bool, true, false, ◌&&◌, Option, List, [], ◌∷◌, bytes_eq}
use Rattle.std.specs.List.{position_from}
use Rattle.flow_model.specs.declared.graphs.Leaf.{Leaf}
use Rattle.flow_model.specs.declared.graphs.Step.{Step}
use Rattle.flow_model.specs.declared.graphs.Step.TheVariants.{Member, Rc, Place}
use Rattle.flow_model.specs.declared.trees.StepTree.{StepTree}
use Rattle.flow_model.specs.declared.trees.StepTree.TheVariants as written

-- a step is written so
abbrev pub names_step : StepTree → Step → Bool
names_step (written.Member a) (Member b) = bytes_eq b a
names_step (written.Member a) Rc = false
names_step (written.Member a) (Place j) = false
names_step written.Rc (Member b) = false
names_step written.Rc Rc = true
names_step written.Rc (Place j) = false
names_step (written.Place i) (Member b) = false
names_step (written.Place i) Rc = false
names_step (written.Place i) (Place j) = j == i

-- a leaf is written so, step by step
abbrev pub names_leaf : List StepTree → List Step → Bool
names_leaf [] [] = true
names_leaf [] (b ∷ bs) = false
names_leaf (a ∷ steps) [] = false
names_leaf (a ∷ steps) (b ∷ bs) = names_step a b && names_leaf steps bs

-- the place of the first leaf that is written so
abbrev pub leaf_place : List Leaf → List StepTree → Option ℕ
leaf_place leaves steps = position_from (λ leaf. names_leaf steps leaf.name.steps) 0 leaves
