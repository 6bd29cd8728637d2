-- The leaf that an output has besides those of its structure.
use Rattle.std.specs.Prelude.{[], ◌∷◌}
use Rattle.flow_model.specs.declared.graphs.Kind.TheVariants.{Long}
use Rattle.flow_model.specs.declared.graphs.Leaf.{Leaf}
use Rattle.flow_model.specs.declared.graphs.Step.TheVariants.{Rc}

-- the leaf of a return code
abbrev pub return_code : Leaf
return_code = record { name = record { steps = Rc ∷ [] }; kind = Long }
