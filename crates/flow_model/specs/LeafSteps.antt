-- Steps of a leaf, as a walk over them gives them.
use Rattle.flow_model.specs.declared.graphs.Step.{Step}
use Rattle.flow_model.specs.declared.graphs.Step.TheVariants.{Place}
use Rattle.flow_model.specs.declared.leaves.StepAt.{StepAt}
use Rattle.flow_model.specs.declared.leaves.StepAt.TheVariants as found

-- the step that is found
abbrev pub step_at : StepAt → Step
step_at (found.Step step) = step.now
step_at (found.Place place) = Place place
