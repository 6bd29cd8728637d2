use Rattle.std.proofs.Common.{◌≡◌, ◌++◌, List, length}
use Rattle.std.specs.List.{All}
use Rattle.flow_model.specs.Paths.{parts_spelling}
use Rattle.flow_model.specs.declared.instances.Part.{Part}
use Rattle.flow_model.specs.Paths.{IsStep}
use Rattle.flow_model.proofs.Steps.{IsLeft}
use Rattle.flow_model.proofs.path_reading.steps_in.Given as goal

abbrev pub invariant-loop-rest : goal.invariant-loop-rest
invariant-loop-rest l = record {
  are : All IsStep l.steps;
  front : l.fn.bytes ≡ parts_spelling l.steps ++ l.rest;
  left : (qs : List Part) → All IsStep qs → l.fn.bytes ≡ parts_spelling qs → IsLeft l.steps l.rest qs;
}

abbrev pub decreases-loop-rest : goal.decreases-loop-rest
decreases-loop-rest l = length l.rest
