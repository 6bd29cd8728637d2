use Rattle.std.proofs.Common.{suc, ap, sym, ◌∙◌}
use Rattle.core_laws.proofs.Completed.{counted_known}
use Rattle.core_laws.proofs.Outputs.{done_output}
use Rattle.core_laws.proofs.states.done_outputs_are_right.Goals as goal
use Rattle.core_laws.specs.RightStates.{input_now, messages_in, note_queue}
use Rattle.flow_core.specs.Driving.{templates}
use Rattle.flow_model.specs.Scopes.{output}

pub returns : goal.returns
returns c = λ c runs right root i live out done shown.
    let one = (right.are root i live).right in
    sym (ap (λ k. output (templates c) (suc one.depth) k one.graph (input_now c root)) (counted_known c runs right root i live))
    ∙ done_output (templates c) (note_queue c root) (runs root) (messages_in c.queues root) (input_now c root) i one out done shown
