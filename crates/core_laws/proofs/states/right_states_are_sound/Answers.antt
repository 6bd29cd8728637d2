use Rattle.std.proofs.Common.{ap, ◌∙◌}
use Rattle.core_laws.proofs.Completed.{counted_known}
use Rattle.core_laws.proofs.states.right_states_are_sound.Goals as goal
use Rattle.core_laws.specs.RightStates.{input_now, messages_in, note_queue}
use Rattle.flow_core.specs.Driving.{templates}
use Rattle.flow_model.specs.Scopes.{tree_ends}
use Rattle.root_laws.proofs.EndsSaid.{is_sound}

pub returns : goal.returns
returns c = λ c runs right root i live a settled.
    let one = (right.are root i live).right in
    is_sound (templates c) (note_queue c root) (runs root) (messages_in c.queues root) (input_now c root) i a one settled
    ∙ ap (λ k. tree_ends (templates c) one.depth k one.graph (input_now c root) a) (counted_known c runs right root i live)
