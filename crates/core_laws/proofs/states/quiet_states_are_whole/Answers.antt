use Rattle.std.proofs.Common.{ap, ◌∙◌}
use Rattle.core_laws.proofs.Completed.{all_known}
use Rattle.core_laws.proofs.Standing.{none_stand}
use Rattle.core_laws.proofs.states.quiet_states_are_whole.Goals as goal
use Rattle.core_laws.specs.RightStates.{input_now, messages_in, note_queue}
use Rattle.flow_core.specs.Driving.{templates}
use Rattle.flow_model.specs.Scopes.{tree_ends}
use Rattle.root_laws.proofs.EndsSaid.{is_whole}

pub returns : goal.returns
returns c = λ c runs right root i live a lives quiet.
    let one = (right.are root i live).right in
    is_whole (templates c) (note_queue c root) (runs root) (messages_in c.queues root) (input_now c root) i a one lives (none_stand root c.queues quiet)
    ∙ ap (λ k. tree_ends (templates c) one.depth k one.graph (input_now c root) a) (all_known c runs right root i live)
