use Rattle.std.proofs.Common.{◌≤◌, ◌+◌, ◌*◌, List, length, subst}
use Rattle.core_laws.proofs.Completed.{counted_facts}
use Rattle.core_laws.proofs.states.turns_are_bounded.Goals as goal
use Rattle.core_laws.specs.RightStates.{input_now, note_queue}
use Rattle.flow_core.specs.Driving.{templates}
use Rattle.flow_model.specs.declared.instances.Fact.{Fact}
use Rattle.root_laws.specs.RightRoots.{root_in}
use Rattle.view_laws.proofs.TakenMessages as taken
use Rattle.view_laws.specs.Queues.{spent}
use Rattle.view_laws.specs.Runs.{engine}
use Rattle.view_laws.specs.TurnBound.{expanded_size}

pub returns : goal.returns
returns c = λ c runs right root i live.
    let one = (right.are root i live).right in
    let r = root_in (templates c) one.depth one.graph (input_now c root) in
    let q = note_queue c root in
    subst (λ (fs : List Fact). length (spent (engine r q) (runs root)) ≤ expanded_size (templates c) one.depth one.graph * (1 + length fs)) (counted_facts c runs right root i live)
    (taken.turns_are_bounded r q (runs root) one.served.well one.legal.fronts)
