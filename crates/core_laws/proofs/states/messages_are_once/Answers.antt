use Rattle.core_laws.proofs.states.messages_are_once.Goals as goal
use Rattle.core_laws.specs.RightStates.{input_now, note_queue}
use Rattle.flow_core.specs.Driving.{templates}
use Rattle.root_laws.specs.RightRoots.{root_in}
use Rattle.view_laws.proofs.NothingDue.{nothing}
use Rattle.view_laws.proofs.WholeRuns.{note_once}

pub returns : goal.returns
returns c = λ c runs right root i live.
    let one = (right.are root i live).right in
    let r = root_in (templates c) one.depth one.graph (input_now c root) in
    let q = note_queue c root in
    (λ m. note_once r q one.served.well (runs root) one.legal.fronts (nothing r q) m, one.messages)
