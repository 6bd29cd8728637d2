use Rattle.std.proofs.Common.{subst}
use Rattle.core_laws.proofs.Completed.{counted_known}
use Rattle.core_laws.specs.RightStates.{input_now, note_queue}
use Rattle.flow_core.specs.Driving.{templates}
use Rattle.flow_model.specs.Scopes.{Known}
use Rattle.navigator.specs.Items.{stand}
use Rattle.root_laws.specs.RightRoots.{root_in}
use Rattle.scope_laws.proofs.Inside.{right_along, root_told}
use Rattle.scope_laws.proofs.scopes.scopes_are_sound.Goals as goal
use Rattle.scope_laws.specs.Scopes.{LeadsTo, SaysRight}
use Rattle.view_laws.specs.Runs.{running, seen}

pub returns : goal.returns
returns c = λ c runs right root i live parts here found.
    let one = (right.are root i live).right in
    let r = root_in (templates c) one.depth one.graph (input_now c root) in
    subst (λ (k : Known). LeadsTo (SaysRight (templates c) here) (templates c) one.depth k one.graph (input_now c root) parts) (counted_known c runs right root i live)
    (right_along r (note_queue c root) (templates c) here parts one.depth (seen (running (runs root))) (input_now c root) (stand one.graph i.scope) one.shows one.served.well
    (root_told r (note_queue c root) one.served.well (runs root) one.legal.fronts) found)
