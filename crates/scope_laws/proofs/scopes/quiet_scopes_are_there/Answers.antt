use Rattle.std.proofs.Common.{sym, subst}
use Rattle.core_laws.proofs.Completed.{all_known}
use Rattle.core_laws.specs.RightStates.{input_now, note_queue}
use Rattle.flow_core.specs.Driving.{templates}
use Rattle.flow_model.specs.Scopes.{Known}
use Rattle.navigator.specs.Items.{stand}
use Rattle.root_laws.specs.RightRoots.{root_in}
use Rattle.scope_laws.proofs.Inside.{found_along}
use Rattle.scope_laws.proofs.Quiet.{all_taken, shows_now}
use Rattle.scope_laws.proofs.scopes.quiet_scopes_are_there.Goals as goal
use Rattle.scope_laws.specs.Scopes.{IsStartedScope}
use Rattle.view_laws.specs.Runs.{seen}

pub returns : goal.returns
returns c = λ c runs right root i live parts lives quiet started.
    let one = (right.are root i live).right in
    let r = root_in (templates c) one.depth one.graph (input_now c root) in
    found_along r (note_queue c root) (templates c) parts one.depth (seen (runs root)) (input_now c root) (stand one.graph i.scope)
    (shows_now c root (runs root) i (right.are root i live) lives quiet) one.served.well (all_taken c root (runs root) i (right.are root i live) lives quiet)
    (subst (λ (k : Known). IsStartedScope (templates c) one.depth k one.graph (input_now c root) parts) (sym (all_known c runs right root i live)) started)
