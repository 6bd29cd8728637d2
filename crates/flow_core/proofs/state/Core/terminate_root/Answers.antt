use Rattle.std.proofs.Common.{[], refl}
use Rattle.flow_core.specs.Driving.{IsTerminated}
use Rattle.flow_core.proofs.Written.{root_written, keys_kept}
use Rattle.flow_core.proofs.state.Core.terminate_root.Goals as goal

pub returns-in-Some-clause-keys : goal.returns-in-Some-clause-keys
returns-in-Some-clause-keys c =
    let was = c.in-Some.found.now in
    let written = rw c.in-Some.is at c.get_mut.follows.holds (record { instance = c.terminate.new.self; key = was.key }) in
    keys_kept c.args.self.now (c.get_mut.follows.lender (record { instance = c.terminate.new.self; key = was.key })) c.args.root was
    (record { instance = c.terminate.new.self; key = was.key }) written c.in-Some.ensures.value refl

pub returns-in-Some-clause-roots : goal.returns-in-Some-clause-roots
returns-in-Some-clause-roots c =
    let was = c.in-Some.found.now in
    let written = rw c.in-Some.is at c.get_mut.follows.holds (record { instance = c.terminate.new.self; key = was.key }) in
    root_written c.args.self.now (c.get_mut.follows.lender (record { instance = c.terminate.new.self; key = was.key })) c.args.root was
    (record { instance = c.terminate.new.self; key = was.key }) written c.in-Some.ensures.value refl IsTerminated [] c.terminate.ensures
