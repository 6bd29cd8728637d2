use Rattle.std.proofs.Common.{[], refl}
use Rattle.flow_core.specs.Driving.{IsSuspended}
use Rattle.flow_core.proofs.Written.{root_written, keys_kept}
use Rattle.flow_core.proofs.state.Core.set_suspended.Goals as goal

pub returns-then-suspended-clause-keys : goal.returns-then-suspended-clause-keys
returns-then-suspended-clause-keys c =
    let was = c.in-Some.found.now in
    let written = rw c.in-Some.is at c.get_mut.follows.holds (record { instance = c.suspend.new.self; key = was.key }) in
    keys_kept c.args.self.now (c.get_mut.follows.lender (record { instance = c.suspend.new.self; key = was.key })) c.args.root was
    (record { instance = c.suspend.new.self; key = was.key }) written c.in-Some.ensures.value refl

pub returns-then-suspended-clause-roots : goal.returns-then-suspended-clause-roots
returns-then-suspended-clause-roots c =
    let was = c.in-Some.found.now in
    let written = rw c.in-Some.is at c.get_mut.follows.holds (record { instance = c.suspend.new.self; key = was.key }) in
    root_written c.args.self.now (c.get_mut.follows.lender (record { instance = c.suspend.new.self; key = was.key })) c.args.root was
    (record { instance = c.suspend.new.self; key = was.key }) written c.in-Some.ensures.value refl (IsSuspended c.args.suspended) []
    (rw c.if-suspended.true c.suspend.ensures)

pub returns-else-suspended-clause-keys : goal.returns-else-suspended-clause-keys
returns-else-suspended-clause-keys c =
    let was = c.in-Some.found.now in
    let written = rw c.in-Some.is at c.get_mut.follows.holds (record { instance = c.resume.new.self; key = was.key }) in
    keys_kept c.args.self.now (c.get_mut.follows.lender (record { instance = c.resume.new.self; key = was.key })) c.args.root was
    (record { instance = c.resume.new.self; key = was.key }) written c.in-Some.ensures.value refl

pub returns-else-suspended-clause-roots : goal.returns-else-suspended-clause-roots
returns-else-suspended-clause-roots c =
    let was = c.in-Some.found.now in
    let written = rw c.in-Some.is at c.get_mut.follows.holds (record { instance = c.resume.new.self; key = was.key }) in
    root_written c.args.self.now (c.get_mut.follows.lender (record { instance = c.resume.new.self; key = was.key })) c.args.root was
    (record { instance = c.resume.new.self; key = was.key }) written c.in-Some.ensures.value refl (IsSuspended c.args.suspended) []
    (rw c.if-suspended.false c.resume.ensures)
