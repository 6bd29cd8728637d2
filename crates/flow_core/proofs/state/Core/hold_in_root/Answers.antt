use Rattle.std.proofs.Common.{[], ap}
use Rattle.flow_core.specs.Driving.{templates}
use Rattle.root_laws.specs.Becoming.{HoldsIn}
use Rattle.flow_core.proofs.Written.{root_written, keys_kept}
use Rattle.flow_core.proofs.state.Core.hold_in_root.Goals as goal

pub returns-in-Some-clause-keys : goal.returns-in-Some-clause-keys
returns-in-Some-clause-keys c =
    let written = rw c.in-Some.is at c.get_mut.follows.holds c.change_hold.new.self in
    keys_kept c.args.self.now (c.get_mut.follows.lender c.change_hold.new.self) c.args.item.now.root c.in-Some.root.now
    c.change_hold.new.self written c.in-Some.ensures.value (ap (λ r. r.key) c.change_hold.ensures.rest)

pub returns-in-Some-clause-roots : goal.returns-in-Some-clause-roots
returns-in-Some-clause-roots c =
    let written = rw c.in-Some.is at c.get_mut.follows.holds c.change_hold.new.self in
    root_written c.args.self.now (c.get_mut.follows.lender c.change_hold.new.self) c.args.item.now.root c.in-Some.root.now
    c.change_hold.new.self written c.in-Some.ensures.value (ap (λ r. r.key) c.change_hold.ensures.rest)
    (HoldsIn (templates c.args.self.now) c.args.item.now c.args.change) []
    (rw c.library.ensures at c.change_hold.ensures.held)
