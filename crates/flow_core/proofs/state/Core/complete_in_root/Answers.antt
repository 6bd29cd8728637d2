use Rattle.std.proofs.Common.{ap}
use Rattle.flow_core.specs.Driving.{templates}
use Rattle.flow_core.specs.Shelving.{CompletesReady, CompletesGiving, IfRootLive, WhereLive}
use Rattle.root_laws.specs.Becoming.{CompletesIn}
use Rattle.flow_core.proofs.Written.{root_written, keys_kept, where_live, if_ok_so}
use Rattle.flow_core.proofs.state.Core.complete_in_root.Goals as goal

pub returns-in-Some-clause-keys : goal.returns-in-Some-clause-keys
returns-in-Some-clause-keys c =
    let written = rw c.in-Some.is at c.get_mut.follows.holds c.complete_item.new.self in
    keys_kept c.args.self.now (c.get_mut.follows.lender c.complete_item.new.self) c.args.item.now.root c.in-Some.root.now
    c.complete_item.new.self written c.in-Some.ensures.value (ap (λ r. r.key) c.complete_item.ensures.rest)

pub returns-in-Some-clause-roots : goal.returns-in-Some-clause-roots
returns-in-Some-clause-roots c =
    let written = rw c.in-Some.is at c.get_mut.follows.holds c.complete_item.new.self in
    if_ok_so _ _ c.complete_item.result
    (λ given. root_written c.args.self.now (c.get_mut.follows.lender c.complete_item.new.self) c.args.item.now.root c.in-Some.root.now
    c.complete_item.new.self written c.in-Some.ensures.value (ap (λ r. r.key) c.complete_item.ensures.rest)
    (CompletesIn (templates c.args.self.now) c.args.item.now c.args.output given.0) given.0)
    (rw c.library.ensures at c.complete_item.ensures.completed)

pub returns-in-Some-clause-ready : goal.returns-in-Some-clause-ready
returns-in-Some-clause-ready c =
    let written = rw c.in-Some.is at c.get_mut.follows.holds c.complete_item.new.self in
    if_ok_so _ _ c.complete_item.result
    (λ given. where_live c.args.self.now (c.get_mut.follows.lender c.complete_item.new.self) c.args.item.now.root c.in-Some.root.now
    c.complete_item.new.self written c.in-Some.ensures.value (ap (λ r. r.key) c.complete_item.ensures.rest)
    (IfRootLive (CompletesReady (templates c.args.self.now) c.args.self.now.clock c.args.item.now
    (record { output = c.args.output; performer = c.args.performer })) given.1.items))
    (rw c.library.ensures at c.complete_item.ensures.ready)

pub returns-in-Some-clause-exact : goal.returns-in-Some-clause-exact
returns-in-Some-clause-exact c =
    let written = rw c.in-Some.is at c.get_mut.follows.holds c.complete_item.new.self in
    if_ok_so _ _ c.complete_item.result
    (λ given. where_live c.args.self.now (c.get_mut.follows.lender c.complete_item.new.self) c.args.item.now.root c.in-Some.root.now
    c.complete_item.new.self written c.in-Some.ensures.value (ap (λ r. r.key) c.complete_item.ensures.rest)
    (WhereLive (CompletesGiving (templates c.args.self.now) c.args.self.now.clock c.args.item.now
    (record { output = c.args.output; performer = c.args.performer }) given.0 given.1.items)))
    (rw c.library.ensures at c.complete_item.ensures.exact)
