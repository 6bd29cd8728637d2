use Rattle.std.proofs.Common.{ap}
use Rattle.flow_core.specs.Driving.{templates}
use Rattle.flow_core.specs.Shelving.{MakesReady, TakesGiving, IfRootLive, WhereLive}
use Rattle.recover_queue.specs.Queues.{root_of as root_of_message}
use Rattle.root_laws.specs.Becoming.{TakesIn}
use Rattle.flow_core.proofs.Written.{root_written, keys_kept, where_live, if_ok_so}
use Rattle.flow_core.proofs.state.Core.take_in_root.Goals as goal

pub returns-in-Some-clause-keys : goal.returns-in-Some-clause-keys
returns-in-Some-clause-keys c =
    let written = rw c.root_of.ensures at (rw c.in-Some.is at c.get_mut.follows.holds c.take_message.new.self) in
    let there = rw c.root_of.ensures at c.in-Some.ensures.value in
    keys_kept c.args.self.now (c.get_mut.follows.lender c.take_message.new.self) (root_of_message c.args.message.now) c.in-Some.root.now
    c.take_message.new.self written there (ap (λ r. r.key) c.take_message.ensures.rest)

pub returns-in-Some-clause-roots : goal.returns-in-Some-clause-roots
returns-in-Some-clause-roots c =
    let written = rw c.root_of.ensures at (rw c.in-Some.is at c.get_mut.follows.holds c.take_message.new.self) in
    let there = rw c.root_of.ensures at c.in-Some.ensures.value in
    if_ok_so _ _ c.take_message.result
    (λ given. root_written c.args.self.now (c.get_mut.follows.lender c.take_message.new.self) (root_of_message c.args.message.now) c.in-Some.root.now
    c.take_message.new.self written there (ap (λ r. r.key) c.take_message.ensures.rest)
    (TakesIn (templates c.args.self.now) c.args.message.now given.0) given.0)
    (rw c.library.ensures at c.take_message.ensures.taken)

pub returns-in-Some-clause-ready : goal.returns-in-Some-clause-ready
returns-in-Some-clause-ready c =
    let written = rw c.root_of.ensures at (rw c.in-Some.is at c.get_mut.follows.holds c.take_message.new.self) in
    let there = rw c.root_of.ensures at c.in-Some.ensures.value in
    if_ok_so _ _ c.take_message.result
    (λ given. where_live c.args.self.now (c.get_mut.follows.lender c.take_message.new.self) (root_of_message c.args.message.now) c.in-Some.root.now
    c.take_message.new.self written there (ap (λ r. r.key) c.take_message.ensures.rest)
    (IfRootLive (MakesReady (templates c.args.self.now) c.args.self.now.clock c.args.message.now) given.1.items))
    (rw c.library.ensures at c.take_message.ensures.ready)

pub returns-in-Some-clause-exact : goal.returns-in-Some-clause-exact
returns-in-Some-clause-exact c =
    let written = rw c.root_of.ensures at (rw c.in-Some.is at c.get_mut.follows.holds c.take_message.new.self) in
    let there = rw c.root_of.ensures at c.in-Some.ensures.value in
    if_ok_so _ _ c.take_message.result
    (λ given. where_live c.args.self.now (c.get_mut.follows.lender c.take_message.new.self) (root_of_message c.args.message.now) c.in-Some.root.now
    c.take_message.new.self written there (ap (λ r. r.key) c.take_message.ensures.rest)
    (WhereLive (TakesGiving (templates c.args.self.now) c.args.self.now.clock c.args.message.now given.0 given.1.items)))
    (rw c.library.ensures at c.take_message.ensures.exact)
