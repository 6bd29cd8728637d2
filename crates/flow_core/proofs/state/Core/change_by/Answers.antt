use Rattle.std.proofs.Common.{Option, OnOk, subst}
use Rattle.flow_core.specs.Driving.{IfNewest}
use Rattle.flow_core.specs.Keys.{StartsKey}
use Rattle.flow_model.specs.declared.names.Name.{Name}
use Rattle.flow_core.proofs.Exact.{started_newest}
use Rattle.flow_core.proofs.Moved.{released, transferred}
use Rattle.flow_core.proofs.state.Core.change_by.Goals as goal

pub returns-in-Release-clause-drives : goal.returns-in-Release-clause-drives
returns-in-Release-clause-drives c = rw c.in-Release.is (released c.give_back.result c.args.self.now c.give_back.new.self c.in-Release.item c.in-Release.field-1 c.give_back.ensures.held)

pub returns-in-Transfer-clause-drives : goal.returns-in-Transfer-clause-drives
returns-in-Transfer-clause-drives c =
    rw c.in-Transfer.is (transferred c.hold_by-in-Transfer.result c.args.self.now c.hold_by-in-Transfer.new.self c.in-Transfer.item c.in-Transfer.field-1 c.in-Transfer.to c.hold_by-in-Transfer.ensures.held)

pub returns-in-Release-clause-note : goal.returns-in-Release-clause-note
returns-in-Release-clause-note c = rw c.in-Release.is c.give_back.ensures.note

pub returns-in-Release-clause-shelves : goal.returns-in-Release-clause-shelves
returns-in-Release-clause-shelves c = rw c.in-Release.is c.give_back.ensures.shelves

pub returns-in-Transfer-clause-note : goal.returns-in-Transfer-clause-note
returns-in-Transfer-clause-note c = rw c.in-Transfer.is c.hold_by-in-Transfer.ensures.note

pub returns-in-Transfer-clause-shelves : goal.returns-in-Transfer-clause-shelves
returns-in-Transfer-clause-shelves c = rw c.in-Transfer.is c.hold_by-in-Transfer.ensures.shelves

pub returns-in-Start-clause-exact : goal.returns-in-Start-clause-exact
returns-in-Start-clause-exact c =
    rw c.in-Start.is
    (started_newest c.start.result c.args.self.now c.start.new.self c.in-Start.root c.in-Start.process
    c.in-Start.version c.start.ensures.placed)

pub returns-in-Start-clause-keys : goal.returns-in-Start-clause-keys
returns-in-Start-clause-keys c =
    rw c.in-Start.is
    (subst (λ (k : Option Name). OnOk c.start.result (IfNewest c.args.self.now.store c.in-Start.process
    c.in-Start.version (λ place. StartsKey c.in-Start.root k c.args.self.now c.start.new.self)))
    c.as_ref.ensures.value c.start.ensures.keys)
