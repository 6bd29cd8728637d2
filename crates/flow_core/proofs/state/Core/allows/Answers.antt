use Rattle.std.proofs.Common.{[], ◌∷◌}
use Rattle.flow_core.specs.Refusals.{first_of, root_test, queued_test, is_active, is_suspended, is_going, is_over}
use Rattle.flow_core.proofs.state.Core.allows.Goals as goal

pub returns-in-Claim-clause-due : goal.returns-in-Claim-clause-due
returns-in-Claim-clause-due c = let due = rw c.in-Claim.is at c.allows_item.ensures.due in rw c.in-Claim.is due

pub returns-in-Release-clause-due : goal.returns-in-Release-clause-due
returns-in-Release-clause-due c = let due = rw c.in-Release.is at c.allows_item-in-Release.ensures.due in rw c.in-Release.is due

pub returns-in-Transfer-clause-due : goal.returns-in-Transfer-clause-due
returns-in-Transfer-clause-due c = let due = rw c.in-Transfer.is at c.allows_item-in-Transfer.ensures.due in rw c.in-Transfer.is due

pub returns-in-Take-clause-due : goal.returns-in-Take-clause-due
returns-in-Take-clause-due c = let due = rw c.in-Take.is at c.allows_item-in-Take.ensures.due in rw c.in-Take.is due

pub returns-in-Done-clause-due : goal.returns-in-Done-clause-due
returns-in-Done-clause-due c = let due = rw c.in-Done.is at c.allows_item-in-Done.ensures.due in rw c.in-Done.is due

pub returns-in-Force-clause-due : goal.returns-in-Force-clause-due
returns-in-Force-clause-due c = let due = rw c.in-Force.is at c.allows_item-in-Force.ensures.due in rw c.in-Force.is due

pub returns-in-Restart-clause-due : goal.returns-in-Restart-clause-due
returns-in-Restart-clause-due c = let due = rw c.in-Restart.is at c.allows_item-in-Restart.ensures.due in rw c.in-Restart.is due

pub returns-in-Suspend-clause-due : goal.returns-in-Suspend-clause-due
returns-in-Suspend-clause-due c =
    let at = c.args.self.now in
    let root = c.in-Suspend.root in
    rw c.in-Suspend.is (c.passes.ensures.told (root_test at is_active root) c.may_suspend.ensures)

pub returns-in-Resume-clause-due : goal.returns-in-Resume-clause-due
returns-in-Resume-clause-due c =
    let at = c.args.self.now in
    let root = c.in-Resume.root in
    rw c.in-Resume.is (c.passes-in-Resume.ensures.told (root_test at is_suspended root) c.may_resume.ensures)

pub returns-in-Terminate-clause-due : goal.returns-in-Terminate-clause-due
returns-in-Terminate-clause-due c =
    let at = c.args.self.now in
    let root = c.in-Terminate.root in
    rw c.in-Terminate.is (c.passes-in-Terminate.ensures.told (root_test at is_going root) c.may_terminate.ensures)

pub returns-in-Delete-clause-due : goal.returns-in-Delete-clause-due
returns-in-Delete-clause-due c =
    let at = c.args.self.now in
    let root = c.in-Delete.root in
    rw c.in-Delete.is (c.passes-in-Delete.ensures.told (first_of (root_test at is_over root ∷ queued_test at root ∷ [])) c.may_delete.ensures)
