use Rattle.flow_core.proofs.state.Core.allows_on.Goals as goal

pub returns-in-Claim-clause-due : goal.returns-in-Claim-clause-due
returns-in-Claim-clause-due c = rw c.in-Claim.is (c.allows_claim.ensures c.in-Claim.field-0)

pub returns-in-Release-clause-due : goal.returns-in-Release-clause-due
returns-in-Release-clause-due c = rw c.in-Release.is (c.allows_release.ensures c.in-Release.field-0)

pub returns-in-Transfer-clause-due : goal.returns-in-Transfer-clause-due
returns-in-Transfer-clause-due c = rw c.in-Transfer.is (c.allows_transfer.ensures c.in-Transfer.field-0)

pub returns-in-Take-clause-due : goal.returns-in-Take-clause-due
returns-in-Take-clause-due c = rw c.in-Take.is (c.allows_take.ensures c.in-Take.field-0)

pub returns-in-Done-clause-due : goal.returns-in-Done-clause-due
returns-in-Done-clause-due c = let due = rw c.as_slice.ensures at (c.allows_done.ensures.due c.in-Done.field-0) in rw c.in-Done.is due

pub returns-in-Force-clause-due : goal.returns-in-Force-clause-due
returns-in-Force-clause-due c = let due = rw c.as_slice-in-Force.ensures at (c.allows_force.ensures.due c.in-Force.field-0) in rw c.in-Force.is due
