use Rattle.flow_core.proofs.state.Core.transaction.Goals as goal

pub returns-in-Claim-clause-stops : goal.returns-in-Claim-clause-stops
returns-in-Claim-clause-stops c = rw c.in-Claim.is c.judge_claim.ensures.stops

pub returns-in-Transfer-clause-stops : goal.returns-in-Transfer-clause-stops
returns-in-Transfer-clause-stops c = rw c.in-Transfer.is c.judge_transfer.ensures.stops
