use Rattle.flow_session.proofs.opening.reopen.Goals as goal

pub returns-clause-right : goal.returns-clause-right
returns-clause-right g c = rw c.over.ensures.core c.in_ok-core.ensures.right

pub returns-clause-state : goal.returns-clause-state
returns-clause-state g c = rw c.over.ensures.core c.in_ok-core.ensures.state

pub returns-clause-reached : goal.returns-clause-reached
returns-clause-reached g c = rw c.over.ensures.core c.in_ok-core.ensures.reached
