use Rattle.machine_laws.proofs.Keyed.{blank_keyed}
use Rattle.flow_session.proofs.Replaying.{blank_seen}
use Rattle.flow_session.proofs.Rights.{begun_right}
use Rattle.flow_session.proofs.serving.Session.fresh.Goals as goal

pub returns-clause-right : goal.returns-clause-right
returns-clause-right c = λ some_. begun_right c.in_ok-new.field-0 _ c.in_ok-new.ensures.blank c.in_ok-new.ensures.kept c.in_ok-new.ensures.begins some_

pub returns-clause-state : goal.returns-clause-state
returns-clause-state c = blank_seen c.in_ok-new.field-0 _ c.in_ok-new.ensures.blank c.in_ok-new.ensures.begins

pub returns-clause-keyed : goal.returns-clause-keyed
returns-clause-keyed c = blank_keyed c.in_ok-new.field-0 c.in_ok-new.ensures.blank
