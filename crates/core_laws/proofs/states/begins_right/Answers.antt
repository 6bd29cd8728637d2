use Rattle.core_laws.proofs.Making.{blank_right}
use Rattle.core_laws.proofs.states.begins_right.Goals as goal

pub returns : goal.returns
returns c = λ c blank kept queued. blank_right c blank kept queued
