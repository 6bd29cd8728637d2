use Rattle.std.proofs.Common.{sym, subst}
use Rattle.machine.specs.Answers.{IsAnswer}
use Rattle.machine.specs.States.{State}
use Rattle.compaction_laws.proofs.Compact.{live_one}
use Rattle.compaction_laws.proofs.laws.answers_stay.Goals as goal

pub returns : goal.returns
returns c = λ s s' query reply compact leads is.
    subst (λ (x : State). IsAnswer x query reply) (sym (live_one s s' compact leads)) is
