use Rattle.std.proofs.Common.{sym, ◌∙◌}
use Rattle.flow_core.proofs.OpenItems.{opens}
use Rattle.flow_core.proofs.state.Core.may_force.Goals as goal

pub returns-in-Ready-clause-opened : goal.returns-in-Ready-clause-opened
returns-in-Ready-clause-opened c = λ item known. opens c.args.self.now item c.args.known.now known c.in_ok-needs_active_or_suspended.ensures.running (λ ended.
    let wrong = sym c.in-Ready.is ∙ (c.phase.ensures ∙ ended) in let n : ⊥ = cc in absurd n)

pub returns-in-Running-clause-opened : goal.returns-in-Running-clause-opened
returns-in-Running-clause-opened c = λ item known. opens c.args.self.now item c.args.known.now known c.in_ok-needs_active_or_suspended.ensures.running (λ ended.
    let wrong = sym c.in-Running.is ∙ (c.phase.ensures ∙ ended) in let n : ⊥ = cc in absurd n)
