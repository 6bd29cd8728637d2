use Rattle.std.proofs.Common.{ap, sym, ◌∙◌}
use Rattle.flow_model.specs.declared.instances.Phase.{Phase}
use Rattle.staff_worklists.specs.Rights.{done_answer}
use Rattle.flow_core.proofs.OpenItems.{opens}
use Rattle.flow_core.proofs.state.Core.may_complete.Goals as goal

pub returns-in-Ok-clause-opened : goal.returns-in-Ok-clause-opened
returns-in-Ok-clause-opened c = λ item known. opens c.args.self.now item c.args.known.now known c.in_ok-needs_active.ensures.running (λ ended.
    let passed = sym c.in-Ok.is ∙ c.done_test.ensures
    ∙ ap (λ (phase : Phase). done_answer phase c.hold.result.now c.args.who.now) (c.phase.ensures ∙ ended) in
    let n : ⊥ = cc in absurd n)
