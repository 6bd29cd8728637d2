use Rattle.std.proofs.Common.{Some, Err, refl, ap, subst}
use Rattle.template_check.specs.Judged.{IsJudged}
use Rattle.template_check.specs.declared.faults.ImportFault.{ImportFault}
use Rattle.flow_core.specs.declared.refusals.Refusal.TheVariants as refused
use Rattle.flow_core.proofs.state.Core.allows_import.Goals as goal

pub returns-in-Ok-clause-asked : goal.returns-in-Ok-clause-asked
returns-in-Ok-clause-asked c = λ yes. c.in-Ok.ensures.judged

pub returns-in-Err-Rule-clause-told : goal.returns-in-Err-Rule-clause-told
returns-in-Err-Rule-clause-told c =
    let fault = c.in-Err-Rule.field-0-0 in
    let judged = subst (λ (f : ImportFault). IsJudged {T = Unit {0}} c.args.self.now.store c.args.text.now (Err f)) c.in-Err-Rule.field-0-is c.in-Err-Rule.ensures.judged in
    (Some (refused.Rule fault.rule fault.line), (fault.rule, fault.place, judged.0, ap (refused.Rule fault.rule) judged.1), refl)
