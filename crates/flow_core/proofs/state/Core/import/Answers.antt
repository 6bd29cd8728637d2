use Rattle.std.proofs.Common.{ℕ, List, Err, subst, sym}
use Rattle.template_check.specs.Judged.{IsJudged, IsFaultless}
use Rattle.template_check.specs.declared.faults.ImportFault.{ImportFault}
use Rattle.template_store.specs.Store.{AddsText}
use Rattle.text_laws.proofs.Judged.{refused_faultless}
use Rattle.flow_core.proofs.state.Core.import.Goals as goal

-- a text that breaks no rule isn't refused by one
pub unreachable-requires : goal.unreachable-requires
unreachable-requires c =
    let library = c.args.self.now.store in
    let text = c.as_slice.result.now in
    let fault = c.in-Err-Rule.field-0-0 in
    let judged = subst (λ (f : ImportFault). IsJudged {T = ℕ} library text (Err f)) c.in-Err-Rule.field-0-is
    c.in-Err-Rule.ensures.judged in
    refused_faultless library text fault.rule fault.place judged.0
    (subst (λ (x : List ℕ). IsFaultless library x) (sym c.as_slice.ensures) c.requires)

pub returns-in-Ok-clause-store : goal.returns-in-Ok-clause-store
returns-in-Ok-clause-store c =
    subst (λ text. AddsText text c.args.self.now.store c.import.new.self) c.as_slice.ensures
    c.in-Ok.ensures.of_text
