use Rattle.std.proofs.Common.{sym, ◌∙◌}
use Rattle.std.proofs.lemmas.Slice.Eq.{bytes_eq-Decides}
use Rattle.flow_core.proofs.state.Core.is_version.Goals as goal

pub returns-then-template-version-clause-version : goal.returns-then-template-version-clause-version
returns-then-template-version-clause-version c = λ same. record {
  template = c.in-Some.template.now;
  there = sym c.in-Some.ensures;
  name = sym c.as_slice.ensures ∙ (bytes_eq-Decides c.as_slice.result.now c.as_slice-then-template-version.result.now).0 (sym c.eq.ensures ∙ same) ∙ c.as_slice-then-template-version.ensures;
  number = c.if-template-version.true;
}
