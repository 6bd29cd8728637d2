use Rattle.library_laws.proofs.SameForm.{form_kept}
use Rattle.library_laws.proofs.scopes.library_keeps_form.Goals as goal

pub returns : goal.returns
returns c = λ ts ts' depth g agrees served. form_kept ts ts' depth g agrees served
