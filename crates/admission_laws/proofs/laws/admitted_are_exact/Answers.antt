use Rattle.machine_laws.specs.Viewed.{view}
use Rattle.reopening_laws.proofs.Admitted.{command_admitted}
use Rattle.reopening_laws.proofs.Codes.{items_have_codes}
use Rattle.admission_laws.proofs.Commanded.{next_commanded}
use Rattle.admission_laws.proofs.Items.{items_apart}
use Rattle.admission_laws.proofs.laws.admitted_are_exact.Goals as goal

pub returns : goal.returns
returns c = λ a t keyed coded apart kept range. (
  λ admitted. next_commanded a t keyed apart (items_apart (view a) apart) range admitted,
  λ asked. command_admitted a keyed (items_have_codes (view a) coded) kept asked.0 t asked.1,
)
