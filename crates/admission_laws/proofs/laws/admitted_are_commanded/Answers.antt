use Rattle.machine_laws.specs.Viewed.{view}
use Rattle.admission_laws.proofs.Commanded.{admitted_commanded}
use Rattle.admission_laws.proofs.Items.{items_apart}
use Rattle.admission_laws.proofs.laws.admitted_are_commanded.Goals as goal

pub returns : goal.returns
returns c = λ a number t keyed apart beyond range admitted.
    admitted_commanded a number t keyed apart (items_apart (view a) apart) beyond range admitted
