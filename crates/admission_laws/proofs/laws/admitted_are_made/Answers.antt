use Rattle.machine_laws.specs.Viewed.{view}
use Rattle.admission_laws.proofs.Commanded.{admitted_commanded}
use Rattle.admission_laws.proofs.Histories.{made_apart, made_on}
use Rattle.admission_laws.proofs.Items.{items_apart}
use Rattle.admission_laws.proofs.laws.admitted_are_made.Goals as goal

pub returns : goal.returns
returns c = λ s ts a number t s' apart made keyed beyond range admitted step.
    let here = made_apart s ts (view a) made apart in
    let asked = admitted_commanded a number t keyed here (items_apart (view a) here) beyond range admitted in
    made_on s ts (view a) asked.0 t s' made asked.1 step
