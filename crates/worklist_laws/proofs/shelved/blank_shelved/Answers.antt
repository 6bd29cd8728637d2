use Rattle.worklist_laws.proofs.Transactions.{blank_shelved}
use Rattle.worklist_laws.proofs.shelved.blank_shelved.Goals as goal

pub returns : goal.returns
returns c = λ state blank. blank_shelved state blank
