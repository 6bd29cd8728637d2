use Rattle.worklist_laws.proofs.Transactions.{stays_shelved}
use Rattle.worklist_laws.proofs.shelved.stays_shelved.Goals as goal

pub returns : goal.returns
returns c = λ was is t runs right shelved makes shelves asks. stays_shelved was is runs right shelved t makes shelves asks
