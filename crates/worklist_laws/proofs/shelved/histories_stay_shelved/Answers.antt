use Rattle.worklist_laws.proofs.Transactions.{history_shelved}
use Rattle.worklist_laws.proofs.shelved.histories_stay_shelved.Goals as goal

pub returns : goal.returns
returns c = λ states made runs count right shelved lists n upto. (history_shelved states made runs count right shelved lists n upto).1
