use Rattle.worklist_laws.proofs.ExactLines.{worklist_exact}
use Rattle.worklist_laws.proofs.exact.worklists_are_exact.Goals as goal

pub returns : goal.returns
returns c = λ state person lines shelved is. worklist_exact state shelved person lines is
