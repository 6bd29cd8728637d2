use Rattle.std.proofs.Common.{suc}
use Rattle.library_laws.proofs.SameDue.{due_same}
use Rattle.library_laws.proofs.scopes.library_keeps_due.Goals as goal

pub returns : goal.returns
returns c = λ ts ts' levels depth k g input agrees served. due_same ts ts' agrees depth (suc levels) k g input served
