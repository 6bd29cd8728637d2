use Rattle.library_laws.proofs.SameScopes.{scope_kept}
use Rattle.library_laws.proofs.scopes.library_keeps_ends.Goals as goal

pub returns : goal.returns
returns c = λ ts ts' levels depth k g input agrees served. scope_kept ts ts' levels depth k g input agrees served
