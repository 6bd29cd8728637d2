use Rattle.library_laws.proofs.SameViews.{view_kept}
use Rattle.library_laws.proofs.scopes.library_keeps_view.Goals as goal

pub returns : goal.returns
returns c = λ ts ts' levels depth k g input s agrees served. view_kept ts ts' levels depth k g input s agrees served
