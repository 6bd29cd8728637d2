use Rattle.library_laws.proofs.SameRows.{rows_kept}
use Rattle.library_laws.proofs.scopes.library_keeps_rows.Goals as goal

pub returns : goal.returns
returns c = λ ts ts' levels depth k g input agrees served. rows_kept ts ts' levels depth k g input agrees served
