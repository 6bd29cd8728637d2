use Rattle.library_laws.proofs.SameRuns.{run_kept}
use Rattle.library_laws.proofs.roots.library_keeps_runs.Goals as goal

pub returns : goal.returns
returns c = λ ts' r q h agrees served legal. run_kept ts' r q h agrees served legal
