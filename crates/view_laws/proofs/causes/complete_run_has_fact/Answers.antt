use Rattle.std.proofs.Common.{[], length}
use Rattle.fate_laws.proofs.Items.{fact_below}
use Rattle.fate_laws.proofs.Peopled.{output_given}
use Rattle.view_laws.specs.Runs.{facts, seen}
use Rattle.view_laws.proofs.causes.complete_run_has_fact.Goals as goal

pub returns : goal.returns
returns c = λ r h out well done.
    fact_below (length (facts h)) (facts h) [] (output_given r.templates r.depth (seen h) r.graph r.input out well done)
