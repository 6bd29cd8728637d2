use Rattle.run_laws.proofs.Adopted.{adopted_made}
use Rattle.run_laws.proofs.laws.adopted_are_made.Goals as goal

pub returns : goal.returns
returns c = adopted_made
