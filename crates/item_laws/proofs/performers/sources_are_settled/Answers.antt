use Rattle.item_laws.proofs.Sources.{run_settled}
use Rattle.item_laws.proofs.performers.sources_are_settled.Goals as goal

pub returns : goal.returns
returns c = λ r q h s item e b well fronts shows there opens before. run_settled r q h s item e b before.0 well fronts shows there opens before.1
