use Rattle.item_laws.proofs.Sources.{run_settled}
use Rattle.item_laws.proofs.performers.open_items_keep_performers.Goals as goal

pub returns : goal.returns
returns c = λ r q h s s' item e e' b well fronts shows keeps was is opens before.
    (keeps item e e' was is).performers b (run_settled r q h s item e b before.0 well fronts shows was opens before.1)
