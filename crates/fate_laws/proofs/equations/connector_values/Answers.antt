use Rattle.fate_laws.proofs.Connectors.{connector_values}
use Rattle.fate_laws.proofs.equations.connector_values.Goals as goal

pub returns : goal.returns
returns c = λ controls e. connector_values controls e
