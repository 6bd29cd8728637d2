use Rattle.run_laws.proofs.Making.{made_stores}
use Rattle.run_laws.proofs.laws.made_stores_are_own.Goals as goal

pub returns : goal.returns
returns g c = made_stores g.D.Disk
