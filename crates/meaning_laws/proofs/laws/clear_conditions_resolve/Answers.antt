use Rattle.meaning_laws.proofs.Conditions.{clear_resolved}
use Rattle.meaning_laws.proofs.laws.clear_conditions_resolve.Goals as goal

pub returns : goal.returns
returns c = clear_resolved
