use Rattle.meaning_laws.proofs.Texts.{process_meant}
use Rattle.meaning_laws.proofs.laws.faultless_graphs_mean.Goals as goal

pub returns : goal.returns
returns c = process_meant
