use Rattle.range_laws.proofs.Words.{words_fit}
use Rattle.range_laws.proofs.laws.words_make_fitting.Goals as goal

pub returns : goal.returns
returns c = words_fit
