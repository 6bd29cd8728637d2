use Rattle.core_laws.proofs.Making.{history_right}
use Rattle.core_laws.proofs.states.histories_are_right.Goals as goal

pub returns : goal.returns
returns c = λ states made runs count right makes n upto. history_right states made runs count right makes n upto
