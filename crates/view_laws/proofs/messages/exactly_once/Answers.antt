use Rattle.view_laws.proofs.WholeRuns.{note_once}
use Rattle.view_laws.proofs.NothingDue.{nothing}
use Rattle.view_laws.proofs.messages.exactly_once.Goals as goal

pub returns : goal.returns
returns c = λ r q h m well fronts. note_once r q well h fronts (nothing r q) m
