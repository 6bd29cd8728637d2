use Rattle.machine_laws.proofs.Judging.{rule_one}
use Rattle.machine_laws.proofs.laws.texts_are_judged_once.Goals as goal

pub returns : goal.returns
returns c = rule_one
