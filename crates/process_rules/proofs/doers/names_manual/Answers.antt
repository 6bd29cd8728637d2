use Rattle.process_rules.proofs.Performing.{decides_manual}
use Rattle.process_rules.proofs.doers.names_manual.Goals as goal

pub returns-in-Some : goal.returns-in-Some
returns-in-Some c = decides_manual c.args.scope.now.elements.now c.args.name.now.name c.in-Some.activity.now c.is_manual.result c.in-Some.ensures c.is_manual.ensures
