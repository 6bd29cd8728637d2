use Rattle.std.proofs.Common.{sym, ◌∙◌}
use Rattle.connector_rules.proofs.Testing.{tested_none, untested_one}
use Rattle.connector_rules.proofs.otherwises.untested.Goals as goal

pub returns-then-contains : goal.returns-then-contains
returns-then-contains c = tested_none c.args.scope.now.elements.now c.args.tested.now c.requires c.args.control.now c.in-Some.source (sym c.in-Some.ensures) (sym c.contains.ensures ∙ c.if-contains.true)

pub returns-else-contains : goal.returns-else-contains
returns-else-contains c = untested_one c.args.scope.now.elements.now c.args.tested.now c.requires c.args.control.now c.in-Some.source (sym c.in-Some.ensures) (sym c.contains.ensures ∙ c.if-contains.false)
