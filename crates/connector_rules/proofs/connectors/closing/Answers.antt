use Rattle.std.proofs.Common.{sym, ◌∙◌, arith}
use Rattle.connector_rules.proofs.Closing.{closing_one, closing_none}
use Rattle.text_graphs.proofs.Judging.{pair_below}
use Rattle.connector_rules.proofs.connectors.closing.Goals as goal

pub is_together-requires-clause-from : goal.is_together-requires-clause-from
is_together-requires-clause-from c =
    let below = pair_below c.args.scope.now.elements.now c.args.control.now.from.name c.args.control.now.to.name c.in-Some.from c.in-Some.to (sym c.in-Some.ensures) in
    omega (arith, below.0, c.requires.groups.long)

pub is_together-requires-clause-to : goal.is_together-requires-clause-to
is_together-requires-clause-to c =
    let below = pair_below c.args.scope.now.elements.now c.args.control.now.from.name c.args.control.now.to.name c.in-Some.from c.in-Some.to (sym c.in-Some.ensures) in
    omega (arith, below.1, c.requires.groups.long)

pub returns-then-is_together : goal.returns-then-is_together
returns-then-is_together c =
    closing_one c.args.scope.now.elements.now c.args.control.now c.in-Some.from c.in-Some.to (sym c.in-Some.ensures) c.args.groups.now c.requires.groups c.requires.listed (sym c.is_together.ensures ∙ c.if-is_together.true)

pub returns-else-is_together : goal.returns-else-is_together
returns-else-is_together c =
    closing_none c.args.scope.now.elements.now c.args.control.now c.in-Some.from c.in-Some.to (sym c.in-Some.ensures) c.args.groups.now c.requires.groups c.requires.listed (sym c.is_together.ensures ∙ c.if-is_together.false)
