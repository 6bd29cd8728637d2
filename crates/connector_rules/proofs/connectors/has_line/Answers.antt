use Rattle.std.proofs.Common.{sym}
use Rattle.connector_rules.proofs.Alongside.{along_none, along_if_told}
use Rattle.connector_rules.proofs.connectors.has_line.Goals as goal

pub returns-in-Some : goal.returns-in-Some
returns-in-Some c = along_if_told c.args.scope.now.elements.now c.args.line.now c.args.walks.now c.in-Some.from c.in-Some.to c.lead.result c.requires (sym c.in-Some.ensures) c.lead.ensures

pub returns-in-None : goal.returns-in-None
returns-in-None c = along_none c.args.scope.now.elements.now c.args.line.now (sym c.in-None.ensures)
