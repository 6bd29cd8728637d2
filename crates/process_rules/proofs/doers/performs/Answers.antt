use Rattle.process_rules.specs.Doers.{Leads, IsManual}
use Rattle.process_rules.proofs.Deciding.{decides_second, decides_neither}
use Rattle.process_rules.proofs.doers.performs.Goals as goal

pub returns-then-leads : goal.returns-then-leads
returns-then-leads c =
    let elements = c.args.scope.now.elements.now in
    let name = c.args.name.now.name in
    decides_second (Leads elements name c.args.to) (IsManual elements name) c.leads.result c.names_manual.result c.if-leads.true c.leads.ensures c.names_manual.ensures

pub returns-else-leads : goal.returns-else-leads
returns-else-leads c =
    let elements = c.args.scope.now.elements.now in
    let name = c.args.name.now.name in
    decides_neither (Leads elements name c.args.to) (IsManual elements name) c.leads.result c.if-leads.false c.leads.ensures
