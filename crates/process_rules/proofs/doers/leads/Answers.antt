use Rattle.process_rules.proofs.Performing.{decides_leads}
use Rattle.process_rules.proofs.doers.leads.Goals as goal

pub returns-in-Some : goal.returns-in-Some
returns-in-Some c =
    let elements = c.args.scope.now.elements.now in
    decides_leads elements c.args.name.now.name c.in-Some.number c.args.to c.lead.result c.in-Some.ensures c.requires.within (c.lead.ensures elements c.requires.walks)
