use Rattle.process_rules.proofs.doers.wrong_in_attribute.Goals as goal

pub returns-in-Performer : goal.returns-in-Performer
returns-in-Performer c = rw c.in-Performer.is c.wrong_name.ensures
