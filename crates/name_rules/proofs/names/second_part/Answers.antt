use Rattle.name_rules.proofs.names.second_part.Goals as goal

pub returns-in-Structure : goal.returns-in-Structure
returns-in-Structure c = rw c.in-Structure.is c.second_member.ensures
