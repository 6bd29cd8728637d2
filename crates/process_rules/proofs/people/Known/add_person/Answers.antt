use Rattle.process_rules.proofs.Knowing.{people_more}
use Rattle.process_rules.proofs.people.Known.add_person.Goals as goal

pub returns-clause-people : goal.returns-clause-people
returns-clause-people c = λ people are.
    people_more c.args.self.now.people.keys c.insert_full.new.self.keys c.as_slice.result people c.args.person.now c.as_slice.ensures c.in_ok-insert_full.ensures.keys are
