use Rattle.std.proofs.Common.{◌∙◌}
use Rattle.process_rules.proofs.Knowing.{last_more, counted_more, listed_more}
use Rattle.process_rules.proofs.people.Known.add_process.Goals as goal

pub returns-clause-knowing : goal.returns-clause-knowing
returns-clause-knowing c = λ processes knowing. record {
  numbered = last_more processes c.args.process.now c.as_slice.result.now c.in_ok-number.number c.args.self.now.numbers c.insert.new.self knowing.numbered c.as_slice.ensures (c.in_ok-number.ensures ∙ c.len.ensures ∙ knowing.counted) c.in_ok-insert.ensures.updates;
  counted = counted_more _ _ processes c.args.process.now c.in_ok-push.ensures.len knowing.counted;
  listed = listed_more c.args.self.now.processes.items c.push.new.self.items c.args.process processes c.in_ok-push.ensures.items knowing.listed;
}
