use Rattle.standby.proofs.Waiting.{waits_none, payload_taken, payload_untaken}
use Rattle.standby.proofs.following.Standby.take_payload.Goals as goal

pub returns-in-Ok-2-clause-waits : goal.returns-in-Ok-2-clause-waits
returns-in-Ok-2-clause-waits g c = (c.args.self.now.core, waits_none c.args.self.now.core c.args.batch.now)

pub returns-in-Err-BadRecord-clause-waits : goal.returns-in-Err-BadRecord-clause-waits
returns-in-Err-BadRecord-clause-waits g c = (c.args.self.now.core, waits_none c.args.self.now.core c.args.batch.now)

pub returns-in-Err-NoMemory-clause-waits : goal.returns-in-Err-NoMemory-clause-waits
returns-in-Err-NoMemory-clause-waits g c = (c.args.self.now.core, waits_none c.args.self.now.core c.args.batch.now)

pub returns-in-Ok-clause-takes : goal.returns-in-Ok-clause-takes
returns-in-Ok-clause-takes g c right =
    let read = c.in-Ok.ensures.read in
    payload_taken c.take.result c.in-Ok.numbered.number c.args.number c.in-Ok.numbered.transaction c.args.payload.now
    c.args.self.now.core c.args.self.now.taken c.take.new.self.core c.take.new.self.taken c.if-decode-number.true
    (record { range = read.1; spelled = read.0 }) (c.take.ensures.takes right)

pub returns-in-Ok-clause-stops : goal.returns-in-Ok-clause-stops
returns-in-Ok-clause-stops g c right =
    let read = c.in-Ok.ensures.read in
    payload_untaken c.take.result c.args.place c.in-Ok.numbered.number c.args.number c.in-Ok.numbered.transaction c.args.payload.now
    c.args.self.now.core c.if-decode-number.true (record { range = read.1; spelled = read.0 }) (c.take.ensures.stops right)
