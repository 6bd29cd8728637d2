use Rattle.std.proofs.Common.{refl}
use Rattle.standby.specs.Frames.{StopsFrame}
use Rattle.standby.specs.Streams.{frame_bytes}
use Rattle.standby.specs.Readers.{Gives, ahead}
use Rattle.standby.proofs.Ended.{stops}
use Rattle.standby.proofs.Parts.{stops_payload, ends_in_payload}
use Rattle.standby.proofs.reading.read_payload.Goals as goal

pub returns-in_err-read-clause-reads : goal.returns-in_err-read-clause-reads
returns-in_err-read-clause-reads g c before place taken behind =
    let mid = ahead c.args.blocks.now (g.S.Source.left c.args.src.now) in
    let after = ahead c.read.new.self (g.S.Source.left c.read.new.src) in
    let stop = c.in_err-read.field-0.0 in
    stops (λ _. Gives place before after (frame_bytes c.read.new.out.items)) (StopsFrame place c.args.number before after) c.from_residual.result stop c.from_residual.ensures.1
    (stops_payload c.args.len place c.args.blocks.now.place c.args.number before mid after c.read.new.out.items stop c.requires behind taken c.in_err-read.ensures.reads)

pub returns-then-not-branch-clause-reads : goal.returns-then-not-branch-clause-reads
returns-then-not-branch-clause-reads g c before place taken behind =
    let mid = ahead c.args.blocks.now (g.S.Source.left c.args.src.now) in
    let after = ahead c.read.new.self (g.S.Source.left c.read.new.src) in
    let ends = ends_in_payload c.args.len place c.args.blocks.now.place before mid after c.read.new.out.items c.requires behind taken (rw c.if-not-branch.true at c.in_ok-read.ensures.reads) in
    (refl, ends.0, ends.1)
