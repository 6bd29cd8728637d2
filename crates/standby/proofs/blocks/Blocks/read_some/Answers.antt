use Rattle.std.proofs.Common.{ap, arith}
use Rattle.standby.specs.Readers.{Reader, ahead}
use Rattle.standby.proofs.Ahead.{some_read}
use Rattle.standby.proofs.blocks.Blocks.read_some.Goals as goal

pub returns-clause-reads : goal.returns-clause-reads
returns-clause-reads g c =
    let more = c.if-not-branch.false in
    let looks = rw more at c.in_ok-has_more.ensures.looks in
    let mid = c.has_more.new.self in
    let e = c.in_ok-hand_out.ensures in
    rw e.after (rw c.in_ok-has_more.ensures.place at (some_read c.args.most mid.place c.in_ok-hand_out.field-0 mid.held (ahead c.args.self.now (g.S.Source.left c.args.src.now)) (g.S.Source.left c.has_more.new.src) c.args.out.now.items c.hand_out.new.out.items c.requires (c.in_ok-has_more.ensures.held more) (omega (arith, c.if-self-ge-MOST_BYTES.false, ap (λ (r : Reader). r.place) c.self.view_is)) e.count looks.0 e.given))
