use Rattle.std.proofs.Common.{◌++◌, ap, List, ℕ, subst, rules}
use Rattle.standby.specs.Streams.{frame_bytes, frames_bytes, end_bytes, stream_bytes, IsUnderWay}
use Rattle.standby.proofs.Growing.{further, broken, next_frame, ended_so, cut_off_so}
use Rattle.standby.proofs.shipping.put_stream.Goals as goal

pub loop-record-preserved : goal.loop-record-preserved
loop-record-preserved g c =
    let old = g.K.Sink.held c.args.out.now in
    let text = stream_bytes c.args.front c.args.records.left in
    let payload = c.in-Some.record.payload.now in
    let left = frames_bytes c.next.new.self.left in
    let one = next_frame payload c.loop-record.records.left c.next.new.self.left c.in-Some.ensures.1 in
    let under : IsUnderWay old (g.K.Sink.held c.loop-record.out) c.loop-record.piece.items (frame_bytes payload ++ left) text =
    subst (λ (xs : List ℕ). IsUnderWay old (g.K.Sink.held c.loop-record.out) c.loop-record.piece.items xs text) one c.loop-record.invariant.under_way in
    record {
      under_way = further old (g.K.Sink.held c.loop-record.out) (g.K.Sink.held c.put_frame.new.out) c.loop-record.piece.items c.put_frame.new.piece.items (frame_bytes payload) left text under (c.in-Ok.ensures.under_way left);
      counted = search rules;
    }

pub returns-in-Err-clause-part : goal.returns-in-Err-clause-part
returns-in-Err-clause-part g c =
    let old = g.K.Sink.held c.args.out.now in
    let text = stream_bytes c.args.front c.args.records.left in
    let payload = c.in-Some.record.payload.now in
    let left = frames_bytes c.next.new.self.left in
    let one = next_frame payload c.loop-record.records.left c.next.new.self.left c.in-Some.ensures.1 in
    let under : IsUnderWay old (g.K.Sink.held c.loop-record.out) c.loop-record.piece.items (frame_bytes payload ++ left) text =
    subst (λ (xs : List ℕ). IsUnderWay old (g.K.Sink.held c.loop-record.out) c.loop-record.piece.items xs text) one c.loop-record.invariant.under_way in
    broken old (g.K.Sink.held c.loop-record.out) (g.K.Sink.held c.put_frame.new.out) c.loop-record.piece.items (frame_bytes payload) left text under c.in-Err.ensures.part

pub returns-clause-whole : goal.returns-clause-whole
returns-clause-whole g c =
    let old = g.K.Sink.held c.args.out.now in
    let text = stream_bytes c.args.front c.args.records.left in
    let under = subst (λ (xs : List ℕ). IsUnderWay old (g.K.Sink.held c.loop-record.out) c.loop-record.piece.items xs text) (ap frames_bytes c.in_default.ensures.0) c.loop-record.invariant.under_way in
    ended_so c.put_end.result old (g.K.Sink.held c.loop-record.out) (g.K.Sink.held c.put_end.new.out) c.loop-record.piece.items end_bytes text under c.put_end.ensures.whole

pub returns-clause-part : goal.returns-clause-part
returns-clause-part g c =
    let old = g.K.Sink.held c.args.out.now in
    let text = stream_bytes c.args.front c.args.records.left in
    let under = subst (λ (xs : List ℕ). IsUnderWay old (g.K.Sink.held c.loop-record.out) c.loop-record.piece.items xs text) (ap frames_bytes c.in_default.ensures.0) c.loop-record.invariant.under_way in
    cut_off_so c.put_end.result old (g.K.Sink.held c.loop-record.out) (g.K.Sink.held c.put_end.new.out) c.loop-record.piece.items end_bytes text under c.put_end.ensures.part
