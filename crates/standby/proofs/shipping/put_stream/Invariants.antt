use Rattle.std.proofs.Common.{◌≡◌, length}
use Rattle.standby.specs.Streams.{frames_bytes, stream_bytes, IsUnderWay}
use Rattle.standby.proofs.shipping.put_stream.Given as goal

abbrev pub invariant-loop-record : goal.invariant-loop-record
invariant-loop-record g l = record {
  under_way : IsUnderWay (g.K.Sink.held l.initial.out) (g.K.Sink.held l.out) l.piece.items
      (frames_bytes l.records.left) (stream_bytes l.fn.front l.fn.records.left);
  counted : g.K.Sink.faults l.out ≡ g.K.Sink.faults l.initial.out;
}

abbrev pub decreases-loop-record : goal.decreases-loop-record
decreases-loop-record g l = length l.records.left
