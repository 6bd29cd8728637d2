use Rattle.std.proofs.Common.{◌≡◌, ◌∙◌, ◌-◌, ap, subst, List, ℕ}
use Rattle.std.specs.Io.KnownBytes.{Appends}
use Rattle.standby.specs.Streams.{stream_bytes, PutsPart}
use Rattle.standby.specs.Shipped.{last}
use Rattle.standby.proofs.Growing.{put_end_is, breaks_off}
use Rattle.standby.proofs.shipping.ship_opened.Goals as goal

pub returns-in-Ok-clause-ships : goal.returns-in-Ok-clause-ships
returns-in-Ok-clause-ships g c =
    let count = c.in-Some.ensures in
    let e : c.last_of.result.left ≡ last (c.args.number - c.args.from) c.args.opened.now.records =
    c.last_of.ensures ∙ ap (λ (n : ℕ). last n c.args.opened.now.records) count.1 in
    ((c.if-from-opened.false, count.0), count.1, subst (λ (rs : List (List ℕ)). Appends (g.K.Sink.held c.args.out.now) (g.K.Sink.held c.put_stream.new.out) (stream_bytes (record { queues = c.args.opened.now.header.queues; limit = c.args.opened.now.header.limit; from = c.args.from }) rs)) e c.in-Ok.ensures.whole)

pub returns-in-Err-clause-cause : goal.returns-in-Err-clause-cause
returns-in-Err-clause-cause g c = put_end_is c.args.from (g.K.Sink.faults c.args.out.now) (g.K.Sink.faults c.put_stream.new.out) c.in-Err.stop c.in-Err.ensures.cause

pub returns-in-Err-clause-ships : goal.returns-in-Err-clause-ships
returns-in-Err-clause-ships g c =
    let count = c.in-Some.ensures in
    let e : c.last_of.result.left ≡ last (c.args.number - c.args.from) c.args.opened.now.records =
    c.last_of.ensures ∙ ap (λ (n : ℕ). last n c.args.opened.now.records) count.1 in
    breaks_off c.args.opened.now c.args.number c.args.from (g.K.Sink.faults c.args.out.now) (g.K.Sink.faults c.put_stream.new.out) (g.K.Sink.held c.args.out.now) (g.K.Sink.held c.put_stream.new.out) c.in-Err.stop (c.if-from-opened.false, count.0) c.in-Err.ensures.cause
    (subst (λ (rs : List (List ℕ)). PutsPart (g.K.Sink.held c.args.out.now) (g.K.Sink.held c.put_stream.new.out) (stream_bytes (record { queues = c.args.opened.now.header.queues; limit = c.args.opened.now.header.limit; from = c.args.from }) rs)) e c.in-Err.ensures.part)
