use Rattle.std.proofs.Common.{◌∙◌, ap, Err, arith}
use Rattle.live_history.proofs.Records.{gives_read, never_bad}
use Rattle.live_history.proofs.kept_rows.read_record.Goals as goal

pub unreachable-requires : goal.unreachable-requires
unreachable-requires c =
    never_bad c.args.bytes.now (λ i. omega (arith, c.type_inv.bytes i)) c.requires
    (c.decode.ensures.bad (c.in-Err-BadRecord.is ∙ ap Err c.in-Err-BadRecord.field-0-is))

pub returns-in-Ok : goal.returns-in-Ok
returns-in-Ok c = gives_read c.args.bytes.now c.in-Ok.numbered c.in-Ok.ensures.read
