use Rattle.std.proofs.Transfers.{starts_with_of_append, starts_with_trans}
use Rattle.flow_text.proofs.quoted.put_doubled.Goals as goal

pub returns-in_err-put_byte-clause-kept : goal.returns-in_err-put_byte-clause-kept
returns-in_err-put_byte-clause-kept c =
    starts_with_trans c.put_byte.new.out.items c.loop-byte.out.items c.args.out.now.items c.in_err-put_byte.ensures.kept
    (starts_with_of_append _ _ _ c.loop-byte.invariant)
