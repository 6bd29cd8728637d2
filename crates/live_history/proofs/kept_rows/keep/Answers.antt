use Rattle.std.proofs.Common.{◌∙◌, ap}
use Rattle.live_history.specs.Kept.{read_from}
use Rattle.live_history.proofs.Records.{numbered_of, read_again, there_again, kept_some}
use Rattle.live_history.proofs.kept_rows.keep.Goals as goal

pub returns-then-not-fits-clause-kept : goal.returns-then-not-fits-clause-kept
returns-then-not-fits-clause-kept c = c.whole_row.ensures c.args.records.now.items

pub add_record-requires : goal.add_record-requires
add_record-requires c =
    there_again c.deref.result.now (numbered_of c.args.number c.args.transaction.now) (c.fits.ensures.0 c.if-not-fits.false) (c.deref.ensures.value ∙ c.in_ok-encode_into.ensures)

pub returns-in-Some-clause-kept : goal.returns-in-Some-clause-kept
returns-in-Some-clause-kept c =
    kept_some c.add_record.new.records.items c.in_ok-row.field-0 c.in-Some.row c.deref.result.now (numbered_of c.args.number c.args.transaction.now) c.in-Some.is c.in_ok-row.ensures.kept
    (ap read_from (c.deref.ensures.value ∙ c.in_ok-encode_into.ensures) ∙ read_again (numbered_of c.args.number c.args.transaction.now) (c.fits.ensures.0 c.if-not-fits.false))

pub returns-in-None-clause-kept : goal.returns-in-None-clause-kept
returns-in-None-clause-kept c = c.whole_row-in-None.ensures c.add_record.new.records.items
