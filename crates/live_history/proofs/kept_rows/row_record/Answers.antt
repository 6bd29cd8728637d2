use Rattle.std.proofs.Common.{◌≡◌, Some, option_map, subst, sym, ◌∙◌, arith}
use Rattle.live_history.specs.Kept.{record_of, row_over, IsKept}
use Rattle.live_history.specs.declared.kept_rows.Row.{Row}
use Rattle.live_history.proofs.Records.{record_shown}
use Rattle.live_history.proofs.kept_rows.row_record.Goals as goal

pub returns-in_ok-from_slice-in-Record : goal.returns-in_ok-from_slice-in-Record
returns-in_ok-from_slice-in-Record c =
    let kept = subst (λ (r : Row). IsKept c.args.records.now r) c.in-Record.is c.requires in
    subst (λ (r : Row). Some c.in_ok-from_slice-in-Record.field-0.items ≡ option_map record_of (row_over c.args.records.now r)) (sym c.in-Record.is)
    (record_shown c.args.records.now c.in-Record.start c.in-Record.size c.in_ok-from_slice-in-Record.field-0.items (λ i. omega (arith, c.type_inv.records i)) kept
    (c.in_ok-from_slice-in-Record.ensures.items ∙ c.record_at-bytes.ensures))
