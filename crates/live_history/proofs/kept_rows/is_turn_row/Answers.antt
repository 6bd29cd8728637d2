use Rattle.std.proofs.Common.{◌≡◌, subst, sym, arith}
use Rattle.live_history.specs.Kept.{row_over, IsKept}
use Rattle.live_history.specs.Rows.{has_turn}
use Rattle.live_history.specs.declared.kept_rows.Row.{Row}
use Rattle.live_history.proofs.Records.{turn_shown}
use Rattle.live_history.proofs.kept_rows.is_turn_row.Goals as goal

pub returns-in-Record : goal.returns-in-Record
returns-in-Record c =
    let kept = subst (λ (r : Row). IsKept c.args.records.now r) c.in-Record.is c.requires in
    subst (λ (r : Row). c.is_turn.result ≡ has_turn (row_over c.args.records.now r)) (sym c.in-Record.is)
    (turn_shown c.args.records.now c.in-Record.start c.in-Record.size c.record_at.result.now c.is_turn.result (λ i. omega (arith, c.type_inv.records i)) kept
    c.record_at.ensures c.is_turn.ensures)
