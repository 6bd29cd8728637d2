use Rattle.std.proofs.Common.{◌≡◌, ◌+◌, ◌≤◌, drop}
use Rattle.live_history.specs.Rows.{has_turn}
use Rattle.live_history.proofs.Records.{shown_count}
use Rattle.live_history.proofs.kept_rows.count_turns.Given as goal

abbrev pub invariant-loop-row : goal.invariant-loop-row
invariant-loop-row l = record {
  most : l.count ≤ l.row-index;
  counted : l.count + shown_count has_turn l.records (drop l.row-index l.rows) ≡ shown_count has_turn l.records l.rows;
}
