use Rattle.std.proofs.Common.{◌≡◌, ◌+◌, ◌≤◌, ℕ, List, drop}
use Rattle.std.specs.Option.{is_some}
use Rattle.live_history.specs.Kept.{AreKept}
use Rattle.live_history.proofs.Records.{shown_count}
use Rattle.live_history.proofs.kept_rows.count_present.Given as goal

abbrev pub invariant-loop-row : goal.invariant-loop-row
invariant-loop-row l = record {
  most : l.count ≤ l.row-index;
  counted : (records : List ℕ) → AreKept records l.rows → l.count + shown_count is_some records (drop l.row-index l.rows) ≡ shown_count is_some records l.rows;
}
