use Rattle.std.proofs.Common.{◌≡◌, ◌-◌, ◌≤◌, ℕ, List, length, drop}
use Rattle.txn_log.specs.Stored.{listed}
use Rattle.txn_log.proofs.Records.{led_all}
use Rattle.txn_log.proofs.judging.outline_with.Given as goal

abbrev pub invariant-gates : goal.invariant-gates
invariant-gates l = record {
  payloads : List (List ℕ);
  listed : listed 0 42 (drop 42 l.bytes) ≡ led_all payloads (listed 0 l.at (drop l.at l.bytes));
  counted : l.records ≡ length payloads;
  fewer : l.records ≤ l.at;
}

abbrev pub decreases-gates : goal.decreases-gates
decreases-gates l = length l.bytes - l.at
