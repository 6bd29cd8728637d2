use Rattle.std.proofs.Common.{◌≡◌, drop}
use Rattle.txn_log.proofs.slot_records.RecordsLeft.skip.Given as goal

abbrev pub invariant-loop : goal.invariant-loop
invariant-loop l = l.self.left ≡ drop l.counter l.initial.self.left
