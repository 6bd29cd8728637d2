use Rattle.std.proofs.Common.{◌≡◌, ◌-◌}
use Rattle.flow_txn.specs.Reading.{many, setting}
use Rattle.flow_txn.proofs.Loop.{with_front}
use Rattle.flow_txn.proofs.fields.many_settings.Given as goal

abbrev pub invariant-loop : goal.invariant-loop
invariant-loop l = with_front l.settings (many setting (l.count - l.counter) l.rest) ≡ many setting l.count l.bytes
