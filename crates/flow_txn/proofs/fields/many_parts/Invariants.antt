use Rattle.std.proofs.Common.{◌≡◌, ◌-◌}
use Rattle.flow_txn.specs.Reading.{many, part}
use Rattle.flow_txn.proofs.Loop.{with_front}
use Rattle.flow_txn.proofs.fields.many_parts.Given as goal

abbrev pub invariant-loop : goal.invariant-loop
invariant-loop l = with_front l.parts (many part (l.count - l.counter) l.rest) ≡ many part l.count l.bytes
