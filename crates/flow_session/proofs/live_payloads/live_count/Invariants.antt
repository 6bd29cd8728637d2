use Rattle.std.proofs.Common.{length}
use Rattle.std.specs.List.{All}
use Rattle.txn_log.specs.Records.{IsPayload}
use Rattle.flow_session.specs.Histories.{payloads}
use Rattle.flow_session.proofs.live_payloads.live_count.Given as goal

-- where those that are left are payloads, all are
abbrev pub invariant-loop-payload : goal.invariant-loop-payload
invariant-loop-payload l = All IsPayload (payloads l.walk) → All IsPayload (payloads l.history.items)

abbrev pub decreases-loop-payload : goal.decreases-loop-payload
decreases-loop-payload l = length l.walk
