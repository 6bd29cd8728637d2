use Rattle.std.proofs.Common.{arith}
use Rattle.live_history.proofs.Rows.{next_spelled, next_unspelled}
use Rattle.live_history.proofs.walk.Walk.next_record.Goals as goal

pub returns-in-Some-clause-ok : goal.returns-in-Some-clause-ok
returns-in-Some-clause-ok c =
    next_spelled c.rows.self-inside.rows.now c.rows.self-inside.passed c.in_ok-found.found c.in-Some.bytes c.args.self.now (omega (arith, c.len.ensures)) c.in_ok-found.ensures c.in-Some.is c.rows.invariant

pub rows-preserved : goal.rows-preserved
rows-preserved c =
    next_unspelled c.rows.self-inside.rows.now c.rows.self-inside.passed c.in_ok-found.found c.args.self.now (omega (arith, c.len.ensures)) c.in_ok-found.ensures c.in_default.is c.rows.invariant
