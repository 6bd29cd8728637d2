use Rattle.std.proofs.Common.{◌∙◌, sym, arith}
use Rattle.live_history.proofs.Rows.{next_some, next_none}
use Rattle.live_history.proofs.walk.Walk.next.Goals as goal

pub returns-in-Some-clause-ok : goal.returns-in-Some-clause-ok
returns-in-Some-clause-ok c =
    next_some c.rows.self-inside.rows.now c.rows.self-inside.passed c.in_ok-found.found c.in-Some.numbered c.args.self.now (omega (arith, c.len.ensures)) c.in_ok-found.ensures c.in-Some.is c.rows.invariant

pub rows-preserved : goal.rows-preserved
rows-preserved c =
    next_none c.rows.self-inside.rows.now c.rows.self-inside.passed c.args.self.now (omega (arith, c.len.ensures)) (sym c.in_ok-found.ensures ∙ c.in_default.is) c.rows.invariant
