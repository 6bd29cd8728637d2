use Rattle.std.proofs.Common.{arith}
use Rattle.std.proofs.lemmas.List.{length-reverse}
use Rattle.graph_check.proofs.Leading.{at_get}
use Rattle.graph_check.proofs.strong.Grouping.node_at.Goals as goal

pub returns : goal.returns
returns c =
    let v = c.self.view_is in let lt = rw (← v) at c.requires in
    rw (← v) (at_get c.self.inside.held.items c.args.place c.index.result.now (omega (arith, lt, length-reverse c.self.inside.held.items)) c.index.ensures)
