use Rattle.std.proofs.Common.{rules}
use Rattle.graph_check.proofs.RowSteps.{row_popped}
use Rattle.graph_check.proofs.strong.Grouping.skip.Goals as goal

pub returns : goal.returns
returns c = let v = c.self.view_is in let lt = rw (← v) at c.requires in rw (← v) (rw (row_popped c.self.inside.sources.items c.args.node c.index_mut.result.now c.drop_last.new.row lt c.index_mut.ensures.value c.drop_last.ensures) (search rules))
