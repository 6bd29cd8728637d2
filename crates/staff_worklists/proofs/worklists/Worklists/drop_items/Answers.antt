use Rattle.staff_worklists.proofs.Steps.{one_dropped}
use Rattle.staff_worklists.proofs.worklists.Worklists.drop_items.Goals as goal

pub loop-rank-preserved : goal.loop-rank-preserved
loop-rank-preserved c =
    one_dropped c.args.self.now.shelves c.loop-rank.self.shelves c.drop_item.new.self.shelves c.args.ranks.now c.loop-rank.rank-index c.rank-item.result c.loop-rank-test.true c.rank-item.is c.loop-rank.invariant c.drop_item.ensures
