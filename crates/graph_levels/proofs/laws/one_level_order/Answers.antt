use Rattle.graph_levels.proofs.LevelOrders.{one_level_order}
use Rattle.graph_levels.proofs.laws.one_level_order.Goals as goal

pub returns : goal.returns
returns c = λ nodes edges order other g h. one_level_order nodes edges order other g h
