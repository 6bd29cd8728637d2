use Rattle.std.proofs.Common.{[], arith}
use Rattle.flow_model.proofs.Rows.{as_many}
use Rattle.flow_model.proofs.leaf_rows.LeafRows.len.Goals as goal

pub returns : goal.returns
returns c = rw (← c.self.view_is) (let n = as_many [] c.self.inside.rows.items in let e = c.len.ensures in omega arith)
