use Rattle.std.proofs.Common.{[]}
use Rattle.flow_model.proofs.Rows.{one_more}
use Rattle.flow_model.proofs.leaf_rows.LeafRows.push.Goals as goal

pub returns : goal.returns
returns c = rw (c.in_ok-push.ensures.items, ← c.self.view_is) (one_more [] c.self.inside.rows.items c.args.row)
