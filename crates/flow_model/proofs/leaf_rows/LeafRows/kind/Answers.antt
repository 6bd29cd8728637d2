use Rattle.std.proofs.Common.{Some, None}
use Rattle.flow_model.proofs.Rows.{kind_found}
use Rattle.flow_model.proofs.leaf_rows.LeafRows.kind.Goals as goal

pub returns-in-None : goal.returns-in-None
returns-in-None c = rw (← c.self.view_is) (kind_found c.self.inside.rows.items c.args.place None (rw (c.in-None.is, c.deref.ensures.value) at c.row_at.ensures))

pub returns-in-Some : goal.returns-in-Some
returns-in-Some c = rw (← c.self.view_is) (kind_found c.self.inside.rows.items c.args.place (Some c.in-Some.row.now) (rw (c.in-Some.is, c.deref.ensures.value) at c.row_at.ensures))
