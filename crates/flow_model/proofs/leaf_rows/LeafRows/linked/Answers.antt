use Rattle.flow_model.proofs.Rows.{no_row, a_row}
use Rattle.flow_model.proofs.leaf_rows.LeafRows.linked.Goals as goal

pub returns-in-None : goal.returns-in-None
returns-in-None c = rw (← c.self.view_is) (no_row c.self.inside.rows.items c.args.link c.if-link-eq0.false (rw (c.in-None.is, c.deref.ensures.value) at c.row_at.ensures))

pub returns-in-Some : goal.returns-in-Some
returns-in-Some c = rw (← c.self.view_is) (a_row c.self.inside.rows.items c.args.link c.in-Some.row.now c.if-link-eq0.false (rw (c.in-Some.is, c.deref.ensures.value) at c.row_at.ensures))
