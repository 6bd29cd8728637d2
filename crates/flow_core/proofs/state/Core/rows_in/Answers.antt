use Rattle.std.proofs.Common.{IfOk, subst}
use Rattle.flow_model.specs.declared.graphs.Library.{Library}
use Rattle.flow_core.specs.Answers.{AreRowsOf}
use Rattle.flow_core.proofs.state.Core.rows_in.Goals as goal

pub returns : goal.returns
returns c = subst (λ (l : Library). IfOk c.rows.result (AreRowsOf l c.args.instance.now)) c.library.ensures c.rows.ensures
