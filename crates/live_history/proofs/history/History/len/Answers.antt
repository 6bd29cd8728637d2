use Rattle.std.proofs.Common.{◌∙◌, ap, length}
use Rattle.live_history.proofs.Rows.{length_present}
use Rattle.live_history.proofs.history.History.len.Goals as goal

pub returns : goal.returns
returns c = c.count.ensures ∙ length_present c.self.inside.rows ∙ ap (λ l. length l.items) c.self.view_is
