use Rattle.std.proofs.Common.{◌∙◌, ap}
use Rattle.std.specs.List.{count_by}
use Rattle.live_history.specs.Transactions.{is_turn}
use Rattle.live_history.proofs.Rows.{turns_present}
use Rattle.live_history.proofs.history.History.turns.Goals as goal

pub returns : goal.returns
returns c = c.turns.ensures ∙ turns_present c.self.inside.rows ∙ ap (λ l. count_by (λ n. is_turn n.transaction) l.items) c.self.view_is
