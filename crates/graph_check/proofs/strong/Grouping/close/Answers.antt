use Rattle.std.proofs.Common.{sym, ◌∙◌}
use Rattle.graph_check.proofs.Leading.{same_some, other_some}
use Rattle.graph_check.proofs.Groups.{closed_settled, closed_left}
use Rattle.graph_check.proofs.strong.Grouping.close.Goals as goal

pub returns-then-eq : goal.returns-then-eq
returns-then-eq c = closed_settled c.args.nodes c.args.edges.now c.args.self.now c.requires.grouped c.args.node c.args.place c.requires.top c.requires.at c.requires.closed
    (sym c.top_root.ensures ∙ same_some c.top_root.result c.args.place (sym c.if-eq.ensures)) c.settle.new.self c.settle.ensures

pub returns-else-eq : goal.returns-else-eq
returns-else-eq c = closed_left c.args.nodes c.args.edges.now c.args.self.now c.requires.grouped c.args.node c.args.place c.requires.top c.requires.at c.requires.closed
    (λ e. other_some c.top_root.result c.args.place (sym c.if-eq.ensures) (c.top_root.ensures ∙ e)) c.leave.new.self c.leave.ensures
