use Rattle.std.proofs.Common.{refl}
use Rattle.graph_check.proofs.Groups.{new_grouped}
use Rattle.graph_check.proofs.strong.Grouping.new.Goals as goal

pub returns : goal.returns
returns c = rw (c.in_ok-new_marks.ensures, c.new.ensures.items, c.new-2.ensures.items, c.new-3.ensures.items) (new_grouped c.args.nodes c.args.edges.now _ c.in_ok-sources.ensures, refl)
