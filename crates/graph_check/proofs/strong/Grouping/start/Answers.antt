use Rattle.std.proofs.Common.{sym}
use Rattle.graph_check.proofs.Groups.{started}
use Rattle.graph_check.proofs.strong.Grouping.start.Goals as goal

pub returns-in_ok-enter-in-New : goal.returns-in_ok-enter-in-New
returns-in_ok-enter-in-New c = started c.args.nodes c.args.edges.now c.args.self.now c.enter.new.self c.args.node c.requires.grouped c.requires.idle c.requires.inside (sym c.in-New.ensures) c.in_ok-enter-in-New.ensures
