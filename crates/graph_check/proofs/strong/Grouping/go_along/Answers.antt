use Rattle.std.proofs.Common.{arith, sym}
use Rattle.graph_check.proofs.Groups.{source_inside, along_new, along_held, along_settled}
use Rattle.graph_check.proofs.strong.Grouping.go_along.Goals as goal

pub mark-requires : goal.mark-requires
mark-requires c = omega (arith, c.requires.grouped.long, source_inside c.args.nodes c.args.edges.now c.args.self.now c.requires.grouped c.args.node c.requires.at.0 c.requires.at.1 c.requires.at.2 c.requires.nodes c.args.source c.requires.next)

pub enter-requires : goal.enter-requires
enter-requires c = omega (arith, c.requires.grouped.long, source_inside c.args.nodes c.args.edges.now c.args.self.now c.requires.grouped c.args.node c.requires.at.0 c.requires.at.1 c.requires.at.2 c.requires.nodes c.args.source c.requires.next)

pub returns-in_ok-enter-in-New : goal.returns-in_ok-enter-in-New
returns-in_ok-enter-in-New c = along_new c.args.nodes c.args.edges.now c.args.self.now c.requires.grouped c.args.node c.requires.at.0 c.requires.at.1 c.requires.at.2 c.requires.nodes c.args.source c.requires.next
    (sym c.in-New.ensures) c.enter.new.self c.in_ok-enter-in-New.ensures

pub returns-in-Held : goal.returns-in-Held
returns-in-Held c = along_held c.args.nodes c.args.edges.now c.args.self.now c.requires.grouped c.args.node c.requires.at.0 c.requires.at.1 c.requires.at.2 c.requires.nodes c.args.source c.requires.next
    c.in-Held.place (sym c.in-Held.ensures) c.merge.new.self c.skip.new.self c.merge.ensures c.skip.ensures

pub returns-in-Settled : goal.returns-in-Settled
returns-in-Settled c = along_settled c.args.nodes c.args.edges.now c.args.self.now c.requires.grouped c.args.node c.requires.at.0 c.requires.at.1 c.requires.at.2 c.requires.nodes c.args.source c.requires.next
    c.in-Settled.field-0 (sym c.in-Settled.ensures) c.skip-in-Settled.new.self c.skip-in-Settled.ensures
