use Rattle.fdl_print.specs.Elements.{member_line}
use Rattle.fdl_print.proofs.Laying.{one_more}
use Rattle.fdl_print.proofs.printer.Printer.members_of.Goals as goal

pub loop-member-preserved : goal.loop-member-preserved
loop-member-preserved c =
    one_more member_line c.args.members.now c.loop-member.member-index c.member-item.result c.loop-member.self c.member.new.self _
    c.loop-member-test.true c.member-item.is c.loop-member.invariant c.in_ok-member.ensures
