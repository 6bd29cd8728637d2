use Rattle.std.proofs.Common.{refl, length, take, drop, ◌-◌}
use Rattle.fdl_print.specs.Elements.{first_role, later_role, roles_pieces}
use Rattle.fdl_print.proofs.Laying.{one_more, at_end, first_and_later}
use Rattle.fdl_print.proofs.printer.Printer.roles.Goals as goal

pub loop-role-preserved : goal.loop-role-preserved
loop-role-preserved c =
    let all = c.args.roles.now in
    one_more later_role (take (length all - 1) (drop 1 all)) c.loop-role.role-index c.role-item.result c.loop-role.self c.later_role.new.self _
    c.loop-role-test.true c.role-item.is c.loop-role.invariant c.in_ok-later_role.ensures

pub returns : goal.returns
returns c =
    let all = c.args.roles.now in
    first_and_later first_role later_role roles_pieces (λ x xs. refl) all c.first-item.result c.args.self.now c.first_role.new.self c.loop-role.self
    c.in-len1-up.len_at_least c.first-item.is c.in_ok-first_role.ensures
    (at_end later_role (take (length all - 1) (drop 1 all)) c.loop-role.role-index c.loop-role.self _ c.loop-role-test.false c.loop-role.invariant)
