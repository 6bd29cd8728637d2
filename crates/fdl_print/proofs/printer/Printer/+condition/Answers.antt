use Rattle.std.proofs.Common.{ap, map, length, take, drop, ◌-◌, ◌++◌}
use Rattle.fdl_print.specs.Conditions.{shown, in_or, in_and, later_or, later_and, or_pieces, and_pieces}
use Rattle.fdl_print.proofs.Laying.{one_more, at_end, first_and_later, shown_first}
use Rattle.fdl_print.proofs.printer.Printer.+condition.Goals as goal

pub members_of_and-loop-member-preserved : goal.members_of_and-loop-member-preserved
members_of_and-loop-member-preserved t c =
    let members = c.args.members.now in
    one_more (λ m. later_and (shown m)) (take (length members - 1) (drop 1 members)) c.loop-member.member-index c.member-item.result c.loop-member.self c.later_and.new.self _
    c.loop-member-test.true c.member-item.is c.loop-member.invariant c.in_ok-later_and.ensures

pub members_of_and-returns : goal.members_of_and-returns
members_of_and-returns t c =
    let members = c.args.members.now in
    first_and_later (λ m. in_and (shown m)) (λ m. later_and (shown m)) (λ ms. and_pieces (map shown ms))
    (λ x xs. ap (λ ps. in_and (shown x) ++ ps) (shown_first later_and shown xs)) members c.first-item.result c.args.self.now c.in_and.new.self c.loop-member.self
    c.in-len1-up.len_at_least c.first-item.is c.in_ok-in_and.ensures
    (at_end (λ m. later_and (shown m)) (take (length members - 1) (drop 1 members)) c.loop-member.member-index c.loop-member.self _ c.loop-member-test.false c.loop-member.invariant)

pub members_of_or-loop-member-preserved : goal.members_of_or-loop-member-preserved
members_of_or-loop-member-preserved t c =
    let members = c.args.members.now in
    one_more (λ m. later_or (shown m)) (take (length members - 1) (drop 1 members)) c.loop-member.member-index c.member-item.result c.loop-member.self c.later_or.new.self _
    c.loop-member-test.true c.member-item.is c.loop-member.invariant c.in_ok-later_or.ensures

pub members_of_or-returns : goal.members_of_or-returns
members_of_or-returns t c =
    let members = c.args.members.now in
    first_and_later (λ m. in_or (shown m)) (λ m. later_or (shown m)) (λ ms. or_pieces (map shown ms))
    (λ x xs. ap (λ ps. in_or (shown x) ++ ps) (shown_first later_or shown xs)) members c.first-item.result c.args.self.now c.in_or.new.self c.loop-member.self
    c.in-len1-up.len_at_least c.first-item.is c.in_ok-in_or.ensures
    (at_end (λ m. later_or (shown m)) (take (length members - 1) (drop 1 members)) c.loop-member.member-index c.loop-member.self _ c.loop-member-test.false c.loop-member.invariant)
