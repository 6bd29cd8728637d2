use Rattle.std.proofs.Common.{sym, subst, ◌∙◌}
use Rattle.std.specs.List.{All}
use Rattle.deadlines.specs.Lateness.{IsNotice, late_of}
use Rattle.deadlines.specs.Rolls.{roll}
use Rattle.deadlines.proofs.Found.{one_late, none_late, notices}
use Rattle.deadlines.proofs.late.overdue.Goals as goal

pub loop-open_item-preserved-in-Continue-branch-5 : goal.loop-open_item-preserved-in-Continue-branch-5
loop-open_item-preserved-in-Continue-branch-5 c =
    c.in_ok-push.ensures.items
    ∙ one_late (late_of c.clock-clock.result (roll c.in_ok-people.people)) c.loop-open_item.yielded c.in-Some.open_item c.loop-open_item.found.items c.in-Some-2.late c.loop-open_item.invariant
    (sym c.in-Some-2.is ∙ c.in_ok-late.ensures)

pub loop-open_item-preserved : goal.loop-open_item-preserved
loop-open_item-preserved c =
    none_late (late_of c.clock-clock.result (roll c.in_ok-people.people)) c.loop-open_item.yielded c.in-Some.open_item c.loop-open_item.found.items c.loop-open_item.invariant
    (sym c.in_default.is ∙ c.in_ok-late.ensures)

pub returns-clause-notices : goal.returns-clause-notices
returns-clause-notices c = subst (All IsNotice) (sym c.loop-open_item.invariant) (notices c.clock-clock.result (roll c.in_ok-people.people) c.loop-open_item.yielded)
