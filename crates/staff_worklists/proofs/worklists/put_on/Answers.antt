use Rattle.std.proofs.Common.{rules, Some}
use Rattle.staff_worklists.proofs.Steps.{changed, unwritten, on_err}
use Rattle.staff_worklists.proofs.worklists.put_on.Goals as goal

pub returns-in_err-insert-clause-err : goal.returns-in_err-insert-clause-err
returns-in_err-insert-clause-err c =
    on_err c.from_residual.result
    (unwritten c.args.shelves.now (c.get_mut.follows.lender c.insert.new.self) c.args.shelf c.in-Some.items.now c.insert.new.self
    c.in-Some.ensures.value c.in_err-insert.ensures.err ((c.get_mut.follows.holds c.insert.new.self).3 (search rules)))

pub returns-in-Some-clause-ok : goal.returns-in-Some-clause-ok
returns-in-Some-clause-ok c =
    changed c.args.shelves.now (c.get_mut.follows.lender c.insert.new.self) c.args.shelf c.args.rank.items (Some c.args.listed) c.in-Some.items.now c.insert.new.self
    c.in-Some.ensures.value ((c.get_mut.follows.holds c.insert.new.self).3 (search rules)) c.in_ok-insert.ensures.updates
