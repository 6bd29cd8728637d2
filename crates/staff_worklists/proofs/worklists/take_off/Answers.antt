use Rattle.std.proofs.Common.{rules, None}
use Rattle.staff_worklists.proofs.Steps.{changed}
use Rattle.staff_worklists.proofs.worklists.take_off.Goals as goal

pub returns-in-Some : goal.returns-in-Some
returns-in-Some c = λ q r.
    changed c.args.shelves.now (c.get_mut.follows.lender c.remove.new.self) c.args.shelf.now c.args.rank.now.items None c.in-Some.items.now c.remove.new.self c.in-Some.ensures.value
    ((c.get_mut.follows.holds c.remove.new.self).3 (search rules)) c.remove.ensures.updates q r
