use Rattle.std.proofs.Common.{Some}
use Rattle.staff_worklists.proofs.Steps.{begun}
use Rattle.staff_worklists.proofs.worklists.put_first.Goals as goal

pub returns-clause-ok : goal.returns-clause-ok
returns-clause-ok c =
    begun c.args.shelves.now c.insert-2.new.self c.args.shelf c.args.rank.items (Some c.args.listed) c.new-items.result c.insert.new.self
    c.new-items.ensures.empty c.requires c.in_ok-insert-2.ensures.updates c.in_ok-insert.ensures.updates
