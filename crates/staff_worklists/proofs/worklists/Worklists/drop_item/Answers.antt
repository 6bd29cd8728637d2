use Rattle.std.proofs.Common.{None}
use Rattle.staff_worklists.proofs.Lookups.{tree_updates}
use Rattle.staff_worklists.proofs.Steps.{dropped, placed_dropped}
use Rattle.staff_worklists.proofs.worklists.Worklists.drop_item.Goals as goal

pub invariant_of-self : goal.invariant_of-self
invariant_of-self c =
    let s = c.args.self.now in record {
      placed = placed_dropped s.shelves c.take_off.new.shelves s.places c.remove.new.self c.args.rank.now.items s.placed
          (tree_updates (λ k. k.items) c.args.rank.now.items s.places c.remove.new.self None c.remove.ensures.updates)
          (dropped s.shelves c.take_off.new.shelves s.places c.in-Some.shelf c.args.rank.now.items s.placed c.in-Some.ensures.value
          c.take_off.ensures);
    }

pub returns-in-Some : goal.returns-in-Some
returns-in-Some c =
    let s = c.args.self.now in
    dropped s.shelves c.take_off.new.shelves s.places c.in-Some.shelf c.args.rank.now.items s.placed c.in-Some.ensures.value
    c.take_off.ensures
