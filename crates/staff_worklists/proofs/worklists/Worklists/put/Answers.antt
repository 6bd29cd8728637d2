use Rattle.std.proofs.Common.{Some, ◌∙◌}
use Rattle.staff_worklists.proofs.Lookups.{tree_updates}
use Rattle.staff_worklists.proofs.Steps.{placed_tried}
use Rattle.staff_worklists.proofs.worklists.Worklists.put.Goals as goal

pub invariant_of-self-2 : goal.invariant_of-self-2
invariant_of-self-2 c =
    let s = c.args.self.now in
    let key = c.in_ok-key.ensures ∙ c.as_slice.ensures.value in
    let other = c.in_ok-other.ensures ∙ c.as_slice-2.ensures.value in record {
      placed = placed_tried s.shelves c.put_on.new.shelves s.places c.insert.new.self c.args.rank.now.items c.args.shelf c.in_ok-place.place (Some c.args.listed) c.put_on.result s.placed
          c.in_ok-place.ensures
          c.requires
          (rw (← key) (tree_updates (λ k. k.items) c.in_ok-key.key.items s.places c.insert.new.self (Some c.in_ok-place.place) c.in_ok-insert.ensures.updates))
          (rw (← other) c.put_on.ensures.ok) c.put_on.ensures.err;
    }
