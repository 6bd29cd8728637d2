use Rattle.std.proofs.Common.{◌≡◌, ℕ, List, if◌then◌else◌, None, drop}
use Rattle.staff_worklists.specs.Standing.{item_in, is_among}
use Rattle.staff_worklists.specs.declared.worklists.Shelf.{Shelf}
use Rattle.staff_worklists.proofs.worklists.Worklists.drop_items.Given as goal

abbrev pub invariant-loop-rank : goal.invariant-loop-rank
invariant-loop-rank l = (q : Shelf) (r : List ℕ) → (if is_among (drop l.rank-index l.ranks) r then None else item_in l.self.shelves q r) ≡ (if is_among l.ranks r then None else item_in l.initial.self.shelves q r)
