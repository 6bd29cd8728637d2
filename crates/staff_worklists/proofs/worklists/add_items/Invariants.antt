use Rattle.std.proofs.Common.{◌≡◌, ℕ, List}
use Rattle.std.specs.Option.{option_or}
use Rattle.staff_worklists.specs.Listing.{found_at}
use Rattle.staff_worklists.proofs.Found.{at, IsRising}
use Rattle.staff_worklists.proofs.worklists.add_items.Given as goal

abbrev pub invariant-loop-rank : goal.invariant-loop-rank
invariant-loop-rank l = IsRising l.rank-iterator × ((r : List ℕ) → option_or (at r l.rank-iterator) (found_at l.found r) ≡ option_or (at r l.items.entries) (found_at l.initial.found r))
