use Rattle.std.proofs.Common.{◌≡◌, ◌⊎◌, ℕ, List, true, false}
use Rattle.std.specs.Option.{IsSome}
use Rattle.std.specs.List.{AllByRecursion}
use Rattle.std.specs.List.Sorted.{IsStrictlySortedBy}
use Rattle.std.specs.Ordering.{nat_cmp}
use Rattle.std.specs.Cmp.Lexicographic.{slice_cmp}
use Rattle.std.specs.Map.{keys_of}
use Rattle.staff_worklists.specs.Standing.{at_rank, begins_with, is_among}
use Rattle.staff_worklists.proofs.Roots.{placed_at, from_first}
use Rattle.staff_worklists.proofs.worklists.Worklists.ranks_of.Given as goal

abbrev pub invariant-loop-rank : goal.invariant-loop-rank
invariant-loop-rank l =
    ((r : List ℕ) → begins_with l.root r ≡ false → is_among l.ranks.items r ≡ false)
    × IsStrictlySortedBy (λ x y. slice_cmp nat_cmp x.items y.items) (keys_of l.rank-iterator)
    × AllByRecursion (λ k. from_first l.root k ≡ true) (keys_of l.rank-iterator)
    × ((r : List ℕ) → begins_with l.root r ≡ true → IsSome (at_rank l.self.places r) → (is_among l.ranks.items r ≡ true) ⊎ IsSome (placed_at r l.rank-iterator))
