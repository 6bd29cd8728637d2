use Rattle.std.proofs.Common.{◌≡◌, ℕ, List, map, drop}
use Rattle.staff_worklists.specs.Listing.{found_at, seen_on}
use Rattle.staff_worklists.specs.declared.worklists.Shelf.TheVariants.{Role}
use Rattle.staff_worklists.proofs.worklists.Worklists.add_roles.Given as goal

abbrev pub invariant-loop-role : goal.invariant-loop-role
invariant-loop-role l = (r : List ℕ) → seen_on l.self.shelves (map (λ role. Role role) (drop l.role-index l.roles)) (found_at l.found r) r ≡ seen_on l.self.shelves (map (λ role. Role role) l.roles) (found_at l.initial.found r) r
