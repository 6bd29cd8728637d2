use Rattle.std.proofs.Common.{◌≡◌, ◌++◌, map}
use Rattle.staff_worklists.specs.Listing.{line_of}
use Rattle.staff_worklists.proofs.worklists.lines_of.Given as goal

abbrev pub invariant-loop-rank : goal.invariant-loop-rank
invariant-loop-rank l = l.lines ++ map (λ e. line_of e.1.now) l._rank-iterator ≡ map (λ e. line_of e.1.now) l.found.entries
