use Rattle.std.proofs.Common.{◌≡◌, take}
use Rattle.process_rules.proofs.alike.same_leaves.Given as goal

abbrev pub invariant-loop-place : goal.invariant-loop-place
invariant-loop-place l = take l.place l.first.leaves ≡ take l.place l.second.leaves
