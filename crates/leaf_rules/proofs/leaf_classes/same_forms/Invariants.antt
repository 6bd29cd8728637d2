use Rattle.std.proofs.Common.{◌≡◌, take}
use Rattle.leaf_rules.proofs.leaf_classes.same_forms.Given as goal

abbrev pub invariant-loop-i : goal.invariant-loop-i
invariant-loop-i l = take l.i l.ours ≡ take l.i l.theirs
