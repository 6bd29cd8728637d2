use Rattle.std.proofs.Common.{◌≡◌, ◌++◌, length}
use Rattle.std.specs.List.{flat_map}
use Rattle.reply_text.specs.Leaves.{later_text}
use Rattle.reply_text.proofs.containers.write_leaf.Given as goal

abbrev pub invariant-loop-step : goal.invariant-loop-step
invariant-loop-step l = l.out.items ++ flat_map later_text l.rest ≡ l.initial.out.items ++ flat_map later_text l.initial.rest

abbrev pub decreases-loop-step : goal.decreases-loop-step
decreases-loop-step l = length l.rest
