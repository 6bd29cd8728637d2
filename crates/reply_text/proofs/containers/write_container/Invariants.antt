use Rattle.std.proofs.Common.{◌≡◌, ◌++◌, drop}
use Rattle.std.specs.List.{flat_map, zip}
use Rattle.reply_text.specs.Leaves.{line_text}
use Rattle.reply_text.proofs.containers.write_container.Given as goal

abbrev pub invariant-loop-place : goal.invariant-loop-place
invariant-loop-place l = l.out.items ++ flat_map line_text (zip (drop l.place l.leaves.leaves) (drop l.place l.container.values)) ≡ l.initial.out.items ++ flat_map line_text (zip l.leaves.leaves l.container.values)
