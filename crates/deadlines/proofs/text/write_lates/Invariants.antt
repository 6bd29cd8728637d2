use Rattle.std.proofs.Common.{◌≡◌, ◌++◌, take}
use Rattle.std.specs.List.{flat_map}
use Rattle.deadlines.specs.Texts.{late_text}
use Rattle.deadlines.proofs.text.write_lates.Given as goal

abbrev pub invariant-loop-late : goal.invariant-loop-late
invariant-loop-late l = l.out.items ≡ l.initial.out.items ++ flat_map late_text (take l.late-index l.lates)
