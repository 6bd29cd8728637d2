use Rattle.std.proofs.Common.{◌≡◌}
use Rattle.std.specs.List.{filter_map}
use Rattle.deadlines.specs.Lateness.{late_of}
use Rattle.deadlines.specs.Rolls.{roll}
use Rattle.deadlines.proofs.late.overdue.Given as goal

abbrev pub invariant-loop-open_item : goal.invariant-loop-open_item
invariant-loop-open_item l = l.found.items ≡ filter_map (late_of l.clock (roll l.people)) l.yielded
