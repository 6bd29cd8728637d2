use Rattle.std.proofs.Common.{◌≡◌, ◌++◌, map}
use Rattle.std.specs.List.{filter_map}
use Rattle.flow_core.specs.OpenItems.{told_of, open_in}
use Rattle.flow_core.proofs.state.Core.add_open_rows.Given as goal

abbrev pub invariant-loop-row : goal.invariant-loop-row
invariant-loop-row l = map told_of l.found.items ≡ map told_of l.fn.found.items ++ filter_map (open_in l.fn.self) l.yielded
