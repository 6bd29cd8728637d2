use Rattle.std.proofs.Common.{◌≡◌, ℕ, ◌<◌, [], ◌≢◌}
use Rattle.graph_check.specs.declared.strong.Standing.TheVariants.{New}
use Rattle.graph_check.specs.Grouping.{IsGrouped, mark_of}
use Rattle.graph_check.proofs.strong.components.Given as goal

abbrev pub invariant-loop-node : goal.invariant-loop-node
invariant-loop-node l = record { grouped : IsGrouped l.nodes l.edges l.grouping; idle : l.grouping.path ≡ []; met : (a : ℕ) → a < l.node → mark_of l.grouping a ≢ New }
