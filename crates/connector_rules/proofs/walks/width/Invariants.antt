use Rattle.std.proofs.Common.{ℕ, ◌<◌, slice_index_or}
use Rattle.connector_rules.proofs.walks.width.Given as goal

abbrev pub invariant-loop-group : goal.invariant-loop-group
invariant-loop-group l = (k d : ℕ) → k < l.group-index → slice_index_or l.groups k d < l.most
