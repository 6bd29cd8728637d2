use Rattle.std.proofs.Common.{◌≡◌, ◌-◌, ◌++◌, drop, map, length}
use Rattle.flow_model.specs.Containers.{first_value}
use Rattle.containers.proofs.fill.fresh.Given as goal

abbrev pub invariant-loop-kind : goal.invariant-loop-kind
invariant-loop-kind l = map (λ leaf. first_value leaf.kind) l.leaves.leaves ≡ l.values ++ map (λ leaf. first_value leaf.kind) (drop (length l.values) l.leaves.leaves)

abbrev pub decreases-loop-kind : goal.decreases-loop-kind
decreases-loop-kind l = length l.leaves.leaves - length l.values
