use Rattle.std.proofs.Common.{map}
use Rattle.std.specs.List.{AllWithin}
use Rattle.leaf_rules.specs.Leaves.{table_leaves}
use Rattle.process_rules.specs.Callees.{IsFitting}
use Rattle.process_rules.proofs.callees.first_misfit.Given as goal

abbrev pub invariant-loop-call : goal.invariant-loop-call
invariant-loop-call l =
    AllWithin (λ c. IsFitting (table_leaves l.table) l.known.catalog.now.library (map (λ p. p.now) l.known.processes.items) c.activity.now c.callee) l.calls 0 l.call-index
