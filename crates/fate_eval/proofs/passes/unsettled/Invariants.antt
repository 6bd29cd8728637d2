use Rattle.std.proofs.Common.{◌≡◌, replicate}
use Rattle.flow_model.specs.declared.instances.SourceEnd.TheVariants.{Unsettled}
use Rattle.fate_eval.proofs.passes.unsettled.Given as goal

abbrev pub invariant-loop : goal.invariant-loop
invariant-loop l = l.ends.items ≡ replicate l.counter Unsettled
