use Rattle.std.proofs.Common.{◌≡◌, ◌∷◌, take}
use Rattle.std.specs.Prelude.{pos}
use Rattle.flow_model.specs.declared.graphs.Value.TheVariants.{Whole}
use Rattle.containers.proofs.fill.with_return_code.Given as goal

abbrev pub invariant-loop-value : goal.invariant-loop-value
invariant-loop-value l = l.values ≡ Whole (pos 0) ∷ take l.value-index l.value-items
