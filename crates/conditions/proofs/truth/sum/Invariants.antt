use Rattle.std.proofs.Common.{◌≡◌, ◌*◌, ◌^◌, drop}
use Rattle.std.specs.Prelude.{◌≤ℤ◌, ◌+ℤ◌, pos}
use Rattle.flow_model.specs.Conditions.{sum_from}
use Rattle.conditions.proofs.truth.sum.Given as goal

abbrev pub invariant-loop-term : goal.invariant-loop-term
invariant-loop-term l = record {
  low : pos 0 ≤ℤ (l.so_far +ℤ pos (2 ^ 63 * l.term-index));
  high : l.so_far ≤ℤ pos (2 ^ 63 * l.term-index);
  rest : sum_from l.so_far (drop l.term-index l.terms) l.container ≡ sum_from (pos 0) l.terms l.container;
}
