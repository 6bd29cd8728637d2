use Rattle.std.proofs.Common.{arith}
use Rattle.std.proofs.lemmas.Grind.{common_steps}
use Rattle.std.proofs.lemmas.Int.{ints}
use Rattle.std.proofs.Common.{to_z-of_z}
use Rattle.conditions.proofs.truth.sum.Goals as goal

pub loop-term-preserved : goal.loop-term-preserved
loop-term-preserved c = record {
  low = omega (arith, ints, c.with_term-so_far.ensures.fall);
  high = omega (arith, ints, c.with_term-so_far.ensures.rise);
  rest = grind (arith, common_steps, to_z-of_z, c.with_term-so_far.ensures.sum, c.loop-term.invariant.rest);
}
