use Rattle.std.proofs.Common.{length, take, List, ◌++◌, ℕ, arith, sym, ap, ◌∙◌}
use Rattle.std.proofs.Math.Seq.{take-add}
use Rattle.std.proofs.lemmas.Slice.{between_to_end}
use Rattle.std.proofs.lemmas.Grind.{common_steps}
use Rattle.flow_io.proofs.Known.{Appends-joined}
use Rattle.flow_io.proofs.outside.put_all.Goals as goal

pub loop-done-preserved : goal.loop-done-preserved
loop-done-preserved g c =
    let piece = c.args.piece.now in
    let done = c.loop-done.done in
    let n = c.in_ok-done.field-0 in
    record {
      within = grind (arith, common_steps, c.in_ok-done.ensures.bound);
      appended = Appends-joined _ _ _ _ _ _ c.loop-done.invariant.appended c.in_ok-done.ensures.bytes
          (ap (λ (xs : List ℕ). take done piece ++ take n xs) (between_to_end piece done (length piece) (omega arith)) ∙ sym (take-add done n piece));
      counted = omega (arith, c.in_ok-done.ensures.cause.ok);
    }
