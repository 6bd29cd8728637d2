use Rattle.std.proofs.Common.{◌≡◌, ℕ, refl}
use Rattle.standby.specs.Endings.{FollowEnd}
use Rattle.standby.proofs.Ended.{end_since, stops}
use Rattle.standby.proofs.blocks.Blocks.read.Goals as goal

pub returns-in_err-more-clause-cause : goal.returns-in_err-more-clause-cause
returns-in_err-more-clause-cause g c =
    let old = g.S.Source.faults c.args.src.now in
    let mid = g.S.Source.faults c.parts.src in
    let new = g.S.Source.faults c.read_some.new.src in
    let stop = c.in_err-more.field-0.0 in
    stops (λ _. new ≡ old) (λ stop. (disk : ℕ) → FollowEnd old new disk disk stop) c.from_residual.result stop c.from_residual.ensures.1 (λ disk. end_since old mid new disk disk disk stop c.parts.invariant.counted refl (c.in_err-more.ensures.cause disk))
