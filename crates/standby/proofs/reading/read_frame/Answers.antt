use Rattle.std.proofs.Common.{◌≡◌, ◌∙◌, ℕ, refl, arith}
use Rattle.std.proofs.lemmas.Result.{err_from_is_err_and}
use Rattle.standby.specs.Endings.{FollowEnd}
use Rattle.standby.specs.Readers.{ahead}
use Rattle.standby.proofs.Ended.{end_since, stops}
use Rattle.standby.proofs.reading.read_frame.Goals as goal

pub returns-in_err-len-clause-cause : goal.returns-in_err-len-clause-cause
returns-in_err-len-clause-cause g c =
    let old = g.S.Source.faults c.args.src.now in
    let mid = g.S.Source.faults c.read_first.new.src in
    let new = g.S.Source.faults c.read_length.new.src in
    let stop = c.in_err-len.field-0.0 in
    stops (λ _. new ≡ old) (λ stop. (disk : ℕ) → FollowEnd old new disk disk stop) c.from_residual-in_err-len.result stop c.from_residual-in_err-len.ensures.1 (λ disk. end_since old mid new disk disk disk stop c.in_ok-read_first.ensures.cause refl (c.in_err-len.ensures.cause disk))

pub returns-in_err-read_payload-clause-cause : goal.returns-in_err-read_payload-clause-cause
returns-in_err-read_payload-clause-cause g c =
    let old = g.S.Source.faults c.args.src.now in
    let mid = g.S.Source.faults c.read_length.new.src in
    let new = g.S.Source.faults c.read_payload.new.src in
    let stop = c.in_err-read_payload.field-0.0 in
    stops (λ _. new ≡ old) (λ stop. (disk : ℕ) → FollowEnd old new disk disk stop) c.from_residual-in_err-read_payload.result stop c.from_residual-in_err-read_payload.ensures.1 (λ disk. end_since old mid new disk disk disk stop (c.in_ok-len.ensures.cause ∙ c.in_ok-read_first.ensures.cause) refl (c.in_err-read_payload.ensures.cause disk))

pub returns-in_err-read_payload-clause-reads : goal.returns-in_err-read_payload-clause-reads
returns-in_err-read_payload-clause-reads g c =
    let before = ahead c.args.blocks.now (g.S.Source.left c.args.src.now) in
    let p = err_from_is_err_and c.from_residual-in_err-read_payload.result c.from_residual-in_err-read_payload.ensures.1 in
    let same = c.place-place.ensures.at in
    let first = rw (← same) at (rw c.if-not-branch.false at c.in_ok-read_first.ensures.reads) in
    rw (p.1, p.2) (rw same at (c.in_err-read_payload.ensures.reads before c.place-place.result (c.in_ok-len.ensures.reads before first) c.in_ok-len.ensures.place))

pub returns-clause-reads : goal.returns-clause-reads
returns-clause-reads g c =
    let before = ahead c.args.blocks.now (g.S.Source.left c.args.src.now) in
    let same = c.place-place.ensures.at in
    let first = rw (← same) at (rw c.if-not-branch.false at c.in_ok-read_first.ensures.reads) in
    let long = c.in_ok-read_payload.ensures.whole in
    ((omega (arith, long, c.in_ok-len.ensures.allowed), omega (arith, long, c.in_ok-len.ensures.allowed)), rw same at (c.in_ok-read_payload.ensures.reads before c.place-place.result (c.in_ok-len.ensures.reads before first) c.in_ok-len.ensures.place))
