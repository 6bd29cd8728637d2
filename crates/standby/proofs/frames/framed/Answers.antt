use Rattle.std.proofs.Common.{◌≡◌, ◌+◌, ◌-◌, ℕ, take, drop, ap, refl, arith}
use Rattle.standby.proofs.Framed.{framed_is}
use Rattle.standby.proofs.frames.framed.Goals as goal

pub returns : goal.returns
returns c =
    let bytes = c.args.bytes.now in
    let len = c.in_ok-len.field-0 in
    let same : 5 + len - 5 ≡ len = omega arith in
    framed_is bytes _ (take (5 + len - 5) (drop 5 bytes)) len c.if-bytes-lt5.false c.if-bytes-ne-FRAME.false refl c.in_ok-len.ensures.1
    (ap (λ (n : ℕ). take n (drop 5 bytes)) same) c.if-len-lt1.false c.if-len-gt-MAX_PAYLOAD.false c.if-len-bytes.false
