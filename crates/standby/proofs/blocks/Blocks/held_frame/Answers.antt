use Rattle.std.proofs.Common.{◌≡◌, ◌+◌, ◌-◌, ◌≤◌, ℕ, List, take, drop, subst, arith, rules}
use Rattle.std.specs.List.{slice_range}
use Rattle.std.proofs.lemmas.Option.{IfSome_then}
use Rattle.standby.specs.Frames.{BeginsWithFrame, HoldsFrame}
use Rattle.standby.specs.Readers.{Reader}
use Rattle.standby.proofs.Framed.{holds_frame, held_front}
use Rattle.standby.proofs.blocks.Blocks.held_frame.Goals as goal

pub returns : goal.returns
returns c =
    let s = c.self.inside in
    let n = c.min-count.result in
    let fits : n ≤ s.to - s.from = omega (arith, c.min-count.ensures) in
    let room : c.unwrap_or-room.result ≡ 268435456 - s.place = search rules in
    let within : n ≤ 268435456 - s.place = omega (arith, c.min-count.ensures, room) in
    let reader : Reader = record { held = slice_range s.block.items s.from s.to; place = s.place } in
    IfSome_then c.framed.result c.framed.ensures (λ payload begins.
    subst (λ (r : Reader). HoldsFrame r payload.now) c.self.view_is
    (holds_frame reader n payload.now within
    (subst (λ (xs : List ℕ). BeginsWithFrame xs payload.now) (held_front s.block.items s.from s.to n fits)
    (subst (λ (xs : List ℕ). BeginsWithFrame (take (s.from + n - s.from) (drop s.from xs)) payload.now) c.deref.ensures.value begins))))
