use Rattle.std.proofs.Common.{ℕ, ◌+◌, ◌-◌, List, take, drop, arith, ap, ◌∙◌}
use Rattle.flow_io.proofs.Copies.{copy_gives_front}
use Rattle.flow_io.proofs.memory.MemSource.give.Goals as goal

pub returns : goal.returns
returns c =
    let s = c.self.inside in
    let n = c.min-count.result in
    copy_gives_front c.args.self.now s.bytes.items c.copy_from_slice.new.self c.args.buf.now s.at n s.calls c.self.view_is
    (c.copy_from_slice.ensures.after ∙ ap (λ (l : List ℕ). take ((s.at + n) - s.at) (drop s.at l)) c.deref.ensures.value)
    (omega (arith, c.self.invariant)) (omega (arith, c.min-count.ensures))
