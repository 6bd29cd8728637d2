use Rattle.std.proofs.Common.{◌-◌, ◌+◌, ◌≤◌, ℕ, List, drop, ap, ◌∙◌, arith}
use Rattle.standby.specs.Readers.{Reader}
use Rattle.standby.proofs.Ahead.{held_after}
use Rattle.standby.proofs.blocks.Blocks.hand_out.Goals as goal

pub returns-clause-after : goal.returns-clause-after
returns-clause-after c =
    let n = c.min-count.result in
    let s = c.self.inside in
    let fits : n ≤ s.to - s.from = omega (arith, c.min.ensures, c.min-count.ensures) in
    ap (λ (held : List ℕ). let r : Reader = record { held = held; place = s.place + n } in r) (held_after s.block.items s.from s.to n fits) ∙ ap (λ (r : Reader). let r' : Reader = record { held = drop n r.held; place = r.place + n } in r') c.self.view_is
