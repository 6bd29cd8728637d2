use Rattle.std.proofs.Common.{◌-◌, ◌+◌, ◌≤◌, ℕ, List, drop, length, ap, ◌∙◌, arith}
use Rattle.std.proofs.lemmas.List.{length-take}
use Rattle.standby.specs.Readers.{Reader}
use Rattle.standby.proofs.Ahead.{held_after}
use Rattle.standby.proofs.blocks.Blocks.skip.Goals as goal

pub returns : goal.returns
returns c =
    let n = c.args.count in
    let s = c.self.inside in
    let fits : n ≤ s.to - s.from = omega (arith, c.requires.held, ap (λ (r : Reader). length r.held) c.self.view_is, length-take (s.to - s.from) (drop s.from s.block.items)) in
    ap (λ (held : List ℕ). let r : Reader = record { held = held; place = s.place + n } in r) (held_after s.block.items s.from s.to n fits) ∙ ap (λ (r : Reader). let r' : Reader = record { held = drop n r.held; place = r.place + n } in r') c.self.view_is
