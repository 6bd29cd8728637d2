use Rattle.std.proofs.Common.{◌≡◌, ◌+◌, ◌∙◌, cond, arith}
use Rattle.dead_paths.proofs.Counting.{one_known, one_missing, bit_of}
use Rattle.dead_paths.proofs.joins.Tally.with.Goals as goal

pub returns : goal.returns
returns c = λ xs ys h.
    let known = one_known c.args.self c.args.value xs ys h in
    let more : c.saturating_add.result ≡ c.args.self.trues + cond c.args.value 1 0 = grind (arith, one_missing c.args.self xs ys h, bit_of c.args.value) in
    record { total = known.total; missing = c.saturating_sub.ensures ∙ known.missing; trues = more ∙ known.trues }
