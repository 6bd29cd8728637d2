use Rattle.std.proofs.Common.{◌+◌, ◌%◌, ◌≡◌, ◌∙◌, sym, ap, ◌++◌, ◌∷◌, [], List, ℕ, arith}
use Rattle.std.proofs.lemmas.List.FromFn.{map-range_with_len_more}
use Rattle.flow_disk.specs.Crashes.{noise_byte}
use Rattle.flow_disk.proofs.change.noise.Goals as goal

pub loop-i-preserved : goal.loop-i-preserved
loop-i-preserved c = let same : (c.args.choice % 256 + c.args.at % 256 + c.loop-i.i % 256) % 256 ≡ noise_byte c.args.choice c.args.at c.loop-i.i = omega arith in
    (c.in_ok-push.ensures.items ∙ ap (λ (b : ℕ). c.loop-i.bytes.items ++ b ∷ []) same) ∙ (ap (λ (l : List ℕ). l ++ noise_byte c.args.choice c.args.at c.loop-i.i ∷ []) c.loop-i.invariant ∙ sym (map-range_with_len_more (noise_byte c.args.choice c.args.at) 0 c.loop-i.i c.loop-i.i (omega arith)))
