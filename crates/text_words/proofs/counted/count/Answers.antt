use Rattle.std.proofs.Common.{ap, ◌∙◌, ◌+◌, ◌-◌, ◌^◌}
use Rattle.std.specs.Prelude.{min}
use Rattle.text_words.proofs.Counting.{counts}
use Rattle.text_words.proofs.counted.count.Goals as goal

pub returns-clause-ok : goal.returns-clause-ok
returns-clause-ok c =
    counts c.args.nexts.now c.insert.new.self c.in_ok-key.key c.args.name.now c.saturating_add-next.result c.in_ok-key.ensures.items
    (c.saturating_add-next.ensures ∙ ap (λ n. min (n + 1) (2 ^ 64 - 1)) c.next_at.ensures) c.in_ok-insert.ensures.updates
