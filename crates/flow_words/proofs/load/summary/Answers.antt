use Rattle.std.proofs.Common.{ap, ◌∙◌}
use Rattle.flow_words.specs.Loading.{turns_of}
use Rattle.flow_words.proofs.Loads.{sums_up}
use Rattle.flow_words.proofs.load.summary.Goals as goal

pub returns : goal.returns
returns c =
    sums_up c.line_of.result c.args.load.now c.core-core.result.now c.args.seed c.args.roots c.number.result c.turns-taken.result c.done_count.result c.in_ok-finished.finished c.core-core.ensures c.number.ensures (c.turns-taken.ensures ∙ ap (λ l. turns_of l.items) c.live.ensures) c.in_ok-finished.ensures c.done_count.ensures c.line_of.ensures
