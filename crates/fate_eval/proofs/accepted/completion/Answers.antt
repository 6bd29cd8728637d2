use Rattle.std.proofs.Common.{sym, ◌∙◌}
use Rattle.fate_eval.proofs.Groups.{later_itself}
use Rattle.fate_eval.proofs.accepted.completion.Goals as goal

pub loop-entry-preserved : goal.loop-entry-preserved
loop-entry-preserved c = later_itself c.args.entries.now c.loop-entry.entry-index c.entry-item.result c.loop-entry-test.true c.entry-item.is (sym c.is_empty.ensures ∙ c.if-is_empty.false) ∙ c.loop-entry.invariant
