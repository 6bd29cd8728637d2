use Rattle.std.proofs.Common.{sym, ◌∙◌}
use Rattle.txn_log.proofs.Closing.{not_short}
use Rattle.txn_log.proofs.judging.outline.Goals as goal

pub has_magic-requires : goal.has_magic-requires
has_magic-requires c = not_short c.head_of-head.result.now (sym c.is_unmade.ensures ∙ c.if-is_unmade.false)
