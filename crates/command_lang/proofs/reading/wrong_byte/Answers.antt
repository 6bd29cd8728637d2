use Rattle.std.proofs.Common.{sym, ◌∙◌}
use Rattle.command_lang.proofs.Faults.{none_wrong}
use Rattle.command_lang.proofs.reading.wrong_byte.Goals as goal

pub returns-then-all_may_stand : goal.returns-then-all_may_stand
returns-then-all_may_stand c = sym (none_wrong c.args.line.now (sym c.all_may_stand.ensures ∙ c.if-all_may_stand.true))
