-- The verdict on a command that may make a transaction.
use Rattle.std.specs.Prelude.{◌≡◌, ◌<◌, Some, None}
use Rattle.flow_model.specs.declared.commands.Command.{Command}
use Rattle.flow_core.specs.Allowing.{IsAllowed}
use Rattle.flow_core.specs.Refusals.{IsFirstRefusal, same_root}
use Rattle.flow_core.specs.Verdicts.{IsFor}
use Rattle.flow_core.specs.declared.judging.Verdict.{Verdict}
use Rattle.flow_core.specs.declared.judging.Verdict.TheVariants.{Do, Same, Refused}
use Rattle.flow_core.specs.declared.state.Core.{Core}

-- it is the START of a live root, by its key; else it has a first refusal; else it gives its transaction, below the
-- limit, where it may be
abbrev pub IsVerdict : Core → Command → Verdict → Type 0
IsVerdict c command (Do t) =
    (c.number < c.limit) × IsFor c command t × IsAllowed c t × (same_root c command ≡ None) × IsFirstRefusal c command None
IsVerdict c command (Same root) = same_root c command ≡ Some root
IsVerdict c command (Refused refusal) = (same_root c command ≡ None) × IsFirstRefusal c command (Some refusal)
