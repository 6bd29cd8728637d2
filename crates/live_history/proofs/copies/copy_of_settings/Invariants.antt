use Rattle.std.proofs.Common.{◌≡◌, take}
use Rattle.live_history.proofs.copies.copy_of_settings.Given as goal

abbrev pub invariant-loop-setting : goal.invariant-loop-setting
invariant-loop-setting l = l.copied ≡ take l.setting-index l.settings
