use Rattle.std.proofs.Common.{◌≡◌, drop}
use Rattle.containers.specs.Settings.{filled}
use Rattle.containers.proofs.settings.with_settings.Given as goal

abbrev pub invariant-loop-setting : goal.invariant-loop-setting
invariant-loop-setting l = filled (drop l.setting-index l.settings) l.changed ≡ filled l.settings l.initial.changed
