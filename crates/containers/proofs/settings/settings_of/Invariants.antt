use Rattle.std.proofs.Common.{◌≡◌, drop}
use Rattle.std.specs.Prelude.{option_copied}
use Rattle.containers.specs.Settings.{behind, settings_by, outcome_by}
use Rattle.containers.proofs.settings.settings_of.Given as goal

-- what is written from here on, behind what was read, is all that is written
abbrev pub invariant-loop-setting : goal.invariant-loop-setting
invariant-loop-setting l = behind l.settings (settings_by l.leaves (drop l.setting-index l.written)) ≡ outcome_by l.leaves (option_copied l.rc) l.written
