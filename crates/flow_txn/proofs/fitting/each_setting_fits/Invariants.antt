use Rattle.std.proofs.Common.{take}
use Rattle.std.specs.List.{All}
use Rattle.flow_txn.specs.Ranges.{SettingFits}
use Rattle.flow_txn.proofs.fitting.each_setting_fits.Given as goal

abbrev pub invariant-loop-setting : goal.invariant-loop-setting
invariant-loop-setting l = All SettingFits (take l.setting-index l.settings)
