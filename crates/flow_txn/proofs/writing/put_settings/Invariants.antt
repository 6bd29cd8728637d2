use Rattle.std.proofs.Common.{◌≡◌, ◌++◌, ◌-◌, ◌^◌, length, take, min}
use Rattle.std.specs.List.{flat_map}
use Rattle.std.specs.Int.{w16, to_be_bytes}
use Rattle.flow_txn.specs.Records.{setting_bytes}
use Rattle.flow_txn.proofs.writing.put_settings.Given as goal

abbrev pub invariant-loop-setting : goal.invariant-loop-setting
invariant-loop-setting l = l.out.items ≡ l.fn.out.items ++ (to_be_bytes w16 (min (length l.settings) (2 ^ 16 - 1)) ++ flat_map setting_bytes (take l.setting-index l.settings))
