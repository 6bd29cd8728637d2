use Rattle.std.proofs.Common.{refl}
use Rattle.flow_txn.specs.Ranges.{SettingFits}
use Rattle.flow_txn.proofs.Elementwise.{all_of, one_more}
use Rattle.flow_txn.proofs.fitting.each_setting_fits.Goals as goal

pub loop-setting-preserved : goal.loop-setting-preserved
loop-setting-preserved c =
    one_more SettingFits c.args.settings.now c.loop-setting.setting-index c.setting-item.result c.loop-setting-test.true c.setting-item.is c.loop-setting.invariant
    (c.setting_fits.ensures.0 c.if-not-setting_fits.false)

pub returns : goal.returns
returns c =
    (λ is. all_of SettingFits c.args.settings.now c.loop-setting.setting-index c.loop-setting-test.false c.loop-setting.invariant, λ all. refl)
