use Rattle.std.proofs.Common.{refl, ap, ◌∙◌, arith}
use Rattle.rtc_script.specs.Settings.{side_settings}
use Rattle.rtc_script.proofs.SideFolds.{side_from, side_more, side_done}
use Rattle.rtc_script.proofs.script.Script.side_settings.Goals as goal

pub loop-setting-init : goal.loop-setting-init
unfolding side_from
loop-setting-init c = refl

pub loop-setting-preserved : goal.loop-setting-preserved
loop-setting-preserved c = side_more _ _ _ _ _ _ _ c.loop-setting-test.true c.take_at.ensures c.loop-setting.invariant

pub returns : goal.returns
returns c =
    side_done c.args.at c.as_slice-settings.result.now c.loop-setting.setting-index c.loop-setting.side _ (omega (arith, c.loop-setting-test.false)) c.loop-setting.invariant
    ∙ ap (λ settings. side_settings c.args.at settings) c.as_slice-settings.ensures
