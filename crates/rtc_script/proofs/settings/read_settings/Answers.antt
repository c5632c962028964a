use Rattle.std.proofs.Common.{◌+◌, length, ap, ◌∙◌, length-append}
use Rattle.rtc_script.specs.Lines.{IsSetting}
use Rattle.rtc_script.proofs.ZipLemmas.{more_zip}
use Rattle.rtc_script.proofs.settings.read_settings.Goals as goal

pub loop-line-preserved : goal.loop-line-preserved
loop-line-preserved c = (
  ap length c.in_ok-push.ensures.ok ∙ length-append _ _ ∙ ap (λ n. n + 1) c.loop-line.invariant.0,
  rw c.in_ok-push.ensures.ok (more_zip IsSetting _ _ _ _ c.in-Some.setting c.loop-line-test.true c.loop-line.invariant.1 (rw c.in-Some.is at c.in_ok-setting.ensures.some)),
)
