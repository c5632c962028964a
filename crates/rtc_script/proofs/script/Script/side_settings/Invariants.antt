use Rattle.std.proofs.Common.{◌≡◌, drop}
use Rattle.rtc_script.specs.Settings.{side_settings}
use Rattle.rtc_script.proofs.SideFolds.{side_from}
use Rattle.rtc_script.proofs.script.Script.side_settings.Given as goal

abbrev pub invariant-loop-setting : goal.invariant-loop-setting
invariant-loop-setting l = side_from l.at (drop l.setting-index l.settings) l.side ≡ side_settings l.at l.settings
