use Rattle.std.proofs.Common.{◌≡◌, take, map, length}
use Rattle.std.specs.List.{AllZip}
use Rattle.rtc_script.specs.Lines.{IsSetting}
use Rattle.rtc_script.proofs.settings.read_settings.Given as goal

-- the lines so far are those of the settings so far
abbrev pub invariant-loop-line : goal.invariant-loop-line
invariant-loop-line l = (length l.settings ≡ l.line-index) × AllZip IsSetting (take l.line-index (map (λ line. line.now) l.lines)) l.settings
