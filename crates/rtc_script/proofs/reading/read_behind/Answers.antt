use Rattle.rtc_script.proofs.SettingLines.{lines_read, lines_failed}
use Rattle.rtc_script.proofs.reading.read_behind.Goals as goal

pub returns-in-Ok-clause-ok : goal.returns-in-Ok-clause-ok
returns-in-Ok-clause-ok c = lines_read _ _ _ _ _ _ c.in_ok-settings.ensures c.len-count.ensures c.split_at.ensures.back c.in-Ok.ensures.ok c.new.ensures

pub returns-in-Err-NotStep-clause-err : goal.returns-in-Err-NotStep-clause-err
returns-in-Err-NotStep-clause-err c = lines_failed _ _ _ _ _ c.in_ok-settings.ensures c.len-count.ensures c.split_at.ensures.back (rw c.in-Err-NotStep.field-0-is at c.in-Err-NotStep.ensures.err)
