use Rattle.rtc_config.proofs.FormedDefault.{rows_where_unset, extensions_where_unset}
use Rattle.rtc_config.proofs.rtc_config.RtcConfig.new.Goals as goal

pub returns-clause-codecs : goal.returns-clause-codecs
returns-clause-codecs c = rows_where_unset c.in_ok-codecs.codecs c.in_ok-codecs.ensures

pub returns-clause-extensions : goal.returns-clause-extensions
returns-clause-extensions c = extensions_where_unset c.in_ok-extensions.extensions c.in_ok-extensions.ensures
