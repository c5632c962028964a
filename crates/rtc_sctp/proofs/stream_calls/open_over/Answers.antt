use Rattle.rtc_sctp.proofs.CallLemmas.{opens_config}
use Rattle.rtc_sctp.proofs.stream_calls.open_over.Goals as goal

pub returns-in-AwaitConfig : goal.returns-in-AwaitConfig
returns-in-AwaitConfig g c = opens_config _ _ _ _ _ _ _ _ c.in-AwaitConfig.is c.open_awaiting.ensures
