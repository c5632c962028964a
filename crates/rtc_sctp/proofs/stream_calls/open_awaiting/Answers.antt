use Rattle.std.proofs.Common.{◌∙◌, sym}
use Rattle.rtc_sctp.proofs.CallLemmas.{opens_unset}
use Rattle.rtc_sctp.proofs.stream_calls.open_awaiting.Goals as goal

pub returns : goal.returns
returns g c = opens_unset _ _ _ _ _ _ _ _ (sym c.is_some.ensures ∙ c.if-is_some.false) c.take_config.ensures
