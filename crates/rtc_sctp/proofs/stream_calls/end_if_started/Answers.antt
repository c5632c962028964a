use Rattle.std.proofs.Common.{◌∙◌, sym}
use Rattle.rtc_sctp.proofs.CallLemmas.{ends_started}
use Rattle.rtc_sctp.proofs.stream_calls.end_if_started.Goals as goal

pub returns-then-is_started : goal.returns-then-is_started
returns-then-is_started g c = ends_started _ _ _ _ _ _ _ _ (sym c.is_started.ensures ∙ c.if-is_started.true) c.end_stream.ensures
