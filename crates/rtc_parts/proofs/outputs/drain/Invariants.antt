use Rattle.std.proofs.Common.{◌≡◌, ℕ, List, ◌++◌}
use Rattle.rtc_parts.specs.DtlsActs.{DtlsMoved}
use Rattle.rtc_parts.specs.DtlsWords.{takes}
use Rattle.rtc_parts.proofs.outputs.drain.Given as goal

abbrev pub invariant-polls : goal.invariant-polls
invariant-polls g l = (packets : List (List ℕ)) × (DtlsMoved g.D.DtlsInstance.dtls l.fn.instance (takes packets) l.instance × (l.packets.items ≡ l.fn.packets.items ++ packets))

abbrev pub decreases-polls : goal.decreases-polls
decreases-polls g l = g.D.DtlsInstance.dtls.held l.instance
