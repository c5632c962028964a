use Rattle.std.proofs.Common.{◌≡◌, drop}
use Rattle.rtc_sdp_values.specs.Mids.{is_among}
use Rattle.rtc_sdp_values.proofs.mid.Mid.is_among.Given as goal

abbrev pub invariant-loop-mid : goal.invariant-loop-mid
invariant-loop-mid l = is_among (drop l.mid-index l.mids) l.self ≡ is_among l.mids l.self
