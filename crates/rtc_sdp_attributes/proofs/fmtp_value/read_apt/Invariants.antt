use Rattle.std.proofs.Common.{◌≡◌, length}
use denote.Shadow.{shadow}
use denote.Text.{Utf8}
use Rattle.rtc_sdp_attributes.specs.AttributeForms.{apt}
use Rattle.rtc_sdp_attributes.proofs.fmtp_value.read_apt.Given as goal

abbrev pub invariant-loop-next : goal.invariant-loop-next
invariant-loop-next l = (apt l.rest ≡ apt l.fn.text) × shadow (Utf8 l.rest)

abbrev pub decreases-loop-next : goal.decreases-loop-next
decreases-loop-next l = length l.rest
