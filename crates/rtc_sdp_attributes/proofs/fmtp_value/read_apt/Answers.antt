use Rattle.std.proofs.Common.{◌∙◌, ap}
use Rattle.rtc_sdp_attributes.specs.AttributeForms.{apt_pair}
use Rattle.rtc_sdp_attributes.proofs.AptLemmas.{apt_done}
use Rattle.rtc_sdp_attributes.proofs.fmtp_value.read_apt.Goals as goal

pub returns : goal.returns
returns c = c.apt_pair.ensures ∙ ap apt_pair c.first_pair.ensures ∙ apt_done c.loop-next.rest.now c.in_default.ensures ∙ c.loop-next.invariant.0
