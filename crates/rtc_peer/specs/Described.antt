-- Offers and answers as the session descriptions that they are.
use Rattle.std.specs.Prelude.{Option, Some, None, Result, Ok, Err}
use Rattle.std.specs.declared.alloc.AllocError.{AllocError}
use Rattle.rtc_sdp_values.specs.declared.sdp.Sdp.{Sdp}
use Rattle.rtc_lines.specs.declared.sdp_answer.SdpAnswer.{SdpAnswer}
use Rattle.rtc_lines.specs.declared.sdp_offer.SdpOffer.{SdpOffer}
use Rattle.rtc_change.specs.PendingOffer.{PendingOffer}
use Rattle.rtc_peer_core.specs.declared.rtc_error.RtcError.{RtcError}

-- the session description of an answer
abbrev pub sdp_of_answer : Result SdpAnswer RtcError → Result Sdp RtcError
sdp_of_answer (Ok answer) = Ok answer.0
sdp_of_answer (Err error) = Err error

-- that of an offer, with the token of the offer
abbrev pub sdp_of_offer : Result (Option (SdpOffer × PendingOffer)) AllocError → Result (Option (Sdp × PendingOffer)) AllocError
sdp_of_offer (Ok None) = Ok None
sdp_of_offer (Ok (Some made)) = Ok (Some (made.0.0, made.1))
sdp_of_offer (Err error) = Err error
