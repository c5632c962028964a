-- What the readers of offers and answers give.
use Rattle.std.specs.Prelude.{ℕ, Result, Ok, Err}
use Rattle.rtc_sdp_values.specs.declared.sdp.Sdp.{Sdp}
use Rattle.rtc_sdp_values.specs.declared.sdp_error.SdpError.{SdpError}
use Rattle.rtc_sdp_reader.specs.Reading.{ReadsSdp}
use Rattle.rtc_lines.specs.declared.sdp_offer.SdpOffer.{SdpOffer}
use Rattle.rtc_lines.specs.declared.sdp_answer.SdpAnswer.{SdpAnswer}

-- the offer is the reading of the text, or the error is the number of its first refused line; any call that allocates may return `Alloc`
abbrev pub ReadsOffer : Result SdpOffer SdpError → Result Sdp ℕ → Type 0
ReadsOffer (Ok offer) read = ReadsSdp (Ok offer.0) read
ReadsOffer (Err error) read = ReadsSdp (Err error) read

-- the same of an answer
abbrev pub ReadsAnswer : Result SdpAnswer SdpError → Result Sdp ℕ → Type 0
ReadsAnswer (Ok answer) read = ReadsSdp (Ok answer.0) read
ReadsAnswer (Err error) read = ReadsSdp (Err error) read
