use Rattle.std.proofs.Common.{Err, refl, ap}
use Rattle.rtc_peer_core.specs.declared.rtc_error.RtcError.{RtcError}
use Rattle.rtc.specs.Texts.{OfferUnread, OfferRead}
use Rattle.rtc.proofs.signalling.accept_offer_text.Goals as goal

pub returns-in-Ok-clause-accepts : goal.returns-in-Ok-clause-accepts
returns-in-Ok-clause-accepts g c = OfferRead c.in-Ok.offer.0 c.in-Ok.ensures c.answer_offer.ensures.answers

pub returns-in-Err-clause-accepts : goal.returns-in-Err-clause-accepts
returns-in-Err-clause-accepts g c = OfferUnread (record { cause = c.in-Err.error; by_reading = c.in-Err.ensures; error = ap (λ (error : RtcError). Err error) c.from.ensures; peer = refl })
