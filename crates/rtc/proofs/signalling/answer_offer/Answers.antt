use Rattle.std.proofs.Common.{refl}
use Rattle.rtc.specs.Texts.{OfferRefused, OfferAnswered}
use Rattle.rtc.proofs.signalling.answer_offer.Goals as goal

pub returns-in-Ok-clause-answers : goal.returns-in-Ok-clause-answers
returns-in-Ok-clause-answers g c = OfferAnswered c.in-Ok.answer.0 c.in-Ok.ensures.accepts c.write_answer.ensures

pub returns-in-Err-clause-answers : goal.returns-in-Err-clause-answers
returns-in-Err-clause-answers g c = OfferRefused c.in-Err.error c.in-Err.ensures.accepts refl
