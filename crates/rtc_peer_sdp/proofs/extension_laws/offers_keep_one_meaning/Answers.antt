use Rattle.rtc_peer_core.proofs.SessionOffers.{offer_meaning}
use Rattle.rtc_peer_sdp.proofs.extension_laws.offers_keep_one_meaning.Goals as goal

pub returns : goal.returns
returns c = offer_meaning
