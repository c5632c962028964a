use Rattle.rtc_sdp_attributes.proofs.RidLemmas.{rid_again}
use Rattle.rtc_sdp_attributes.proofs.media_laws.rids_read_back.Goals as goal

pub returns : goal.returns
returns c = rid_again
