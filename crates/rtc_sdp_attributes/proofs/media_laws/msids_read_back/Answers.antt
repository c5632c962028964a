use Rattle.rtc_sdp_attributes.proofs.MsidLemmas.{msid_again, msid_lacks}
use Rattle.rtc_sdp_attributes.proofs.media_laws.msids_read_back.Goals as goal

pub returns : goal.returns
returns c = record { again = msid_again; one_line = msid_lacks }
