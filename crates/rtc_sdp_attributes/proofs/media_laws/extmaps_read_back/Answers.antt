use Rattle.rtc_sdp_attributes.proofs.ExtmapLemmas.{extmap_again, extmap_lacks}
use Rattle.rtc_sdp_attributes.proofs.media_laws.extmaps_read_back.Goals as goal

pub returns : goal.returns
returns c = record { again = extmap_again; one_line = extmap_lacks }
