use Rattle.rtc_sdp_attributes.proofs.RtpmapLemmas.{rtpmap_again, rtpmap_lacks}
use Rattle.rtc_sdp_attributes.proofs.media_laws.rtpmaps_read_back.Goals as goal

pub returns : goal.returns
returns c = record { again = rtpmap_again; one_line = rtpmap_lacks }
