use Rattle.rtc_sdp_attributes.proofs.SsrcLemmas.{ssrc_name_again, ssrc_msid_none, ssrc_pair_again}
use Rattle.rtc_sdp_attributes.proofs.media_laws.ssrcs_read_back.Goals as goal

pub returns : goal.returns
returns c = record { name = ssrc_name_again; stream = ssrc_msid_none; pair = ssrc_pair_again }
