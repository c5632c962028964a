use Rattle.rtc_sdp_attributes.proofs.FmtpLemmas.{fmtp_again, apt_again, red_again, fmtp_lacks}
use Rattle.rtc_sdp_attributes.proofs.media_laws.fmtps_read_back.Goals as goal

pub returns : goal.returns
returns c = record { again = fmtp_again; apt = apt_again; red = red_again; one_line = fmtp_lacks }
