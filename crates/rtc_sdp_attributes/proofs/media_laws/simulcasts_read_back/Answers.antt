use Rattle.rtc_sdp_attributes.proofs.SimulcastLemmas.{simulcast_again, simulcast_lacks}
use Rattle.rtc_sdp_attributes.proofs.media_laws.simulcasts_read_back.Goals as goal

pub returns : goal.returns
returns c = record { again = simulcast_again; one_line = simulcast_lacks }
