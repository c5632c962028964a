use Rattle.rtc_sdp_reader.proofs.LayerLaw.{simulcast_value_again}
use Rattle.rtc_sdp_reader.proofs.media_laws.layers_read_back.Goals as goal

pub returns : goal.returns
returns c = simulcast_value_again
