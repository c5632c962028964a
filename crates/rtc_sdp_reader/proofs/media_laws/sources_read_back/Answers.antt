use Rattle.rtc_sdp_reader.proofs.SourceLaw.{sources_again}
use Rattle.rtc_sdp_reader.proofs.media_laws.sources_read_back.Goals as goal

pub returns : goal.returns
returns c = sources_again
