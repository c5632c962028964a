use Rattle.rtc_sdp_reader.proofs.PayloadLaw.{payload_rows_again}
use Rattle.rtc_sdp_reader.proofs.media_laws.payload_rows_read_back.Goals as goal

pub returns : goal.returns
returns c = payload_rows_again
