use Rattle.rtc_sctp_values.specs.InitChunk.{chunk_text}
use Rattle.rtc_sctp_values.proofs.sctp_init_data.encode.Goals as goal

pub returns : goal.returns
unfolding chunk_text
returns c = c.encode.ensures.text
