use Rattle.rtc_sdp_reader.proofs.FirstRefusedLaw.{refused_is_first, read_is_unrefused}
use Rattle.rtc_sdp_reader.proofs.laws.first_refused_line_is_told.Goals as goal

pub returns : goal.returns
returns c = record { refused = refused_is_first; read = read_is_unrefused }
