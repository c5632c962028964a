use Rattle.rtc_peer_core.proofs.SessionOffers.{lines_apart}
use Rattle.rtc_peer_sdp.proofs.extension_laws.added_lines_repeat_no_number.Goals as goal

pub returns : goal.returns
returns c = lines_apart
