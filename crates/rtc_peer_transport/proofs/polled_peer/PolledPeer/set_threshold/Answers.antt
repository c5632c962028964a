use Rattle.std.proofs.Common.{◌∙◌, sym}
use Rattle.rtc_peer_transport.proofs.OpenStreams.{open_has_entry}
use Rattle.rtc_peer_transport.proofs.polled_peer.PolledPeer.set_threshold.Goals as goal

pub set_buffered_amount_low_threshold-requires : goal.set_buffered_amount_low_threshold-requires
set_buffered_amount_low_threshold-requires g c = open_has_entry c.args.stream c.args.self.now.core.sctp (sym c.is_open.ensures ∙ c.if-is_open.true)
