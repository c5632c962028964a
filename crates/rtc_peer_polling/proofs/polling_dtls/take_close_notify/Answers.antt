use Rattle.std.proofs.Common.{ap}
use Rattle.rtc_peer_transport.specs.declared.handshake.Handshake.{Handshake}
use Rattle.rtc_peer_polling.specs.DtlsStages.{TakesCloseNotify, with_handshake}
use Rattle.rtc_peer_polling.proofs.polling_dtls.take_close_notify.Goals as goal

pub returns-in-Ok : goal.returns-in-Ok
unfolding TakesCloseNotify
returns-in-Ok g c = (c.close.new.self, c.in-Ok.ensures, ap (λ (h : Handshake). with_handshake h c.close.new.self) c.silence-peer.ensures)
