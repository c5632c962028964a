use Rattle.std.proofs.Common.{refl}
use Rattle.rtc_peer_core.specs.Meanings.{meanings}
use Rattle.rtc_peer.specs.CachedPeer.{polled_of}
use Rattle.rtc.specs.Drives.{PollFails}
use Rattle.rtc.proofs.Driven.{hands_next}
use Rattle.rtc.proofs.driving.hand_next.Goals as goal

pub returns-in-Ok : goal.returns-in-Ok
returns-in-Ok g c = hands_next (meanings g.I.IceAgent.ice g.D.DtlsInstance.dtls g.S.Association.association g.M.MediaSession.media g.N.Ids.ids) g.K.Sink.sink (polled_of c.args.peer.now) c.args.sink.now c.in-Ok.output c.hand.result (polled_of c.poll_output.new.self) c.hand.new.sink c.in-Ok.ensures.polls c.hand.ensures

pub returns-in-Err : goal.returns-in-Err
returns-in-Err g c = PollFails c.in-Err.ensures.polls refl
