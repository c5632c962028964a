use Rattle.rtc_peer_core.specs.Meanings.{meanings}
use Rattle.rtc_peer.specs.CachedPeer.{polled_of}
use Rattle.rtc.proofs.Driven.{HandsSoFar}
use Rattle.rtc.proofs.driving.drain.Given as goal

-- the sink took an output in each turn so far
abbrev pub invariant-loop-turn : goal.invariant-loop-turn
invariant-loop-turn g l = HandsSoFar (meanings g.I.IceAgent.ice g.D.DtlsInstance.dtls g.S.Association.association g.M.MediaSession.media g.N.Ids.ids) g.K.Sink.sink l.turn (polled_of l.fn.peer) l.fn.sink (polled_of l.peer) l.sink
