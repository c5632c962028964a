use Rattle.std.proofs.Common.{arith}
use Rattle.rtc_peer_core.specs.Meanings.{meanings}
use Rattle.rtc_peer.specs.CachedPeer.{polled_of}
use Rattle.rtc.proofs.Driven.{hands_none, hands_more, drain_waits, drain_fails, drain_goes_on}
use Rattle.rtc.proofs.driving.drain.Goals as goal

pub loop-turn-init : goal.loop-turn-init
loop-turn-init g c = hands_none (meanings g.I.IceAgent.ice g.D.DtlsInstance.dtls g.S.Association.association g.M.MediaSession.media g.N.Ids.ids) g.K.Sink.sink (polled_of c.args.peer.now) c.args.sink.now

pub loop-turn-preserved : goal.loop-turn-preserved
loop-turn-preserved g c = hands_more (meanings g.I.IceAgent.ice g.D.DtlsInstance.dtls g.S.Association.association g.M.MediaSession.media g.N.Ids.ids) g.K.Sink.sink c.loop-turn.turn (polled_of c.args.peer.now) c.args.sink.now (polled_of c.loop-turn.peer) c.loop-turn.sink (polled_of c.hand_next.new.peer) c.hand_next.new.sink c.loop-turn.invariant c.in-More.ensures

pub returns-in-Until : goal.returns-in-Until
returns-in-Until g c = drain_waits (meanings g.I.IceAgent.ice g.D.DtlsInstance.dtls g.S.Association.association g.M.MediaSession.media g.N.Ids.ids) g.K.Sink.sink c.args.now c.loop-turn.turn c.in-Until.moment (polled_of c.args.peer.now) c.args.sink.now (polled_of c.loop-turn.peer) c.loop-turn.sink (polled_of c.hand_next.new.peer) c.hand_next.new.sink c.loop-turn.invariant c.in-Until.ensures

pub returns-in-Failed : goal.returns-in-Failed
returns-in-Failed g c = drain_fails (meanings g.I.IceAgent.ice g.D.DtlsInstance.dtls g.S.Association.association g.M.MediaSession.media g.N.Ids.ids) g.K.Sink.sink c.args.now c.loop-turn.turn c.in-Failed.error (polled_of c.args.peer.now) c.args.sink.now (polled_of c.loop-turn.peer) c.loop-turn.sink (polled_of c.hand_next.new.peer) c.hand_next.new.sink c.loop-turn.invariant c.in-Failed.ensures

pub returns : goal.returns
returns g c = drain_goes_on (meanings g.I.IceAgent.ice g.D.DtlsInstance.dtls g.S.Association.association g.M.MediaSession.media g.N.Ids.ids) g.K.Sink.sink c.args.now c.loop-turn.turn (polled_of c.args.peer.now) c.args.sink.now (polled_of c.loop-turn.peer) c.loop-turn.sink c.loop-turn.invariant (omega (arith, c.loop-turn-test.false))
