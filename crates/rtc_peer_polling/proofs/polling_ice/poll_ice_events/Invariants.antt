use Rattle.std.proofs.Common.{ℕ}
use Rattle.rtc_peer_core.specs.Meanings.{meanings}
use Rattle.rtc_peer_polling.specs.IceStages.{PollsIceEvent}
use Rattle.rtc_peer_transport.specs.Stages.{StartsOver}
use Rattle.rtc_peer_polling.proofs.polling_ice.poll_ice_events.Given as goal

abbrev pub invariant-events : goal.invariant-events
invariant-events g l =
    (turns : ℕ) × StartsOver (PollsIceEvent (meanings g.I.IceAgent.ice g.D.DtlsInstance.dtls g.S.Association.association g.M.MediaSession.media g.N.Ids.ids)) turns l.fn.peer l.peer

abbrev pub decreases-events : goal.decreases-events
decreases-events g l = g.I.IceAgent.ice.held l.peer.core.ice
