use Rattle.std.proofs.Common.{ℕ}
use Rattle.rtc_peer_core.specs.Meanings.{meanings}
use Rattle.rtc_sctp.specs.Polls.{streams_work}
use Rattle.rtc_peer_polling.specs.StreamStages.{PollsStreamEvent}
use Rattle.rtc_peer_transport.specs.Stages.{StartsOver}
use Rattle.rtc_peer_polling.proofs.polling_streams.poll_stream_events.Given as goal

abbrev pub invariant-events : goal.invariant-events
invariant-events g l =
    (turns : ℕ) × StartsOver (PollsStreamEvent (meanings g.I.IceAgent.ice g.D.DtlsInstance.dtls g.S.Association.association g.M.MediaSession.media g.N.Ids.ids)) turns l.fn.peer l.peer

abbrev pub decreases-events : goal.decreases-events
decreases-events g l = streams_work g.S.Association.association l.peer.core.sctp
