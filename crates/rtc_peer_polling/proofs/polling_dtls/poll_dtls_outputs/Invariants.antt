use Rattle.std.proofs.Common.{ℕ}
use Rattle.rtc_peer_core.specs.Meanings.{meanings}
use Rattle.rtc_peer_polling.specs.DtlsStages.{PollsDtlsOutput}
use Rattle.rtc_peer_transport.specs.Stages.{StartsOver}
use Rattle.rtc_peer_polling.proofs.polling_dtls.poll_dtls_outputs.Given as goal

abbrev pub invariant-outputs : goal.invariant-outputs
invariant-outputs g l =
    (turns : ℕ) × StartsOver (PollsDtlsOutput (meanings g.I.IceAgent.ice g.D.DtlsInstance.dtls g.S.Association.association g.M.MediaSession.media g.N.Ids.ids)) turns l.fn.peer l.peer

abbrev pub decreases-outputs : goal.decreases-outputs
decreases-outputs g l = g.D.DtlsInstance.dtls.held l.peer.core.dtls.instance
