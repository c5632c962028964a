use Rattle.std.proofs.Common.{◌≡◌, ℕ}
use Rattle.rtc_peer_core.specs.Meanings.{meanings}
use Rattle.rtc_peer_polling.specs.Walk.{VisitsParts}
use Rattle.rtc_peer_transport.specs.Stages.{StartsOver}
use Rattle.rtc_peer_polling.proofs.DrainedInput.{input_left}
use Rattle.rtc_peer_polling.proofs.Visits.{visits_left}
use Rattle.rtc_peer_polling.proofs.walking.walk.Given as goal

abbrev pub invariant-visits : goal.invariant-visits
invariant-visits g l = record {
  over : (turns : ℕ) × StartsOver (VisitsParts (meanings g.I.IceAgent.ice g.D.DtlsInstance.dtls g.S.Association.association g.M.MediaSession.media g.N.Ids.ids)) turns l.fn.peer l.peer;
  drained : input_left (meanings g.I.IceAgent.ice g.D.DtlsInstance.dtls g.S.Association.association g.M.MediaSession.media g.N.Ids.ids) l.peer ≡ 0;
}

abbrev pub decreases-visits : goal.decreases-visits
decreases-visits g l = visits_left (meanings g.I.IceAgent.ice g.D.DtlsInstance.dtls g.S.Association.association g.M.MediaSession.media g.N.Ids.ids) l.peer
