use Rattle.rtc_peer_core.specs.Meanings.{meanings}
use Rattle.rtc_peer_polling.proofs.QuietVisits.{visited_quiet}
use Rattle.rtc_peer_polling.proofs.resting.visits_rest.Goals as goal

pub returns : goal.returns
returns g c = λ p q reason h.
    visited_quiet (meanings g.I.IceAgent.ice g.D.DtlsInstance.dtls g.S.Association.association g.M.MediaSession.media g.N.Ids.ids)
    (record {
      ice = g.met.I.IceAgent.laws;
      dtls = g.met.D.DtlsInstance.laws;
      association = g.met.S.Association.laws;
      media = g.met.M.MediaSession.laws;
    })
    p q reason h
