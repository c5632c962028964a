use Rattle.std.proofs.Common.{refl}
use Rattle.rtc_peer_core.specs.Meanings.{meanings}
use Rattle.rtc_peer_polling.specs.Walk.{VisitsParts}
use Rattle.rtc_peer_transport.proofs.StageLemmas.{over_more, repeats_end}
use Rattle.rtc_peer_polling.proofs.Visits.{again_drains, visits_fall}
use Rattle.rtc_peer_polling.proofs.walking.walk.Goals as goal

pub returns-in_default : goal.returns-in_default
returns-in_default g c = repeats_end _ _ _ _ _ (0, refl) c.visit_parts.ensures c.in_default.not-Again

pub visits-init : goal.visits-init
visits-init g c = record {
  over = over_more (VisitsParts (meanings g.I.IceAgent.ice g.D.DtlsInstance.dtls g.S.Association.association g.M.MediaSession.media g.N.Ids.ids)) _ _ _ (0, refl) c.in-Again.ensures;
  drained = again_drains (meanings g.I.IceAgent.ice g.D.DtlsInstance.dtls g.S.Association.association g.M.MediaSession.media g.N.Ids.ids) g.met.D.DtlsInstance.laws g.met.S.Association.laws _ _ c.in-Again.ensures;
}

pub visits-preserved : goal.visits-preserved
visits-preserved g c = record {
  over = over_more (VisitsParts (meanings g.I.IceAgent.ice g.D.DtlsInstance.dtls g.S.Association.association g.M.MediaSession.media g.N.Ids.ids)) _ _ _ c.visits.invariant.over c.in-Again-visit_parts.ensures;
  drained = again_drains (meanings g.I.IceAgent.ice g.D.DtlsInstance.dtls g.S.Association.association g.M.MediaSession.media g.N.Ids.ids) g.met.D.DtlsInstance.laws g.met.S.Association.laws _ _ c.in-Again-visit_parts.ensures;
}

pub visits-smaller : goal.visits-smaller
visits-smaller g c = visits_fall (meanings g.I.IceAgent.ice g.D.DtlsInstance.dtls g.S.Association.association g.M.MediaSession.media g.N.Ids.ids) g.met.D.DtlsInstance.laws g.met.S.Association.laws _ _ c.visits.invariant.drained c.in-Again-visit_parts.ensures

pub returns-in_default-visit_parts : goal.returns-in_default-visit_parts
returns-in_default-visit_parts g c = repeats_end _ _ _ _ _ c.visits.invariant.over c.visit_parts-in-visits.ensures c.in_default-visit_parts.not-Again
