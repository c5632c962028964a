use Rattle.rtc_peer_core.specs.Meanings.{meanings}
use Rattle.rtc_peer_laws.proofs.RowLemmas.{offers_leave_rows, answers_leave_rows}
use Rattle.rtc_peer_laws.proofs.rows.named_rows_are_media_lines.Goals as goal

pub returns-clause-offers : goal.returns-clause-offers
returns-clause-offers g c =
    offers_leave_rows
    (meanings g.I.IceAgent.ice g.D.DtlsInstance.dtls g.S.Association.association g.M.MediaSession.media g.N.Ids.ids) g.met.M.MediaSession.laws

pub returns-clause-answers : goal.returns-clause-answers
returns-clause-answers g c =
    answers_leave_rows
    (meanings g.I.IceAgent.ice g.D.DtlsInstance.dtls g.S.Association.association g.M.MediaSession.media g.N.Ids.ids) g.met.M.MediaSession.laws
