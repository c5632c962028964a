use Rattle.rtc_run_laws.proofs.TakenTexts.{runs_take_texts}
use Rattle.rtc_peer_core.specs.Meanings.{meanings}
use Rattle.rtc_run_laws.proofs.taken.accepted_texts_are_taken.Goals as goal

pub returns : goal.returns
returns g c =
    runs_take_texts (meanings g.I.IceAgent.ice g.D.DtlsInstance.dtls g.S.Association.association g.M.MediaSession.media g.N.Ids.ids) g.I.StunReader.stun
