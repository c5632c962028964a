use Rattle.rtc_peer_core.specs.Meanings.{meanings}
use Rattle.rtc.proofs.FittingWrites.{channel_write_fits}
use Rattle.rtc.proofs.fitting.taken_messages_fit.Goals as goal

pub returns : goal.returns
returns g c = record {
  fits = λ p q stream binary bytes ascend some h.
      channel_write_fits (meanings g.I.IceAgent.ice g.D.DtlsInstance.dtls g.S.Association.association g.M.MediaSession.media g.N.Ids.ids)
      g.met.S.Association.laws p q stream binary bytes ascend some h;
}
