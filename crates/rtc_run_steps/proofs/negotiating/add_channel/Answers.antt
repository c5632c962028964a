use Rattle.std.proofs.Common.{refl, ◌∙◌}
use Rattle.rtc_run_steps.proofs.Ops.{channel_once, channel_refused, channel_uncopied}
use Rattle.rtc_peer_core.specs.Meanings.{meanings}
use Rattle.rtc_run_steps.proofs.negotiating.add_channel.Goals as goal

pub returns-in_default-clause-performs : goal.returns-in_default-clause-performs
returns-in_default-clause-performs g c = channel_uncopied (meanings g.I.IceAgent.ice g.D.DtlsInstance.dtls g.S.Association.association g.M.MediaSession.media g.N.Ids.ids) c.args.api.now.rtc.now.core c.args.api.now.rtc.now.core c.args.config.now refl

pub returns-in-Ok-add_channel_with_config-clause-performs : goal.returns-in-Ok-add_channel_with_config-clause-performs
returns-in-Ok-add_channel_with_config-clause-performs g c =
    channel_once (meanings g.I.IceAgent.ice g.D.DtlsInstance.dtls g.S.Association.association g.M.MediaSession.media g.N.Ids.ids) c.args.api.now.rtc.now.core c.add_channel_with_config.new.self.rtc.now.core c.args.config.now c.in-Ok.config c.in-Ok-add_channel_with_config.id c.in-Ok.ensures c.in-Ok-add_channel_with_config.ensures.adds

pub returns-in-Err-clause-performs : goal.returns-in-Err-clause-performs
returns-in-Err-clause-performs g c =
    channel_refused (meanings g.I.IceAgent.ice g.D.DtlsInstance.dtls g.S.Association.association g.M.MediaSession.media g.N.Ids.ids) c.args.api.now.rtc.now.core c.add_channel_with_config.new.self.rtc.now.core c.args.config.now c.in-Ok.config c.in-Err.error c.release.result c.in-Ok.ensures c.in-Err.ensures.adds (c.release.ensures ∙ c.answer_refusal-answer.ensures)
