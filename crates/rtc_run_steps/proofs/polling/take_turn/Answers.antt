use Rattle.rtc_peer_core.specs.Meanings.{meanings}
use Rattle.rtc_peer.specs.CachedPeer.{polled_of}
use Rattle.rtc_run_steps.proofs.Drained.{turn_shown}
use Rattle.rtc_run_steps.proofs.PollsKeep.{channels_after_poll}
use Rattle.rtc_run_steps.proofs.polling.take_turn.Goals as goal

pub returns-in-Ok-clause-takes : goal.returns-in-Ok-clause-takes
returns-in-Ok-clause-takes g c =
    turn_shown (meanings g.I.IceAgent.ice g.D.DtlsInstance.dtls g.S.Association.association g.M.MediaSession.media g.N.Ids.ids) c.args.at (polled_of c.args.rtc.now) c.args.packets.now.items c.args.outputs.now.items c.in-Ok.output c.last_timeout_reason-reason.result c.show_output-shown.result (polled_of c.poll_output.new.self) c.show_output-shown.new.packets.items c.put_output.new.outputs.items c.put_output.result c.in-Ok.ensures.polls c.last_timeout_reason-reason.ensures c.show_output-shown.ensures.shows c.put_output.ensures.put c.put_output.ensures.turn

pub returns-in-Ok-clause-channels : goal.returns-in-Ok-clause-channels
returns-in-Ok-clause-channels g c = channels_after_poll (meanings g.I.IceAgent.ice g.D.DtlsInstance.dtls g.S.Association.association g.M.MediaSession.media g.N.Ids.ids) (polled_of c.args.rtc.now) c.poll_output.result (polled_of c.poll_output.new.self) c.poll_output.ensures.polls

pub returns-in-Err-clause-channels : goal.returns-in-Err-clause-channels
returns-in-Err-clause-channels g c = channels_after_poll (meanings g.I.IceAgent.ice g.D.DtlsInstance.dtls g.S.Association.association g.M.MediaSession.media g.N.Ids.ids) (polled_of c.args.rtc.now) c.poll_output.result (polled_of c.poll_output.new.self) c.poll_output.ensures.polls
