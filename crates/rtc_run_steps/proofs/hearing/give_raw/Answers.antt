use Rattle.rtc_peer_core.specs.Meanings.{meanings}
use Rattle.rtc_peer_transport.specs.declared.input.Input.TheVariants as given
use Rattle.rtc_peer.specs.CachedPeer.{polled_of}
use Rattle.rtc_run_steps.proofs.PollsKeep.{channels_after_input}
use Rattle.rtc_run_steps.proofs.hearing.give_raw.Goals as goal

pub returns-in-Ok-clause-channels : goal.returns-in-Ok-clause-channels
returns-in-Ok-clause-channels g c = channels_after_input (meanings g.I.IceAgent.ice g.D.DtlsInstance.dtls g.S.Association.association g.M.MediaSession.media g.N.Ids.ids) (given.Receive c.args.now c.in-Ok.datagram) (polled_of c.args.rtc.now) c.handle_input.result (polled_of c.handle_input.new.self) c.handle_input.ensures
