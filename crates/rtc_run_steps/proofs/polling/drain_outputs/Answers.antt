use Rattle.std.proofs.Common.{rules, arith, ◌∙◌}
use Rattle.rtc_peer_core.specs.Meanings.{meanings}
use Rattle.rtc_peer.specs.CachedPeer.{polled_of}
use Rattle.rtc_run_steps.proofs.Drained.{left_first, left_same, count_more, some_more, drains_ended, drains_refused, drains_lacking}
use Rattle.rtc_run_steps.proofs.polling.drain_outputs.Goals as goal

pub loop-turn-init : goal.loop-turn-init
loop-turn-init g c =
    record {
      left = left_first (meanings g.I.IceAgent.ice g.D.DtlsInstance.dtls g.S.Association.association g.M.MediaSession.media g.N.Ids.ids) c.args.at (polled_of c.args.rtc.now) c.args.packets.now.items c.args.outputs.now.items c.requires.empty;
      count = search rules;
      output = search rules;
      packet = search rules;
      lines = search rules;
      channel = search rules;
      no_channels = search rules;
    }

pub loop-turn-preserved : goal.loop-turn-preserved
loop-turn-preserved g c =
    record {
      left = left_same (meanings g.I.IceAgent.ice g.D.DtlsInstance.dtls g.S.Association.association g.M.MediaSession.media g.N.Ids.ids) c.args.at (polled_of c.args.rtc.now) c.args.packets.now.items c.loop-turn.outputs.items c.take_turn.new.outputs.items c.make_room.new.outputs.items (polled_of c.loop-turn.rtc) (polled_of c.take_turn.new.rtc) c.loop-turn.packets.items c.take_turn.new.packets.items c.make_room.new.packets.items c.loop-turn.invariant.left c.in-More.ensures.takes c.make_room.ensures.outputs c.make_room.ensures.packets;
      count = count_more (meanings g.I.IceAgent.ice g.D.DtlsInstance.dtls g.S.Association.association g.M.MediaSession.media g.N.Ids.ids) c.args.at (polled_of c.loop-turn.rtc) c.loop-turn.packets.items c.loop-turn.outputs.items (polled_of c.take_turn.new.rtc) c.take_turn.new.packets.items c.take_turn.new.outputs.items c.make_room.new.outputs.items c.loop-turn.turn c.in-More.ensures.takes c.make_room.ensures.outputs c.loop-turn.invariant.count;
      output = search rules;
      packet = search rules;
      lines = c.in-More.ensures.lines ∙ c.loop-turn.invariant.lines;
      channel = search rules;
      no_channels = c.make_room.ensures.no_channels ∙ c.loop-turn.invariant.no_channels;
    }

pub returns-in-Over-clause-drains : goal.returns-in-Over-clause-drains
returns-in-Over-clause-drains g c = drains_ended (meanings g.I.IceAgent.ice g.D.DtlsInstance.dtls g.S.Association.association g.M.MediaSession.media g.N.Ids.ids) c.args.at (polled_of c.args.rtc.now) c.args.packets.now.items c.loop-turn.outputs.items c.take_turn.new.outputs.items (polled_of c.loop-turn.rtc) (polled_of c.take_turn.new.rtc) c.loop-turn.packets.items c.take_turn.new.packets.items c.loop-turn.invariant.left c.in-Over.ensures.takes

pub returns-in-Refused-clause-drains : goal.returns-in-Refused-clause-drains
returns-in-Refused-clause-drains g c = drains_refused (meanings g.I.IceAgent.ice g.D.DtlsInstance.dtls g.S.Association.association g.M.MediaSession.media g.N.Ids.ids) c.args.at (polled_of c.args.rtc.now) c.args.packets.now.items c.loop-turn.outputs.items c.take_turn.new.outputs.items (polled_of c.loop-turn.rtc) (polled_of c.take_turn.new.rtc) c.loop-turn.packets.items c.take_turn.new.packets.items c.in-Refused.error c.loop-turn.invariant.left c.in-Refused.ensures.takes

pub returns-then-is_err-clause-drains : goal.returns-then-is_err-clause-drains
returns-then-is_err-clause-drains g c =
    drains_lacking (meanings g.I.IceAgent.ice g.D.DtlsInstance.dtls g.S.Association.association g.M.MediaSession.media g.N.Ids.ids) c.args.at (polled_of c.args.rtc.now) c.args.packets.now.items c.make_room.new.outputs.items (polled_of c.take_turn.new.rtc) c.make_room.new.packets.items
    (left_same (meanings g.I.IceAgent.ice g.D.DtlsInstance.dtls g.S.Association.association g.M.MediaSession.media g.N.Ids.ids) c.args.at (polled_of c.args.rtc.now) c.args.packets.now.items c.loop-turn.outputs.items c.take_turn.new.outputs.items c.make_room.new.outputs.items (polled_of c.loop-turn.rtc) (polled_of c.take_turn.new.rtc) c.loop-turn.packets.items c.take_turn.new.packets.items c.make_room.new.packets.items c.loop-turn.invariant.left c.in-More.ensures.takes c.make_room.ensures.outputs c.make_room.ensures.packets)
    (some_more (meanings g.I.IceAgent.ice g.D.DtlsInstance.dtls g.S.Association.association g.M.MediaSession.media g.N.Ids.ids) c.args.at (polled_of c.loop-turn.rtc) c.loop-turn.packets.items c.loop-turn.outputs.items (polled_of c.take_turn.new.rtc) c.take_turn.new.packets.items c.take_turn.new.outputs.items c.make_room.new.outputs.items c.in-More.ensures.takes c.make_room.ensures.outputs)

pub returns-clause-drains : goal.returns-clause-drains
returns-clause-drains g c = drains_lacking (meanings g.I.IceAgent.ice g.D.DtlsInstance.dtls g.S.Association.association g.M.MediaSession.media g.N.Ids.ids) c.args.at (polled_of c.args.rtc.now) c.args.packets.now.items c.loop-turn.outputs.items (polled_of c.loop-turn.rtc) c.loop-turn.packets.items c.loop-turn.invariant.left (omega (arith, c.loop-turn.invariant.count, c.loop-turn-test.false))
