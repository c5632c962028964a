use Rattle.std.proofs.Common.{refl}
use Rattle.rtc_parts.proofs.LaterLemmas.{later_join}
use Rattle.rtc_peer_core.specs.Meanings.{meanings}
use Rattle.rtc_peer_staging.specs.StagedNames.{given_name}
use Rattle.rtc_peer_staging.proofs.StagedMedia.{staged_stands, unstaged}
use Rattle.rtc_peer_staging.proofs.staging.stage_media.Goals as goal

pub returns : goal.returns
returns g c =
    staged_stands (meanings g.I.IceAgent.ice g.D.DtlsInstance.dtls g.S.Association.association g.M.MediaSession.media g.N.Ids.ids) c.args.peer.now
    (record { kind = c.args.kind; dir = c.args.dir; stream = given_name c.args.stream_id; track = given_name c.args.track_id; simulcast = c.args.simulcast })
    c.expect_look_up.new.self c.push_media.new.self c.draw_mid.new.ids c.make_media.new.ids c.in_ok-mid.mid c.in_ok-media.media
    c.expect_look_up.ensures c.in_ok-mid.ensures.mid c.in_ok-mid.ensures.free c.in_ok-mid.ensures.after c.in_ok-media.ensures.media c.in_ok-media.ensures.after c.in_ok-push_media.ensures.ok

pub returns-in_err-mid : goal.returns-in_err-mid
returns-in_err-mid g c =
    unstaged (meanings g.I.IceAgent.ice g.D.DtlsInstance.dtls g.S.Association.association g.M.MediaSession.media g.N.Ids.ids) c.args.peer.now
    (record { kind = c.args.kind; dir = c.args.dir; stream = given_name c.args.stream_id; track = given_name c.args.track_id; simulcast = c.args.simulcast })
    c.from_residual.result c.expect_look_up.new.self c.args.peer.now.staged c.draw_mid.new.ids c.from_residual.ensures.0 c.expect_look_up.ensures refl
    c.in_err-mid.ensures.later

pub returns-in_err-media : goal.returns-in_err-media
returns-in_err-media g c =
    unstaged (meanings g.I.IceAgent.ice g.D.DtlsInstance.dtls g.S.Association.association g.M.MediaSession.media g.N.Ids.ids) c.args.peer.now
    (record { kind = c.args.kind; dir = c.args.dir; stream = given_name c.args.stream_id; track = given_name c.args.track_id; simulcast = c.args.simulcast })
    c.from_residual-in_err-media.result c.expect_look_up.new.self c.args.peer.now.staged c.make_media.new.ids c.from_residual-in_err-media.ensures.0
    c.expect_look_up.ensures refl
    (later_join g.N.Ids.ids c.args.peer.now.ids c.draw_mid.new.ids c.make_media.new.ids c.in_ok-mid.ensures.later c.in_err-media.ensures.later)

pub returns-in_err-push_media : goal.returns-in_err-push_media
returns-in_err-push_media g c =
    unstaged (meanings g.I.IceAgent.ice g.D.DtlsInstance.dtls g.S.Association.association g.M.MediaSession.media g.N.Ids.ids) c.args.peer.now
    (record { kind = c.args.kind; dir = c.args.dir; stream = given_name c.args.stream_id; track = given_name c.args.track_id; simulcast = c.args.simulcast })
    c.from_residual-in_err-push_media.result c.expect_look_up.new.self c.push_media.new.self c.make_media.new.ids
    c.from_residual-in_err-push_media.ensures.0 c.expect_look_up.ensures c.in_err-push_media.ensures.err
    (later_join g.N.Ids.ids c.args.peer.now.ids c.draw_mid.new.ids c.make_media.new.ids c.in_ok-mid.ensures.later c.in_ok-media.ensures.later)
