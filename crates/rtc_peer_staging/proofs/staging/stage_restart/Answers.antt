use Rattle.std.proofs.Common.{refl}
use Rattle.rtc_parts.proofs.LaterLemmas.{later_once}
use Rattle.rtc_peer_core.specs.Meanings.{meanings}
use Rattle.rtc_peer_staging.proofs.StagedMedia.{restart_unstaged}
use Rattle.rtc_peer_staging.proofs.staging.stage_restart.Goals as goal

pub returns-in_err-creds : goal.returns-in_err-creds
returns-in_err-creds g c =
    restart_unstaged (meanings g.I.IceAgent.ice g.D.DtlsInstance.dtls g.S.Association.association g.M.MediaSession.media g.N.Ids.ids) c.args.peer.now
    c.args.keeps c.from_residual.result c.draw-n.new.self c.from_residual.ensures.0 c.draw-n.ensures.after

pub returns-in-Ok : goal.returns-in-Ok
returns-in-Ok g c = (rw c.draw-n.ensures.value at c.in_ok-creds.ensures, rw (c.in-Ok.ensures.ok, c.draw-n.ensures.after) refl)

pub returns-in-Err : goal.returns-in-Err
returns-in-Err g c = (rw c.draw-n.ensures.after (later_once g.N.Ids.ids c.args.peer.now.ids), rw c.in-Err.ensures.err refl)
