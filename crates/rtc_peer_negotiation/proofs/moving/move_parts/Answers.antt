use Rattle.std.proofs.Common.{refl}
use Rattle.rtc_peer_core.specs.PartMoves.{AtAgent}
use Rattle.rtc_peer_negotiation.proofs.MoveLemmas.{sctp_fails}
use Rattle.rtc_peer_negotiation.proofs.moving.move_parts.Goals as goal

pub returns-in-Err : goal.returns-in-Err
returns-in-Err g c = AtAgent c.in-Err.ensures.err refl refl

pub returns-in-Err-start_sctp : goal.returns-in-Err-start_sctp
returns-in-Err-start_sctp g c =
    let role = rw (c.role_for.ensures, c.setup-2.ensures) at c.in-Ok-start_dtls.ensures.starts in
    let fails = rw (c.role_after-client.ensures, c.is_active.ensures, c.setup.ensures) at c.in-Err-start_sctp.ensures in
    rw c.from.ensures (sctp_fails g.I.IceAgent.ice g.D.DtlsInstance.dtls g.S.Association.association c.args.ice.now c.follow.new.ice c.args.dtls.now c.start_dtls.new.dtls c.args.sctp.now c.start_sctp.new.sctp
    c.args.following c.args.starting c.args.sdp.now c.args.rows.now c.args.now c.in-Err-start_sctp.error c.requires c.in-Ok.ensures.ok role fails)
