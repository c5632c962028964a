use Rattle.std.proofs.Common.{refl, Ok, Err, true, false}
use Rattle.rtc_peer_negotiation.proofs.FollowLemmas.{takes_role, role_stays}
use Rattle.rtc_peer_negotiation.proofs.following.take_role.Goals as goal

pub begin_handshake-requires : goal.begin_handshake-requires
begin_handshake-requires g c =
    role_stays g.D.DtlsInstance.dtls c.args.dtls.now c.set_active.new.self c.handle_timeout.new.self true c.args.now (Ok tt) c.requires
    (rw c.if-not-active.false at c.set_active.ensures) (rw c.in-Ok.is at c.handle_timeout.ensures.timed)

pub returns-in-Err-clause-role : goal.returns-in-Err-clause-role
returns-in-Err-clause-role g c =
    takes_role g.D.DtlsInstance.dtls c.args.dtls.now c.set_active.new.self c.handle_timeout.new.self c.handle_timeout.new.self c.args.active c.args.now
    (Err c.in-Err.error) (Err c.in-Err.error) c.requires c.set_active.ensures (rw c.in-Err.is at c.handle_timeout.ensures.timed) (refl, refl) refl

pub returns-then-not-active-clause-role : goal.returns-then-not-active-clause-role
returns-then-not-active-clause-role g c =
    rw c.if-not-active.true
    (takes_role g.D.DtlsInstance.dtls c.args.dtls.now c.set_active.new.self c.handle_timeout.new.self c.handle_timeout.new.self false c.args.now (Ok tt) (Ok tt) c.requires
    (rw c.if-not-active.true at c.set_active.ensures) (rw c.in-Ok.is at c.handle_timeout.ensures.timed) (refl, refl) refl)

pub returns-in-Ok-begin_handshake-clause-role : goal.returns-in-Ok-begin_handshake-clause-role
returns-in-Ok-begin_handshake-clause-role g c =
    rw c.if-not-active.false
    (takes_role g.D.DtlsInstance.dtls c.args.dtls.now c.set_active.new.self c.handle_timeout.new.self c.begin_handshake.new.dtls true c.args.now (Ok tt) (Ok tt) c.requires
    (rw c.if-not-active.false at c.set_active.ensures) (rw c.in-Ok.is at c.handle_timeout.ensures.timed) c.in-Ok-begin_handshake.ensures.begins c.begin_handshake.ensures.others)

pub returns-in-Err-begin_handshake-clause-role : goal.returns-in-Err-begin_handshake-clause-role
returns-in-Err-begin_handshake-clause-role g c =
    rw c.if-not-active.false
    (takes_role g.D.DtlsInstance.dtls c.args.dtls.now c.set_active.new.self c.handle_timeout.new.self c.begin_handshake.new.dtls true c.args.now (Ok tt)
    (Err c.in-Err-begin_handshake.error) c.requires
    (rw c.if-not-active.false at c.set_active.ensures) (rw c.in-Ok.is at c.handle_timeout.ensures.timed) c.in-Err-begin_handshake.ensures.begins c.begin_handshake.ensures.others)
