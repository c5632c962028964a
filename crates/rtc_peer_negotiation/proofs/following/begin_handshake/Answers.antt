use Rattle.std.proofs.Common.{refl, Ok, Err}
use Rattle.rtc_parts.specs.declared.dtls_error.DtlsError.TheVariants.{Fault, Alloc}
use Rattle.rtc_peer_negotiation.proofs.FollowLemmas.{begins_handshake, begins_alone}
use Rattle.rtc_peer_negotiation.proofs.following.begin_handshake.Goals as goal

pub returns-in-Ok-clause-begins : goal.returns-in-Ok-clause-begins
returns-in-Ok-clause-begins g c =
    begins_handshake g.D.DtlsInstance.dtls c.args.dtls.now c.handle_receive.new.self (Ok tt) (Ok tt) c.requires c.in-Ok.ensures.taken refl

pub returns-in-Ok-clause-others : goal.returns-in-Ok-clause-others
returns-in-Ok-clause-others g c = begins_alone g.D.DtlsInstance.dtls c.args.dtls.now c.handle_receive.new.self (Ok tt) c.requires c.in-Ok.ensures.taken

pub returns-in-Err-Fault-clause-begins : goal.returns-in-Err-Fault-clause-begins
returns-in-Err-Fault-clause-begins g c =
    begins_handshake g.D.DtlsInstance.dtls c.args.dtls.now c.handle_receive.new.self (Err Fault) (Ok tt) c.requires (rw c.in-Err-Fault.field-0-is at c.in-Err-Fault.ensures.taken) refl

pub returns-in-Err-Fault-clause-others : goal.returns-in-Err-Fault-clause-others
returns-in-Err-Fault-clause-others g c = begins_alone g.D.DtlsInstance.dtls c.args.dtls.now c.handle_receive.new.self (Err Fault) c.requires (rw c.in-Err-Fault.field-0-is at c.in-Err-Fault.ensures.taken)

pub returns-in-Err-Alloc-clause-begins : goal.returns-in-Err-Alloc-clause-begins
returns-in-Err-Alloc-clause-begins g c =
    begins_handshake g.D.DtlsInstance.dtls c.args.dtls.now c.handle_receive.new.self (Err Alloc) (Err Alloc) c.requires (rw c.in-Err-Alloc.field-0-is at c.in-Err-Alloc.ensures.taken) refl

pub returns-in-Err-Alloc-clause-others : goal.returns-in-Err-Alloc-clause-others
returns-in-Err-Alloc-clause-others g c = begins_alone g.D.DtlsInstance.dtls c.args.dtls.now c.handle_receive.new.self (Err Alloc) c.requires (rw c.in-Err-Alloc.field-0-is at c.in-Err-Alloc.ensures.taken)
