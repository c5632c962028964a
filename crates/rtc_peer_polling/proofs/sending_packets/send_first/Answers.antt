use Rattle.std.proofs.Common.{◌∙◌, ℕ, List, Some, Ok, Err, sym, ap, subst, slice_get}
use Rattle.rtc_parts.specs.declared.dtls_error.DtlsError.{DtlsError}
use Rattle.rtc_parts.specs.declared.dtls_error.DtlsError.TheVariants.{Fault, Alloc as DtlsAlloc}
use Rattle.rtc_parts.specs.DtlsState.{DtlsState, SendsData, can_send}
use Rattle.rtc_peer_core.specs.Meanings.{meanings}
use Rattle.rtc_sctp.specs.Streams.{SctpStreams}
use Rattle.rtc_peer_transport.specs.Connection.{with_dtls, with_pushed, with_sctp}
use Rattle.rtc_peer_polling.proofs.SentPackets.{Answers, first_sent, first_dropped, first_refused, first_lacks, first_waits, blocked_same}
use Rattle.rtc_peer_polling.proofs.ShortPackets.{first_and_rest}
use Rattle.rtc_peer_polling.proofs.sending_packets.send_first.Goals as goal

pub returns-in-Ok : goal.returns-in-Ok
returns-in-Ok g c =
    first_sent (meanings g.I.IceAgent.ice g.D.DtlsInstance.dtls g.S.Association.association g.M.MediaSession.media g.N.Ids.ids) c.in-Some.packet.now c.args.packets.items c.handle_input.new.self c.args.peer.now (with_sctp c.keep_rest.new.sctp (with_dtls c.handle_input.new.self c.args.peer.now))
    (first_and_rest c.args.packets.items c.in-Some.packet.now (sym (ap (λ (l : List (List ℕ)). slice_get l 0) c.deref.ensures.value) ∙ sym c.in-Some.ensures.value))
    (subst (λ (b : List ℕ). Answers (meanings g.I.IceAgent.ice g.D.DtlsInstance.dtls g.S.Association.association g.M.MediaSession.media g.N.Ids.ids) b c.args.peer.now (Ok tt) c.handle_input.new.self) c.as_slice.ensures c.in-Ok.ensures.sent)
    (ap (λ (s : SctpStreams g.row.S.Denot). with_sctp s (with_dtls c.handle_input.new.self c.args.peer.now)) c.keep_rest.ensures)

pub returns-in-Err-WouldBlock : goal.returns-in-Err-WouldBlock
returns-in-Err-WouldBlock g c =
    let blocked = c.handle_input.ensures.blocked.0 (c.in-Err-WouldBlock.is ∙ ap (λ (e : DtlsError). Err e) c.in-Err-WouldBlock.field-0-is) in
    let sent = subst (λ (e : DtlsError). SendsData g.D.DtlsInstance.dtls c.args.peer.now.core.dtls (can_send g.D.DtlsInstance.dtls c.args.peer.now.core.dtls) c.as_slice.result.now (Err e) c.handle_input.new.self) c.in-Err-WouldBlock.field-0-is c.in-Err-WouldBlock.ensures.sent in
    let same = blocked_same (meanings g.I.IceAgent.ice g.D.DtlsInstance.dtls g.S.Association.association g.M.MediaSession.media g.N.Ids.ids) _ _ _ _ blocked sent in
    first_waits (meanings g.I.IceAgent.ice g.D.DtlsInstance.dtls g.S.Association.association g.M.MediaSession.media g.N.Ids.ids) c.in-Some.packet.now c.args.packets.items c.args.peer.now _
    (first_and_rest c.args.packets.items c.in-Some.packet.now (sym (ap (λ (l : List (List ℕ)). slice_get l 0) c.deref.ensures.value) ∙ sym c.in-Some.ensures.value))
    blocked
    (rw (c.push_back_transmit.ensures, c.new.ensures) (ap (λ (d : DtlsState g.row.D.Denot). with_pushed (Some c.args.packets.items) (with_dtls d c.args.peer.now)) same))

pub returns-then-is_closing : goal.returns-then-is_closing
returns-then-is_closing g c =
    first_dropped (meanings g.I.IceAgent.ice g.D.DtlsInstance.dtls g.S.Association.association g.M.MediaSession.media g.N.Ids.ids) c.in-Some.packet.now c.args.packets.items c.handle_input.new.self c.args.peer.now (with_sctp c.keep_rest-in-Err-Fault.new.sctp (with_dtls c.handle_input.new.self c.args.peer.now))
    (first_and_rest c.args.packets.items c.in-Some.packet.now (sym (ap (λ (l : List (List ℕ)). slice_get l 0) c.deref.ensures.value) ∙ sym c.in-Some.ensures.value))
    (subst (λ (b : List ℕ). Answers (meanings g.I.IceAgent.ice g.D.DtlsInstance.dtls g.S.Association.association g.M.MediaSession.media g.N.Ids.ids) b c.args.peer.now (Err Fault) c.handle_input.new.self) c.as_slice.ensures
    (subst (λ (e : DtlsError). Answers (meanings g.I.IceAgent.ice g.D.DtlsInstance.dtls g.S.Association.association g.M.MediaSession.media g.N.Ids.ids) c.as_slice.result.now c.args.peer.now (Err e) c.handle_input.new.self) c.in-Err-Fault.field-0-is c.in-Err-Fault.ensures.sent))
    (ap (λ (s : SctpStreams g.row.S.Denot). with_sctp s (with_dtls c.handle_input.new.self c.args.peer.now)) c.keep_rest-in-Err-Fault.ensures) (sym c.is_closing.ensures ∙ c.if-is_closing.true)

pub returns-else-is_closing : goal.returns-else-is_closing
returns-else-is_closing g c =
    first_refused (meanings g.I.IceAgent.ice g.D.DtlsInstance.dtls g.S.Association.association g.M.MediaSession.media g.N.Ids.ids) c.in-Some.packet.now c.args.packets.items c.handle_input.new.self c.args.peer.now (with_sctp c.keep_rest-in-Err-Fault.new.sctp (with_dtls c.handle_input.new.self c.args.peer.now))
    (first_and_rest c.args.packets.items c.in-Some.packet.now (sym (ap (λ (l : List (List ℕ)). slice_get l 0) c.deref.ensures.value) ∙ sym c.in-Some.ensures.value))
    (subst (λ (b : List ℕ). Answers (meanings g.I.IceAgent.ice g.D.DtlsInstance.dtls g.S.Association.association g.M.MediaSession.media g.N.Ids.ids) b c.args.peer.now (Err Fault) c.handle_input.new.self) c.as_slice.ensures
    (subst (λ (e : DtlsError). Answers (meanings g.I.IceAgent.ice g.D.DtlsInstance.dtls g.S.Association.association g.M.MediaSession.media g.N.Ids.ids) c.as_slice.result.now c.args.peer.now (Err e) c.handle_input.new.self) c.in-Err-Fault.field-0-is c.in-Err-Fault.ensures.sent))
    (ap (λ (s : SctpStreams g.row.S.Denot). with_sctp s (with_dtls c.handle_input.new.self c.args.peer.now)) c.keep_rest-in-Err-Fault.ensures) (sym c.is_closing.ensures ∙ c.if-is_closing.false)

pub returns-in-Err-Alloc : goal.returns-in-Err-Alloc
returns-in-Err-Alloc g c =
    rw (c.close_out_of_memory.ensures.told, c.close_out_of_memory.ensures.closed)
    (first_lacks (meanings g.I.IceAgent.ice g.D.DtlsInstance.dtls g.S.Association.association g.M.MediaSession.media g.N.Ids.ids) c.in-Some.packet.now c.args.packets.items c.handle_input.new.self c.args.peer.now (with_sctp c.keep_rest-in-Err-Alloc.new.sctp (with_dtls c.handle_input.new.self c.args.peer.now))
    (first_and_rest c.args.packets.items c.in-Some.packet.now (sym (ap (λ (l : List (List ℕ)). slice_get l 0) c.deref.ensures.value) ∙ sym c.in-Some.ensures.value))
    (subst (λ (b : List ℕ). Answers (meanings g.I.IceAgent.ice g.D.DtlsInstance.dtls g.S.Association.association g.M.MediaSession.media g.N.Ids.ids) b c.args.peer.now (Err DtlsAlloc) c.handle_input.new.self) c.as_slice.ensures
    (subst (λ (e : DtlsError). Answers (meanings g.I.IceAgent.ice g.D.DtlsInstance.dtls g.S.Association.association g.M.MediaSession.media g.N.Ids.ids) c.as_slice.result.now c.args.peer.now (Err e) c.handle_input.new.self) c.in-Err-Alloc.field-0-is c.in-Err-Alloc.ensures.sent))
    (ap (λ (s : SctpStreams g.row.S.Denot). with_sctp s (with_dtls c.handle_input.new.self c.args.peer.now)) c.keep_rest-in-Err-Alloc.ensures))
