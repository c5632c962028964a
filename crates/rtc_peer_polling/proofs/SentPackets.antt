-- The first of some packets was sent, or refused, by what DTLS answered.
use Rattle.std.proofs.Common.{◌≡◌, ◌∷◌, inl, inr, ℕ, Bool, true, false, List, drop, Some, Result, Ok, Err, refl, sym, ap, subst, ◌∙◌}
use Rattle.rtc_parts.specs.declared.dtls_error.DtlsError.{DtlsError}
use Rattle.rtc_parts.specs.declared.dtls_error.DtlsError.TheVariants.{WouldBlock, Fault, Alloc as DtlsAlloc}
use Rattle.rtc_parts.specs.DtlsState.{DtlsState, SendsData, can_send}
use Rattle.rtc_peer_core.specs.declared.rtc_error.RtcError.TheVariants.{Dtls, Alloc}
use Rattle.rtc_peer_core.specs.Meanings.{Meanings}
use Rattle.rtc_peer_transport.specs.declared.met.Met.TheVariants.{Nothing, Again, Error}
use Rattle.rtc_peer_transport.specs.declared.polled_peer.PolledPeer.{PolledPeer}
use Rattle.rtc_peer_transport.specs.Closing.{is_phase_closing}
use Rattle.rtc_peer_transport.specs.Connection.{with_dtls, with_pushed, closed_peer}
use Rattle.rtc_peer_polling.specs.StreamStages.{SendsPacket, SendsFirst, left_over}

module _ {I D S M E X T W N : Type 0} (m : Meanings I D S M E X T W N) where
  -- what DTLS answered to a packet
  abbrev pub Answers : List ℕ → PolledPeer I D S M N → Result (Unit {0}) DtlsError → DtlsState D → Type 0
  Answers packet p r dtls = SendsData m.dtls p.core.dtls (can_send m.dtls p.core.dtls) packet r dtls

  -- the packets behind the first come back
  abbrev pub rest_back : List (List ℕ) → DtlsState D → PolledPeer I D S M N → PolledPeer I D S M N
  rest_back packets dtls p = with_pushed (left_over (drop 1 packets)) (with_dtls dtls p)

  same_dtls : (packets : List (List ℕ)) (dtls : DtlsState D) (p q : PolledPeer I D S M N) → q ≡ rest_back packets dtls p → q.core.dtls ≡ dtls
  same_dtls packets dtls p q is = ap (λ (x : PolledPeer I D S M N). x.core.dtls) is

  leaves : (packets : List (List ℕ)) (dtls : DtlsState D) (p q : PolledPeer I D S M N) → q ≡ rest_back packets dtls p
      → q ≡ with_dtls q.core.dtls (with_pushed (left_over (drop 1 packets)) p)
  leaves packets dtls p q is =
      is ∙ ap (λ (d : DtlsState D). with_dtls d (with_pushed (left_over (drop 1 packets)) p)) (sym (same_dtls packets dtls p q is))

  answered : (packet : List ℕ) (packets : List (List ℕ)) (r : Result (Unit {0}) DtlsError) (dtls : DtlsState D) (p q : PolledPeer I D S M N)
      → q ≡ rest_back packets dtls p → Answers packet p r dtls → Answers packet p r q.core.dtls
  answered packet packets r dtls p q is h = subst (λ (d : DtlsState D). Answers packet p r d) (sym (same_dtls packets dtls p q is)) h

  pub first_sent : (packet : List ℕ) (packets : List (List ℕ)) (dtls : DtlsState D) (p q : PolledPeer I D S M N) → packets ≡ packet ∷ drop 1 packets
      → Answers packet p (Ok tt) dtls → q ≡ rest_back packets dtls p → SendsFirst m (Some packets) p Again q
  unfolding SendsPacket
  first_sent packet packets dtls p q e h is =
      subst (λ (l : List (List ℕ)). SendsFirst m (Some l) p Again q) (sym e)
      (leaves packets dtls p q is, inl (answered packet packets (Ok tt) dtls p q is h))

  pub first_dropped : (packet : List ℕ) (packets : List (List ℕ)) (dtls : DtlsState D) (p q : PolledPeer I D S M N) → packets ≡ packet ∷ drop 1 packets
      → Answers packet p (Err Fault) dtls → q ≡ rest_back packets dtls p → is_phase_closing q.core.phase ≡ true → SendsFirst m (Some packets) p Again q
  unfolding SendsPacket
  first_dropped packet packets dtls p q e h is closing =
      let phase : is_phase_closing p.core.phase ≡ true = ap (λ (x : PolledPeer I D S M N). is_phase_closing x.core.phase) (sym is) ∙ closing in
      subst (λ (l : List (List ℕ)). SendsFirst m (Some l) p Again q) (sym e)
      (leaves packets dtls p q is, inr (phase, answered packet packets (Err Fault) dtls p q is h))

  pub first_refused : (packet : List ℕ) (packets : List (List ℕ)) (dtls : DtlsState D) (p q : PolledPeer I D S M N) → packets ≡ packet ∷ drop 1 packets
      → Answers packet p (Err Fault) dtls → q ≡ rest_back packets dtls p → is_phase_closing q.core.phase ≡ false
      → SendsFirst m (Some packets) p (Error (Dtls Fault)) q
  unfolding SendsPacket
  first_refused packet packets dtls p q e h is closing =
      let phase : is_phase_closing p.core.phase ≡ false = ap (λ (x : PolledPeer I D S M N). is_phase_closing x.core.phase) (sym is) ∙ closing in
      subst (λ (l : List (List ℕ)). SendsFirst m (Some l) p (Error (Dtls Fault)) q) (sym e)
      (refl, phase, answered packet packets (Err Fault) dtls p q is h, leaves packets dtls p q is)

  pub first_lacks : (packet : List ℕ) (packets : List (List ℕ)) (dtls : DtlsState D) (p q : PolledPeer I D S M N) → packets ≡ packet ∷ drop 1 packets
      → Answers packet p (Err DtlsAlloc) dtls → q ≡ rest_back packets dtls p → SendsFirst m (Some packets) p (Error Alloc) (closed_peer q)
  unfolding SendsPacket
  first_lacks packet packets dtls p q e h is =
      subst (λ (l : List (List ℕ)). SendsFirst m (Some l) p (Error Alloc) (closed_peer q)) (sym e)
      (answered packet packets (Err DtlsAlloc) dtls p q is h, ap (λ (x : PolledPeer I D S M N). closed_peer x) (leaves packets dtls p q is))

  pub first_waits : (packet : List ℕ) (packets : List (List ℕ)) (p q : PolledPeer I D S M N) → packets ≡ packet ∷ drop 1 packets
      → can_send m.dtls p.core.dtls ≡ false → q ≡ with_pushed (Some packets) p → SendsFirst m (Some packets) p Nothing q
  unfolding SendsPacket
  first_waits packet packets p q e waits is =
      subst (λ (l : List (List ℕ)). SendsFirst m (Some l) p Nothing q) (sym e)
      (waits, is ∙ ap (λ (l : List (List ℕ)). with_pushed (Some l) p) e)

  -- where no data can go, the connection is as it was
  pub blocked_same : (can : Bool) (packet : List ℕ) (d e : DtlsState D) → can ≡ false → SendsData m.dtls d can packet (Err WouldBlock) e → e ≡ d
  blocked_same true packet d e cannot h = cc (cannot)
  blocked_same false packet d e cannot h = h.1
