-- What a poll sends of the packets of the association over the DTLS connection.
use Rattle.std.proofs.Common.{◌≡◌, ◌++◌, ◌∷◌, ◌⊎◌, inl, inr, ℕ, Bool, true, false, List, [], Option, Some, None, Ok, Err, refl, sym, ap, subst, ◌∙◌}
use Rattle.rtc_parts.specs.Among.{Member, Among}
use Rattle.rtc_parts.proofs.AmongLemmas.{member-append, member-right, among_none, among_self}
use Rattle.rtc_parts.specs.declared.dtls_error.DtlsError.{DtlsError}
use Rattle.rtc_parts.specs.declared.dtls_error.DtlsError.TheVariants.{Fault, Alloc as DtlsAlloc}
use Rattle.rtc_parts.specs.DtlsActs.{DtlsAct, DtlsMoved, Sent, Stirred, SendRefused, dtls_moved-one}
use Rattle.rtc_parts.specs.DtlsState.{DtlsState, SendsData, can_send}
use Rattle.rtc_parts.specs.DtlsWords.{dtls_given, dtls_taken, dtls_sent, dtls_got}
use Rattle.rtc_sctp.specs.Streams.{SctpStreams}
use Rattle.rtc_sctp_laws.specs.StreamMessages.{pushed_packets}
use Rattle.rtc_peer_core.specs.declared.rtc_error.RtcError.TheVariants.{Dtls, Alloc}
use Rattle.rtc_peer_core.specs.Meanings.{Meanings, PartsLaws}
use Rattle.rtc_peer_transport.specs.declared.met.Met.{Met}
use Rattle.rtc_peer_transport.specs.declared.met.Met.TheVariants.{Nothing, Again, Error}
use Rattle.rtc_peer_transport.specs.declared.polled_peer.PolledPeer.{PolledPeer}
use Rattle.rtc_peer_transport.specs.Closing.{is_phase_closing}
use Rattle.rtc_peer_transport.specs.Connection.{with_pushed}
use Rattle.rtc_peer_polling.specs.StreamStages.{SendsPacket, SendsFirst, left_over}
use Rattle.rtc_peer_laws.specs.PeerActs.{peer_acts, nothing_came, dtls_moments, dtls_roles, roles_after}
use Rattle.rtc_peer_laws.specs.Acts.{PeerDid}
use Rattle.rtc_peer_laws.proofs.StreamsJoin.{answer_met, TellsNoOpening, states_by}
use Rattle.rtc_peer_laws.proofs.VisitActs.{contents_met, MeetsData, KeepsRows, VisitDid, visit_is, plain_visit, still_visit}

pushed_is_left : (packets : List (List ℕ)) → pushed_packets (left_over packets) ≡ packets
pushed_is_left [] = refl
pushed_is_left (packet ∷ packets) = refl

module _ {I D S M E X T W N : Type 0} (m : Meanings I D S M E X T W N) (laws : PartsLaws m) where
  -- what sending a packet did to the connection
  record SentActs (packet : List ℕ) (d e : DtlsState D) : Type 0 where
    acts : List DtlsAct
    went : DtlsMoved m.dtls d.instance acts e.instance
    sent : Among (dtls_sent acts) (packet ∷ [])
    given : dtls_given acts ≡ []
    taken : dtls_taken acts ≡ []
    got : dtls_got acts ≡ []
    timed : dtls_moments acts ≡ []
    packets : e.packets ≡ d.packets
    role : e.active ≡ roles_after d.active (dtls_roles acts)

  data_went : (can : Bool) (packet : List ℕ) (d e : DtlsState D) → SendsData m.dtls d can packet (Ok tt) e → SentActs packet d e
  data_went true packet d e h = record {
    acts = Sent packet ∷ [];
    went = dtls_moved-one m.dtls d.instance e.instance (Sent packet) h.0;
    sent = among_self (packet ∷ []);
    given = refl;
    taken = refl;
    got = refl;
    timed = refl;
    packets = ap (λ (x : DtlsState D). x.packets) h.1;
    role = ap (λ (x : DtlsState D). x.active) h.1;
  }
  data_went false packet d e h = cc (h.0)

  data_refused : (can : Bool) (packet : List ℕ) (cause : DtlsError) (d e : DtlsState D) → SendsData m.dtls d can packet (Err cause) e → SentActs packet d e
  data_refused true packet cause d e h = record {
    acts = Stirred (SendRefused packet cause) ∷ [];
    went = dtls_moved-one m.dtls d.instance e.instance (Stirred (SendRefused packet cause)) h.0;
    sent = among_none (packet ∷ []);
    given = refl;
    taken = refl;
    got = refl;
    timed = refl;
    packets = ap (λ (x : DtlsState D). x.packets) h.1;
    role = ap (λ (x : DtlsState D). x.active) h.1;
  }
  data_refused false packet cause d e h = record {
    acts = [];
    went = ap (λ (x : DtlsState D). x.instance) h.1;
    sent = among_none (packet ∷ []);
    given = refl;
    taken = refl;
    got = refl;
    timed = refl;
    packets = ap (λ (x : DtlsState D). x.packets) h.1;
    role = ap (λ (x : DtlsState D). x.active) h.1;
  }

  nil_among : {A : Type 0} (l k : List A) → l ≡ [] → Among l k
  nil_among {A} l k is = subst (λ (x : List A). Among x k) (sym is) (among_none k)

  -- the first of the packets that stood to be sent was sent or refused, and the others stand
  sent_did : (packet : List ℕ) (rest : List (List ℕ)) (p q : PolledPeer I D S M N) → SentActs packet p.core.dtls q.core.dtls
      → p.core.sctp.pushed ≡ Some (packet ∷ rest) → q.core.sctp ≡ record p.core.sctp { pushed = left_over rest } → q.core.ice ≡ p.core.ice
      → q.core.media ≡ p.core.media → PeerDid m nothing_came (p.core.greatest ∷ []) [] [] [] p q
  sent_did packet rest p q sent stood same ice media = record {
    acts = peer_acts [] sent.acts [] [];
    went = record { ice = ice; dtls = sent.went; association = ap (λ (x : SctpStreams S). x.association) same; media = media };
    given_ice = among_none [];
    given_dtls = nil_among (dtls_given sent.acts) [] sent.given;
    given_media = among_none [];
    timed_ice = among_none (p.core.greatest ∷ []);
    timed_dtls = nil_among (dtls_moments sent.acts) (p.core.greatest ∷ []) sent.timed;
    timed_media = among_none (p.core.greatest ∷ []);
    role = sent.role;
    sent =
        subst (λ (l : List (List ℕ)). Among l ((dtls_taken sent.acts ++ []) ++ p.core.dtls.packets)) (sym sent.packets)
        (record { each = λ x n. member-right x (dtls_taken sent.acts ++ []) p.core.dtls.packets n });
    handed = among_none (dtls_got sent.acts);
    all_handed = λ started. sym sent.got;
    relayed = record {
      each = λ x n. subst (λ (o : Option (List (List ℕ))). Member x (pushed_packets o)) (sym stood)
          (elim (member-append x (dtls_sent sent.acts) rest
          (subst (λ (l : List (List ℕ)). Member x (dtls_sent sent.acts ++ l)) (ap (λ (y : SctpStreams S). pushed_packets y.pushed) same ∙ pushed_is_left rest) n)) [
            | inl k ↦ first x (sent.sent.each x k)
            | inr k ↦ inr k
          ]);
    };
    wrote_is = refl;
    heard_is = refl;
    named = λ n. tt;
  }
    where
      first : (x : List ℕ) → Member x (packet ∷ []) → Member x (packet ∷ rest)
      first x (inl e) = inl e
      first x (inr h) = absurd h

  -- with the packets taken out before
  first_visit : (r : Met E) (packet : List ℕ) (rest : List (List ℕ)) (p n q : PolledPeer I D S M N) → contents_met r ≡ [] → MeetsData r q.core.channels []
      → SentActs packet n.core.dtls q.core.dtls → n ≡ with_pushed None p → p.core.sctp.pushed ≡ Some (packet ∷ rest)
      → q.core.sctp ≡ record n.core.sctp { pushed = left_over rest } → q.core.ice ≡ n.core.ice → q.core.media ≡ n.core.media
      → q.core.greatest ≡ n.core.greatest → KeepsRows r p.core.channels q.core.channels → q.core.channels ≡ n.core.channels
      → TellsNoOpening (answer_met r) → VisitDid m p r q
  first_visit r packet rest p n q none shows sent is stood same ice media greatest rows held unopened =
      plain_visit m r p q
      (subst (λ (l : List (List ℕ)). PeerDid m nothing_came (p.core.greatest ∷ []) l [] [] p q) (sym none)
      (sent_did packet rest p q (subst (λ (x : PolledPeer I D S M N). SentActs packet x.core.dtls q.core.dtls) is sent) stood
      (same ∙ ap (λ (x : PolledPeer I D S M N). record x.core.sctp { pushed = left_over rest }) is) (ice ∙ ap (λ (x : PolledPeer I D S M N). x.core.ice) is)
      (media ∙ ap (λ (x : PolledPeer I D S M N). x.core.media) is))) shows (greatest ∙ ap (λ (x : PolledPeer I D S M N). x.core.greatest) is) rows
      (ap (λ (s : SctpStreams S). s.entries) same ∙ ap (λ (x : PolledPeer I D S M N). x.core.sctp.entries) is, held ∙ ap (λ (x : PolledPeer I D S M N). x.core.channels) is, states_by m.association p.core.sctp (record p.core.sctp { pushed = left_over rest }) q.core.sctp (same ∙ ap (λ (x : PolledPeer I D S M N). record x.core.sctp { pushed = left_over rest }) is) refl refl refl) unopened

  sent_or : (packet : List ℕ) (p q : PolledPeer I D S M N)
      → SendsData m.dtls p.core.dtls (can_send m.dtls p.core.dtls) packet (Ok tt) q.core.dtls
      ⊎ ((is_phase_closing p.core.phase ≡ true) × SendsData m.dtls p.core.dtls (can_send m.dtls p.core.dtls) packet (Err Fault) q.core.dtls)
      → SentActs packet p.core.dtls q.core.dtls
  sent_or packet p q (inl h) = data_went (can_send m.dtls p.core.dtls) packet p.core.dtls q.core.dtls h
  sent_or packet p q (inr h) = data_refused (can_send m.dtls p.core.dtls) packet Fault p.core.dtls q.core.dtls h.1

  pub sends_visit : (packets : Option (List (List ℕ))) (p n : PolledPeer I D S M N) (r : Met E) (q : PolledPeer I D S M N) → n ≡ with_pushed None p
      → p.core.sctp.pushed ≡ packets → SendsFirst m packets n r q → VisitDid m p r q
  unfolding SendsPacket
  sends_visit None p n r q is stood h =
      still_visit m Nothing r p (with_pushed None p) q h.0 (h.1 ∙ is) (refl, λ held. refl, tt)
      ((refl, refl, refl, ap (λ (o : Option (List (List ℕ))). record p.core.sctp { pushed = o }) (sym stood), refl), refl, refl)
  sends_visit (Some []) p n r q is stood h =
      subst (λ (y : PolledPeer I D S M N). VisitDid m p r y) (sym (h.1 ∙ is))
      (visit_is m Again r p (with_pushed None p) h.0
      (plain_visit m Again p (with_pushed None p)
      (record {
        acts = peer_acts [] [] [] [];
        went = record { ice = refl; dtls = refl; association = refl; media = refl };
        given_ice = among_none [];
        given_dtls = among_none [];
        given_media = among_none [];
        timed_ice = among_none (p.core.greatest ∷ []);
        timed_dtls = among_none (p.core.greatest ∷ []);
        timed_media = among_none (p.core.greatest ∷ []);
        role = refl;
        sent = among_self p.core.dtls.packets;
        handed = among_none [];
        all_handed = λ started. refl;
        relayed = among_none (pushed_packets p.core.sctp.pushed);
        wrote_is = refl;
        heard_is = refl;
        named = λ n. tt;
      }) refl refl refl (refl, refl, states_by m.association p.core.sctp (with_pushed None p).core.sctp (with_pushed None p).core.sctp refl refl refl refl) tt))
  sends_visit (Some (packet ∷ rest)) p n Nothing q is stood h =
      still_visit m Nothing Nothing p (with_pushed (Some (packet ∷ rest)) p) q refl
      (h.1 ∙ ap (λ (x : PolledPeer I D S M N). with_pushed (Some (packet ∷ rest)) x) is) (refl, λ held. refl, tt)
      ((refl, refl, refl, ap (λ (o : Option (List (List ℕ))). record p.core.sctp { pushed = o }) (sym stood), refl), refl, refl)
  sends_visit (Some (packet ∷ rest)) p n Again q is stood h =
      first_visit Again packet rest p n q refl refl (sent_or packet n q h.1) is stood (ap (λ (x : PolledPeer I D S M N). x.core.sctp) h.0)
      (ap (λ (x : PolledPeer I D S M N). x.core.ice) h.0) (ap (λ (x : PolledPeer I D S M N). x.core.media) h.0)
      (ap (λ (x : PolledPeer I D S M N). x.core.greatest) h.0)
      (ap (λ (x : PolledPeer I D S M N). x.core.channels.rows) h.0 ∙ ap (λ (x : PolledPeer I D S M N). x.core.channels.rows) is)
      (ap (λ (x : PolledPeer I D S M N). x.core.channels) h.0) tt
  sends_visit (Some (packet ∷ rest)) p n (Error (Dtls cause)) q is stood h =
      first_visit (Error (Dtls cause)) packet rest p n q refl refl (data_refused (can_send m.dtls n.core.dtls) packet Fault n.core.dtls q.core.dtls h.2) is stood
      (ap (λ (x : PolledPeer I D S M N). x.core.sctp) h.3) (ap (λ (x : PolledPeer I D S M N). x.core.ice) h.3)
      (ap (λ (x : PolledPeer I D S M N). x.core.media) h.3) (ap (λ (x : PolledPeer I D S M N). x.core.greatest) h.3) tt
      (ap (λ (x : PolledPeer I D S M N). x.core.channels) h.3) tt
  sends_visit (Some (packet ∷ rest)) p n (Error Alloc) q is stood h =
      first_visit (Error Alloc) packet rest p n q refl refl (data_refused (can_send m.dtls n.core.dtls) packet DtlsAlloc n.core.dtls q.core.dtls h.0) is stood
      (ap (λ (x : PolledPeer I D S M N). x.core.sctp) h.1) (ap (λ (x : PolledPeer I D S M N). x.core.ice) h.1)
      (ap (λ (x : PolledPeer I D S M N). x.core.media) h.1) (ap (λ (x : PolledPeer I D S M N). x.core.greatest) h.1) tt
      (ap (λ (x : PolledPeer I D S M N). x.core.channels) h.1) tt
  sends_visit (Some (packet ∷ rest)) p n _ q is stood h = absurd h
