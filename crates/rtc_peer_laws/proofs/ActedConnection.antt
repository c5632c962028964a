-- What a poll does to the DTLS part, and what it hands the association.
use Rattle.std.proofs.Common.{◌≡◌, ◌++◌, ◌∷◌, inl, inr, ℕ, Bool, true, false, List, [], Option, Some, None, Result, Ok, Err, alloc_error, append-nil, refl, sym, ap, subst, ◌∙◌}
use Rattle.std.specs.declared.alloc.AllocError.{AllocError}
use Rattle.rtc_parts.specs.Among.{Member, Among}
use Rattle.rtc_parts.proofs.AmongLemmas.{member-append, member-left, member-right, among_none, among_self}
use Rattle.rtc_parts.specs.AssociationWords.{given, taken}
use Rattle.rtc_parts.specs.declared.dtls_output.DtlsOutput.{DtlsOutput}
use Rattle.rtc_parts.specs.declared.dtls_output.DtlsOutput.TheVariants as outputs
use Rattle.rtc_parts.specs.DtlsActs.{DtlsAct, DtlsCall, DtlsMoved, Got, Stirred, Showed, dtls_moved-append, dtls_moved-one}
use Rattle.rtc_parts.specs.DtlsDrawn.{DrewConnected, DrewKeying, DrewCert, DrewClose}
use Rattle.rtc_parts.specs.DtlsState.{DtlsState, PollsOutput}
use Rattle.rtc_parts.specs.DtlsWords.{dtls_given, dtls_taken, dtls_sent, dtls_got, takes}
use Rattle.rtc_parts.proofs.DtlsLemmas.{dtls_given-append, dtls_taken-append, dtls_sent-append, dtls_got-append}
use Rattle.rtc_sctp_laws.specs.StreamActs.{CallDid, given_packet}
use Rattle.rtc_sctp_laws.specs.StreamMessages.{pushed_packets}
use Rattle.rtc_sctp_laws.proofs.CallActs.{input_did}
use Rattle.rtc_peer_core.specs.declared.rtc_error.RtcError.TheVariants.{Alloc}
use Rattle.rtc_peer_core.specs.Meanings.{Meanings, PartsLaws}
use Rattle.rtc_peer_transport.specs.declared.event.Event.TheVariants as told
use Rattle.rtc_peer_transport.specs.declared.handshake.Handshake.{Handshake}
use Rattle.rtc_peer_transport.specs.declared.handshake.Handshake.TheVariants.{Pending, Finished, Told}
use Rattle.rtc_peer_transport.specs.declared.met.Met.{Met}
use Rattle.rtc_peer_transport.specs.declared.met.Met.TheVariants.{Nothing, Again, Event as MetEvent, Error}
use Rattle.rtc_peer_transport.specs.declared.polled_peer.PolledPeer.{PolledPeer}
use Rattle.rtc_peer_transport.specs.Connection.{with_dtls}
use Rattle.rtc_peer_polling.specs.DtlsStages.{TimesDtls, TakesDtlsOutput, TakesDtlsAnswer, PollsDtlsOutput}
use Rattle.rtc_peer_polling.specs.DtlsStages.{PollsDtlsOutputs, HandsPacket, TellsConnectedFrom, is_dtls_due}
use Rattle.rtc_peer_polling.specs.IceStages.{PollsIceEvent, PollsIceEvents}
use Rattle.rtc_peer_polling.specs.Walk.{TellsConnection}
use Rattle.rtc_peer_laws.specs.PeerActs.{peer_acts, nothing_came, dtls_moments, dtls_roles, queue_and_role, roles_after}
use Rattle.rtc_peer_laws.specs.Acts.{PeerDid}
use Rattle.rtc_peer_laws.proofs.ActWords.{dtls_moments-append, dtls_roles-append}
use Rattle.rtc_peer_laws.proofs.ActJoins.{dtls_did, still_did}
use Rattle.rtc_peer_laws.proofs.ActedClosing.{beside, BesideDtls, BesideStreams}
use Rattle.rtc_peer_laws.proofs.VisitActs.{VisitDid, QuietDid, quiet_nothing, plain_visit, still_visit}
use Rattle.rtc_peer_laws.proofs.VisitActs.{visit_on, StageActs, else_acts, repeats_acts}
use Rattle.rtc_sctp_laws.proofs.LiveCalls.{input_entries}
use Rattle.rtc_peer_laws.proofs.StreamsJoin.{dtls_kept, input_states}
use Rattle.rtc_peer_laws.proofs.ActedTransport.{shows_again, shows_nothing, shows_error, ice_event, times_act, keys_act, cert_acts, close_notify}

-- acts by which packets were taken give, send and get nothing, and hand no moment
given_of : (packets : List (List ℕ)) → dtls_given (takes packets) ≡ []
given_of [] = refl
given_of (packet ∷ packets) = given_of packets

taken_of : (packets : List (List ℕ)) → dtls_taken (takes packets) ≡ packets
taken_of [] = refl
taken_of (packet ∷ packets) = ap (λ l. packet ∷ l) (taken_of packets)

sent_of : (packets : List (List ℕ)) → dtls_sent (takes packets) ≡ []
sent_of [] = refl
sent_of (packet ∷ packets) = sent_of packets

got_of : (packets : List (List ℕ)) → dtls_got (takes packets) ≡ []
got_of [] = refl
got_of (packet ∷ packets) = got_of packets

roles_of : (packets : List (List ℕ)) → dtls_roles (takes packets) ≡ []
roles_of [] = refl
roles_of (packet ∷ packets) = roles_of packets

moments_of : (packets : List (List ℕ)) → dtls_moments (takes packets) ≡ []
moments_of [] = refl
moments_of (packet ∷ packets) = moments_of packets

among_nil : (l k : List (List ℕ)) → l ≡ [] → Among l k
among_nil l k is = subst (λ (x : List (List ℕ)). Among x k) (sym is) (among_none k)

no_moment : (l k : List ℕ) → l ≡ [] → Among l k
no_moment l k is = subst (λ (x : List ℕ). Among x k) (sym is) (among_none k)

given_among : (started : Bool) (bytes : List ℕ) → Among (given_packet started bytes) (bytes ∷ [])
given_among true bytes = among_self (bytes ∷ [])
given_among false bytes = among_none (bytes ∷ [])

given_all : (started : Bool) (bytes : List ℕ) → started ≡ true → given_packet started bytes ≡ bytes ∷ []
given_all true bytes is = refl
given_all false bytes is = cc (is)

-- an output by which the association is given nothing
abbrev IsPlain : DtlsOutput → Type 0
IsPlain outputs.Connected = Unit {0}
IsPlain (outputs.KeyingMaterial key profile) = Unit {0}
IsPlain (outputs.PeerCert cert) = Unit {0}
IsPlain (outputs.ApplicationData bytes) = ⊥
IsPlain (outputs.Timeout moment) = Unit {0}
IsPlain outputs.CloseNotify = Unit {0}

-- what stands behind packets that were taken
queued : (rest queue packets taken : List (List ℕ)) → rest ≡ queue ++ packets → taken ≡ packets → Among rest (taken ++ queue)
queued rest queue packets taken is same = record {
  each = λ x h. elim (member-append x queue packets (subst (λ (l : List (List ℕ)). Member x l) is h)) [
    | inl n ↦ member-right x taken queue n
    | inr n ↦ member-left x taken queue (subst (λ (l : List (List ℕ)). Member x l) (sym same) n)
  ];
}

module _ {I D S M E X T W N : Type 0} (m : Meanings I D S M E X T W N) (laws : PartsLaws m) where
  -- packets up to an output, and the output
  output_did : (acts : List DtlsAct) (packets : List (List ℕ)) (k : D) (p q : PolledPeer I D S M N) → DtlsMoved m.dtls p.core.dtls.instance (takes packets) k
      → DtlsMoved m.dtls k acts q.core.dtls.instance → dtls_given acts ≡ [] → dtls_taken acts ≡ [] → dtls_sent acts ≡ [] → dtls_got acts ≡ []
      → dtls_moments acts ≡ [] → dtls_roles acts ≡ [] → q.core.dtls.packets ≡ p.core.dtls.packets ++ packets
      → q.core.dtls.active ≡ p.core.dtls.active → BesideDtls p q → PeerDid m nothing_came (p.core.greatest ∷ []) [] [] [] p q
  output_did acts packets k p q went more given taken sent got timed roles queue role beside =
      dtls_did m nothing_came (p.core.greatest ∷ []) p q (takes packets ++ acts)
      (dtls_moved-append m.dtls p.core.dtls.instance k q.core.dtls.instance (takes packets) acts went more)
      (among_nil (dtls_given (takes packets ++ acts)) [] (dtls_given-append (takes packets) acts ∙ ap (λ l. l ++ dtls_given acts) (given_of packets) ∙ given))
      (no_moment (dtls_moments (takes packets ++ acts)) (p.core.greatest ∷ [])
      (dtls_moments-append (takes packets) acts ∙ ap (λ l. l ++ dtls_moments acts) (moments_of packets) ∙ timed))
      (dtls_sent-append (takes packets) acts ∙ ap (λ l. l ++ dtls_sent acts) (sent_of packets) ∙ sent)
      (dtls_got-append (takes packets) acts ∙ ap (λ l. l ++ dtls_got acts) (got_of packets) ∙ got)
      (queued q.core.dtls.packets p.core.dtls.packets packets (dtls_taken (takes packets ++ acts)) queue
      (dtls_taken-append (takes packets) acts ∙ ap (λ l. dtls_taken (takes packets) ++ l) taken ∙ append-nil (dtls_taken (takes packets)) ∙ taken_of packets))
      (role ∙ ap (roles_after p.core.dtls.active) (sym (dtls_roles-append (takes packets) acts ∙ ap (λ l. l ++ dtls_roles acts) (roles_of packets) ∙ roles)))
      beside.0 beside.1 beside.2

  quiet_of : (p q : PolledPeer I D S M N) → PeerDid m nothing_came (p.core.greatest ∷ []) [] [] [] p q → BesideDtls p q → QuietDid m p q
  quiet_of p q did kept = quiet_nothing m p q (plain_visit m Nothing p q did refl kept.3 (ap (λ held. held.rows) kept.4) (dtls_kept m.association p q kept) tt)

  -- an output that tells something, or a moment
  told_did : (call : DtlsCall) (output : DtlsOutput) (d : DtlsState D) (p : PolledPeer I D S M N) (packets : List (List ℕ)) (k : D)
      → DtlsMoved m.dtls p.core.dtls.instance (takes packets) k → DtlsMoved m.dtls k (Stirred call ∷ []) d.instance
      → dtls_moments (Stirred call ∷ []) ≡ [] → dtls_roles (Stirred call ∷ []) ≡ [] → d.packets ≡ p.core.dtls.packets ++ packets → d.active ≡ p.core.dtls.active → QuietDid m p (with_dtls d p)
  told_did call output d p packets k went more timed roles queue role =
      quiet_of p (with_dtls d p)
      (output_did (Stirred call ∷ []) packets k p (with_dtls d p) went more refl refl refl refl timed roles queue role (refl, refl, refl, refl, refl))
      (refl, refl, refl, refl, refl)

  drained : (output : DtlsOutput) (active : Option Bool) (d : DtlsState D) (p : PolledPeer I D S M N) → PollsOutput m.dtls p.core.dtls active (Ok output) d
      → IsPlain output → QuietDid m p (with_dtls d p)
  drained output None d p h plain =
      quiet_of p (with_dtls d p)
      (still_did m nothing_came (p.core.greatest ∷ []) p (with_dtls d p)
      (refl, ap (λ (x : DtlsState D). x.instance) h.1, ap queue_and_role h.1, refl, refl)) (refl, refl, refl, refl, refl)
  drained outputs.Connected (Some active) d p h plain =
      let x = h.0 in
      told_did (Showed DrewConnected) outputs.Connected d p x.0 x.1.0 x.1.1.0
      (dtls_moved-one m.dtls x.1.0 d.instance (Stirred (Showed DrewConnected)) (refl, x.1.1.1)) refl refl x.1.1.2 (ap (λ (y : DtlsState D). y.active) h.1)
  drained (outputs.KeyingMaterial key profile) (Some active) d p h plain =
      let x = h.0 in
      told_did (Showed (DrewKeying key.now profile)) (outputs.KeyingMaterial key profile) d p x.0 x.1.0 x.1.1.0
      (dtls_moved-one m.dtls x.1.0 d.instance (Stirred (Showed (DrewKeying key.now profile))) (refl, x.1.1.1)) refl refl x.1.1.2 (ap (λ (y : DtlsState D). y.active) h.1)
  drained (outputs.PeerCert cert) (Some active) d p h plain =
      let x = h.0 in
      told_did (Showed (DrewCert cert.now)) (outputs.PeerCert cert) d p x.0 x.1.0 x.1.1.0
      (dtls_moved-one m.dtls x.1.0 d.instance (Stirred (Showed (DrewCert cert.now))) (refl, x.1.1.1)) refl refl x.1.1.2 (ap (λ (y : DtlsState D). y.active) h.1)
  drained (outputs.ApplicationData bytes) (Some active) d p h plain = absurd plain
  drained outputs.CloseNotify (Some active) d p h plain =
      let x = h.0 in
      told_did (Showed DrewClose) outputs.CloseNotify d p x.0 x.1.0 x.1.1.0
      (dtls_moved-one m.dtls x.1.0 d.instance (Stirred (Showed DrewClose)) (refl, x.1.1.1)) refl refl x.1.1.2 (ap (λ (y : DtlsState D). y.active) h.1)
  drained (outputs.Timeout moment) (Some active) d p h plain =
      let x = h.0 in
      quiet_of p (with_dtls d p)
      (output_did [] x.0 x.1.0 p (with_dtls d p) x.1.1.0 (laws.dtls.timeout_none x.1.0 d.instance moment x.1.1.1) refl refl refl refl refl refl x.1.1.2 (ap (λ (y : DtlsState D). y.active) h.1)
      (refl, refl, refl, refl, refl)) (refl, refl, refl, refl, refl)

  -- memory lacked for a packet, which is lost
  lost : (active : Option Bool) (e : AllocError) (d : DtlsState D) (p : PolledPeer I D S M N) → PollsOutput m.dtls p.core.dtls active (Err e) d
      → QuietDid m p (with_dtls d p)
  lost None e d p h =
      quiet_of p (with_dtls d p)
      (still_did m nothing_came (p.core.greatest ∷ []) p (with_dtls d p)
      (refl, ap (λ (x : DtlsState D). x.instance) h.1, ap queue_and_role h.1, refl, refl)) (refl, refl, refl, refl, refl)
  lost (Some active) e d p h =
      let x = h.0 in
      quiet_of p (with_dtls d p)
      (dtls_did m nothing_came (p.core.greatest ∷ []) p (with_dtls d p) (takes (x.0 ++ x.1.0 ∷ [])) x.1.1.0
      (among_nil _ [] (given_of (x.0 ++ x.1.0 ∷ []))) (no_moment _ (p.core.greatest ∷ []) (moments_of (x.0 ++ x.1.0 ∷ [])))
      (sent_of (x.0 ++ x.1.0 ∷ [])) (got_of (x.0 ++ x.1.0 ∷ []))
      (record {
        each = λ b n. elim (member-append b p.core.dtls.packets x.0 (subst (λ (l : List (List ℕ)). Member b l) x.1.1.1 n)) [
          | inl k ↦ member-right b (dtls_taken (takes (x.0 ++ x.1.0 ∷ []))) p.core.dtls.packets k
          | inr k ↦
              member-left b (dtls_taken (takes (x.0 ++ x.1.0 ∷ []))) p.core.dtls.packets
              (subst (λ (l : List (List ℕ)). Member b l) (sym (taken_of (x.0 ++ x.1.0 ∷ []))) (member-left b x.0 (x.1.0 ∷ []) k))
        ];
      }) (ap (λ (y : DtlsState D). y.active) h.1 ∙ ap (roles_after p.core.dtls.active) (sym (roles_of (x.0 ++ x.1.0 ∷ [])))) refl refl refl)
      (refl, refl, refl, refl, refl)

  -- application data that came is handed to the association
  data_did : (bytes : List ℕ) (packets : List (List ℕ)) (k j : D) (p q : PolledPeer I D S M N) → DtlsMoved m.dtls p.core.dtls.instance (takes packets) k
      → DtlsMoved m.dtls k (Got bytes ∷ []) j → q.core.dtls.instance ≡ j → q.core.dtls.packets ≡ p.core.dtls.packets ++ packets
      → q.core.dtls.active ≡ p.core.dtls.active
      → CallDid m.association (given_packet (m.association.started p.core.sctp.association) bytes) [] p.core.sctp q.core.sctp
      → q.core.ice ≡ p.core.ice → q.core.media ≡ p.core.media → PeerDid m nothing_came (p.core.greatest ∷ []) [] [] [] p q
  data_did bytes packets k j p q went more same queue role h ice media =
      let acts : List DtlsAct = takes packets ++ Got bytes ∷ [] in
      let got : dtls_got acts ≡ bytes ∷ [] = dtls_got-append (takes packets) (Got bytes ∷ []) ∙ ap (λ l. l ++ bytes ∷ []) (got_of packets) in
      record {
        acts = peer_acts [] acts h.did.acts [];
        went = record {
          ice = ice;
          dtls =
              subst (λ (x : D). DtlsMoved m.dtls p.core.dtls.instance acts x) (sym same)
              (dtls_moved-append m.dtls p.core.dtls.instance k j (takes packets) (Got bytes ∷ []) went more);
          association = h.did.went;
          media = media;
        };
        given_ice = among_none [];
        given_dtls = among_nil (dtls_given acts) [] (dtls_given-append (takes packets) (Got bytes ∷ []) ∙ ap (λ l. l ++ []) (given_of packets));
        given_media = among_none [];
        timed_ice = among_none (p.core.greatest ∷ []);
        timed_dtls =
            no_moment (dtls_moments acts) (p.core.greatest ∷ [])
            (dtls_moments-append (takes packets) (Got bytes ∷ []) ∙ ap (λ l. l ++ []) (moments_of packets));
        timed_media = among_none (p.core.greatest ∷ []);
        role =
            role
            ∙ ap (roles_after p.core.dtls.active)
            (sym (dtls_roles-append (takes packets) (Got bytes ∷ []) ∙ ap (λ l. l ++ []) (roles_of packets)));
        sent =
            subst (λ (l : List (List ℕ)). Among q.core.dtls.packets (l ++ p.core.dtls.packets)) (sym (append-nil (dtls_taken acts)))
            (queued q.core.dtls.packets p.core.dtls.packets packets (dtls_taken acts) queue
            (dtls_taken-append (takes packets) (Got bytes ∷ []) ∙ append-nil (dtls_taken (takes packets)) ∙ taken_of packets));
        handed =
            subst (λ (l : List (List ℕ)). Among l (dtls_got acts)) (sym h.did.given_is)
            (subst (λ (l : List (List ℕ)). Among (given_packet (m.association.started p.core.sctp.association) bytes) l) (sym got)
            (given_among (m.association.started p.core.sctp.association) bytes));
        all_handed = λ started. h.did.given_is ∙ given_all (m.association.started p.core.sctp.association) bytes started ∙ sym got;
        relayed =
            subst (λ (l : List (List ℕ)). Among (l ++ pushed_packets q.core.sctp.pushed) (taken h.did.acts ++ pushed_packets p.core.sctp.pushed))
            (sym (dtls_sent-append (takes packets) (Got bytes ∷ []) ∙ ap (λ l. l ++ []) (sent_of packets)))
            (subst (λ (l : List (List ℕ)). Among l (taken h.did.acts ++ pushed_packets p.core.sctp.pushed)) (sym (ap pushed_packets h.pushed_is))
            (record { each = λ x n. member-right x (taken h.did.acts) (pushed_packets p.core.sctp.pushed) n }));
        wrote_is = h.did.wrote_is;
        heard_is = h.did.heard_is;
        named = h.did.named;
      }

  data_acts : (bytes : _) (active : Option Bool) (d : DtlsState D) (p : PolledPeer I D S M N) (r : Met E) (q : PolledPeer I D S M N)
      → PollsOutput m.dtls p.core.dtls active (Ok (outputs.ApplicationData bytes)) d → HandsPacket m bytes.now (with_dtls d p) r q → VisitDid m p r q
  unfolding HandsPacket
  data_acts bytes None d p r q h taken = cc (h.0)
  data_acts bytes (Some active) d p Again q h taken =
      let x = h.0 in
      let kept = beside BesideStreams (with_dtls d p) _ q taken.1 (refl, refl, refl, refl) in
      plain_visit m Again p q
      (data_did bytes.now x.0 x.1.0 d.instance p q x.1.1.0 (dtls_moved-one m.dtls x.1.0 d.instance (Got bytes.now) x.1.1.1)
      (ap (λ (y : DtlsState D). y.instance) kept.1) (ap (λ (y : DtlsState D). y.packets) kept.1 ∙ x.1.1.2)
      (ap (λ (y : DtlsState D). y.active) kept.1 ∙ ap (λ (y : DtlsState D). y.active) h.1)
      (input_did m.association p.core.greatest bytes.now p.core.sctp (Ok tt) q.core.sctp taken.0) kept.0 kept.2)
      refl kept.3 (ap (λ (y : PolledPeer I D S M N). y.core.channels.rows) taken.1)
      (input_entries m.association (m.association.started p.core.sctp.association) p.core.greatest bytes.now p.core.sctp (Ok tt) q.core.sctp taken.0, ap (λ (y : PolledPeer I D S M N). y.core.channels) taken.1, input_states m.association (m.association.started p.core.sctp.association) p.core.greatest bytes.now p.core.sctp (Ok tt) q.core.sctp refl taken.0) tt
  data_acts bytes (Some active) d p (Error Alloc) q h taken =
      let x = h.0 in
      let kept = beside BesideStreams (with_dtls d p) _ q taken.1 (refl, refl, refl, refl) in
      plain_visit m (Error Alloc) p q
      (data_did bytes.now x.0 x.1.0 d.instance p q x.1.1.0 (dtls_moved-one m.dtls x.1.0 d.instance (Got bytes.now) x.1.1.1)
      (ap (λ (y : DtlsState D). y.instance) kept.1) (ap (λ (y : DtlsState D). y.packets) kept.1 ∙ x.1.1.2)
      (ap (λ (y : DtlsState D). y.active) kept.1 ∙ ap (λ (y : DtlsState D). y.active) h.1)
      (input_did m.association p.core.greatest bytes.now p.core.sctp (Err alloc_error) q.core.sctp taken.0) kept.0 kept.2)
      refl kept.3 tt (input_entries m.association (m.association.started p.core.sctp.association) p.core.greatest bytes.now p.core.sctp (Err alloc_error) q.core.sctp taken.0, ap (λ (y : PolledPeer I D S M N). y.core.channels) taken.1, input_states m.association (m.association.started p.core.sctp.association) p.core.greatest bytes.now p.core.sctp (Err alloc_error) q.core.sctp refl taken.0) tt
  data_acts bytes (Some active) d p _ q h taken = absurd taken

  -- an output that was taken
  output_acts : (output : DtlsOutput) (d : DtlsState D) (p : PolledPeer I D S M N) (r : Met E) (q : PolledPeer I D S M N)
      → PollsOutput m.dtls p.core.dtls p.core.dtls.active (Ok output) d → TakesDtlsOutput m output (with_dtls d p) r q → VisitDid m p r q
  output_acts outputs.Connected d p r q h taken =
      visit_on m laws.association r p (with_dtls d p) q (drained outputs.Connected p.core.dtls.active d p h tt)
      (still_visit m Again r (with_dtls d p) _ q taken.0 taken.1 (shows_again m laws) ((refl, refl, refl, refl, refl), refl, refl))
  output_acts (outputs.KeyingMaterial key profile) d p r q h taken =
      visit_on m laws.association r p (with_dtls d p) q (drained (outputs.KeyingMaterial key profile) p.core.dtls.active d p h tt)
      (keys_act m laws key.now profile _ (with_dtls d p) r q taken)
  output_acts (outputs.PeerCert cert) d p r q h taken =
      visit_on m laws.association r p (with_dtls d p) q (drained (outputs.PeerCert cert) p.core.dtls.active d p h tt)
      (cert_acts m laws cert.now (with_dtls d p) r q taken)
  output_acts (outputs.ApplicationData bytes) d p r q h taken = data_acts bytes p.core.dtls.active d p r q h taken
  output_acts (outputs.Timeout moment) d p r q h taken =
      visit_on m laws.association r p (with_dtls d p) q (drained (outputs.Timeout moment) p.core.dtls.active d p h tt)
      (still_visit m Nothing r (with_dtls d p) _ q taken.0 taken.1 (shows_nothing m laws) ((refl, refl, refl, refl, refl), refl, refl))
  output_acts outputs.CloseNotify d p r q h taken =
      visit_on m laws.association r p (with_dtls d p) q (drained outputs.CloseNotify p.core.dtls.active d p h tt)
      (close_notify m laws (with_dtls d p) r q taken)

  answer_acts : (answer : Result DtlsOutput AllocError) (d : DtlsState D) (p : PolledPeer I D S M N) (r : Met E) (q : PolledPeer I D S M N)
      → PollsOutput m.dtls p.core.dtls p.core.dtls.active answer d → TakesDtlsAnswer m answer (with_dtls d p) r q → VisitDid m p r q
  answer_acts (Ok output) d p r q h taken = output_acts output d p r q h taken
  answer_acts (Err error) d p r q h taken =
      visit_on m laws.association r p (with_dtls d p) q (lost p.core.dtls.active error d p h)
      (still_visit m (Error Alloc) r (with_dtls d p) _ q taken.0 taken.1 (shows_error m laws Alloc) ((refl, refl, refl, refl, refl), refl, refl))

  connected_acts : (handshake : Handshake) (p : PolledPeer I D S M N) (r : Met E) (q : PolledPeer I D S M N) → TellsConnectedFrom handshake p r q
      → VisitDid m p r q
  connected_acts Pending p r q h = still_visit m Nothing r p p q h.0 h.1 (shows_nothing m laws) ((refl, refl, refl, refl, refl), refl, refl)
  connected_acts Finished p r q h =
      still_visit m (MetEvent told.Connected) r p _ q h.0 h.1 (refl, λ held. refl, tt) ((refl, refl, refl, refl, refl), refl, refl)
  connected_acts Told p r q h = still_visit m Nothing r p p q h.0 h.1 (shows_nothing m laws) ((refl, refl, refl, refl, refl), refl, refl)

  -- what a poll takes from the connection
  pub connection_acts : StageActs m laws.association (TellsConnection m)
  unfolding TellsConnection
  connection_acts =
      else_acts m laws.association (PollsIceEvents m) _
      (repeats_acts m laws.association (PollsIceEvent m) (λ p r q turn. ice_event m laws turn.event turn.ice p r q turn.by_poll turn.by_event))
      (else_acts m laws.association (TimesDtls m) _ (λ p r q h. times_act m laws (is_dtls_due p) p r q h)
      (else_acts m laws.association (PollsDtlsOutputs m) _
      (repeats_acts m laws.association (PollsDtlsOutput m) (λ p r q turn. answer_acts turn.answer turn.dtls p r q turn.by_poll turn.by_answer))
      (λ p r q h. connected_acts p.transport.handshake p r q h)))
