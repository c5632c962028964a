-- Before the association of a side is started none of its streams is in use, and it is not started before the DTLS role is set, whatever the
-- side accepts or refuses.
use Rattle.std.proofs.Common.{◌≡◌, ◌∙◌, ◌⊎◌, inl, inr, ℕ, Bool, true, false, true≢false, not, List, [], Option, Result, Ok, Err, refl, sym, ap, subst}
use Rattle.std.specs.Prelude.{is_some}
use Rattle.rtc_parts.specs.DtlsState.{DtlsState}
use Rattle.rtc_parts.specs.declared.dtls_error.DtlsError.{DtlsError}
use Rattle.rtc_parts.specs.declared.dtls_error.DtlsError.TheVariants.{WouldBlock, Fault, Alloc as DtlsAlloc}
use Rattle.rtc_parts.specs.AssociationLaws.{AssociationLaws}
use Rattle.rtc_parts.specs.AssociationMeaning.{AssociationMeaning}
use Rattle.rtc_sdp_values.specs.Sdp.{sdp_setup, max_message_size_of}
use Rattle.rtc_sdp_values.specs.declared.sdp.Sdp.{Sdp}
use Rattle.rtc_sctp_entries.specs.declared.stream_entry.StreamEntry.{StreamEntry}
use Rattle.rtc_sctp_values.specs.InitHalves.{InitHalves}
use Rattle.rtc_sctp_values.specs.declared.proto_error.ProtoError.TheVariants as proto
use Rattle.rtc_sctp_values.specs.declared.sctp_error.SctpError.{SctpError}
use Rattle.rtc_sctp_values.specs.declared.sctp_error.SctpError.TheVariants as sctp
use Rattle.rtc_sctp.specs.Calls.{Inits}
use Rattle.rtc_sctp.specs.Streams.{SctpStreams}
use Rattle.rtc_sctp.proofs.BegunLemmas.{inits_started, refused_start}
use Rattle.rtc_peer_rows.specs.ParsedLines.{parsed_lines}
use Rattle.rtc_change.specs.PendingOffer.{PendingOffer}
use Rattle.rtc_change.specs.TableAfter.{table_after}
use Rattle.rtc_peer_core.specs.declared.peer.Peer.{Peer}
use Rattle.rtc_peer_core.specs.declared.rtc_error.RtcError.{RtcError}
use Rattle.rtc_peer_core.specs.declared.rtc_error.RtcError.TheVariants.{Net, Media as MediaFailed, Glare}
use Rattle.rtc_peer_core.specs.declared.rtc_error.RtcError.TheVariants.{RemoteSdp, Sdp as SdpRefused, Dtls, Sctp, ChangesOutOfOrder, BadChannel, Alloc as PeerAlloc}
use Rattle.rtc_peer_core.specs.Acceptances.{AcceptsOffer, AcceptsAnswer}
use Rattle.rtc_peer_core.specs.Calls.{raised}
use Rattle.rtc_peer_core.specs.MadeSdp.{role_after, role_for}
use Rattle.rtc_peer_core.specs.Meanings.{Meanings, PartsLaws}
use Rattle.rtc_peer_core.specs.PartMoves.{remote_limit, needs_start, StartsDtls, StartsWhere}
use Rattle.rtc_peer_core.specs.SdpMoves.{StartsBySdp, halves_for, answer_ids}
use Rattle.rtc_peer_core.proofs.PartMovesLemmas.{role_taken}
use Rattle.rtc_peer_core.proofs.StoppedPeers.{stopped_dtls, stopped_sctp}
use Rattle.rtc_peer_polling.proofs.StreamStarts.{IsEmptyBefore}
use Rattle.rtc_run_laws.proofs.OpParts.{counting_parts}

-- ---- a start

module _ {S : Type 0} (m : AssociationMeaning S) (laws : AssociationLaws m) where
  -- a refused start leaves the streams
  refused_entries : (client : Bool) (now max : ℕ) (halves : Option InitHalves) (p q : SctpStreams S) (error : SctpError)
      → Inits m client now max halves p (Err error) q → q.entries ≡ p.entries
  refused_entries client now max halves p q (sctp.Proto proto.Started) h = ap (λ (s : SctpStreams S). s.entries) h.1
  refused_entries client now max halves p q (sctp.Proto proto.SnapHalf) h = ap (λ (s : SctpStreams S). s.entries) h.2
  refused_entries client now max halves p q (sctp.Proto proto.Fault) h = ap (λ (s : SctpStreams S). s.entries) h.2
  refused_entries client now max halves p q (sctp.Proto (proto.TooLong len limit)) h = absurd h
  refused_entries client now max halves p q (sctp.Proto (proto.NoStream id)) h = absurd h
  refused_entries client now max halves p q sctp.WriteBeforeEstablished h = absurd h
  refused_entries client now max halves p q sctp.DcepOpenTooSmall h = absurd h
  refused_entries client now max halves p q sctp.DcepIncorrectMessageType h = absurd h
  refused_entries client now max halves p q sctp.DcepBadUtf8 h = absurd h
  refused_entries client now max halves p q sctp.InvalidSnap h = absurd h
  refused_entries client now max halves p q sctp.Alloc h = ap (λ (s : SctpStreams S). s.entries) h.2

  pub empty_alike : (p q : SctpStreams S) → m.started q.association ≡ m.started p.association → q.entries ≡ p.entries → IsEmptyBefore m p → IsEmptyBefore m q
  empty_alike p q started entries empty = λ fresh. entries ∙ empty (sym started ∙ fresh)

  pub starts_empty : (needed : Bool) (p : SctpStreams S) (client : Bool) (now max : ℕ) (halves : Option InitHalves) (drops : Bool)
      (r : Result (Unit {0}) SctpError) (q : SctpStreams S) → StartsWhere m needed p client now max halves drops r q → IsEmptyBefore m p → IsEmptyBefore m q
  starts_empty false p client now max halves drops r q h empty =
      empty_alike p q (ap (λ (s : SctpStreams S). m.started s.association) h.1) (ap (λ (s : SctpStreams S). s.entries) h.1) empty
  starts_empty true p client now max halves drops (Ok done) q h empty =
      λ fresh. absurd (true≢false (sym (inits_started m laws client now max halves p q h) ∙ fresh))
  starts_empty true p client now max halves drops (Err error) q h empty =
      empty_alike p q (refused_start m laws client now max halves p q error h).started (refused_entries client now max halves p q error h) empty

module _ {S : Type 0} (m : AssociationMeaning S) (laws : AssociationLaws m) where
  -- a start that was refused, or that was not to be, leaves whether the association is started
  pub refused_same : (needed : Bool) (p : SctpStreams S) (client : Bool) (now max : ℕ) (halves : Option InitHalves) (drops : Bool)
      (error : SctpError) (q : SctpStreams S) → StartsWhere m needed p client now max halves drops (Err error) q
      → m.started q.association ≡ m.started p.association
  refused_same false p client now max halves drops error q h = ap (λ (s : SctpStreams S). m.started s.association) h.1
  refused_same true p client now max halves drops error q h = (refused_start m laws client now max halves p q error h).started

module _ {I D S M E X T W N : Type 0} (m : Meanings I D S M E X T W N) where
  -- the halves of the start that an offer or an answer gives
  abbrev pub offer_halves : Peer I D S M N → Sdp → Option InitHalves
  offer_halves p offer = halves_for m p true true [] offer (answer_ids m p offer)

  abbrev pub answer_halves : Peer I D S M N → PendingOffer → Sdp → Option InitHalves
  answer_halves p token answer = halves_for m p false token.says_init token.changes answer p.ids

module _ {I D S M E X T W N : Type 0} (m : Meanings I D S M E X T W N) (laws : PartsLaws m) where
  -- no stream is in use before the association is started, and the association is not before there is a DTLS role
  pub record AreUnusedParts (streams : SctpStreams S) (dtls : DtlsState D) : Type 0 where
    pub empty : IsEmptyBefore m.association streams
    pub role : m.association.started streams.association ≡ true → is_some dtls.active ≡ true

  abbrev pub IsUnused : Peer I D S M N → Type 0
  IsUnused p = AreUnusedParts p.sctp p.dtls

  pub parts_unused : (p q : Peer I D S M N) → counting_parts q ≡ counting_parts p → IsUnused p → IsUnused q
  parts_unused p q same unused =
      let started = ap (λ (c : DtlsState D × (S × List StreamEntry) × M). m.association.started c.1.0) same in
      record {
        empty =
            empty_alike m.association laws.association p.sctp q.sctp started
            (ap (λ (c : DtlsState D × (S × List StreamEntry) × M). c.1.1) same) unused.empty;
        role = λ s. ap (λ (c : DtlsState D × (S × List StreamEntry) × M). is_some c.0.active) same ∙ unused.role (sym started ∙ s);
      }

  pub same_unused : (p q : Peer I D S M N) → q ≡ p → IsUnused p → IsUnused q
  same_unused p q same unused = subst (λ (x : Peer I D S M N). IsUnused x) (sym same) unused

  -- ---- acceptances

  sdp_unused : (p : Peer I D S M N) (offer : Bool) (sdp : Sdp) (halves : Option InitHalves) (r : Result (Unit {0}) SctpError) (s : SctpStreams S)
      → StartsBySdp m p offer sdp halves r s → IsEmptyBefore m.association p.sctp → IsEmptyBefore m.association s
  sdp_unused p offer sdp halves r s h unused =
      starts_empty m.association laws.association (needs_start m.association (table_after p.lines (parsed_lines sdp) offer) p.sctp) p.sctp
      (role_after p.dtls.active (sdp_setup sdp)) p.greatest (remote_limit (max_message_size_of sdp)) halves (not offer) r s h unused

  stopped_unused : (p : Peer I D S M N) (offer : Bool) (sdp : Sdp) (halves : Option InitHalves) (s : SctpStreams S)
      → (s ≡ p.sctp) ⊎ ((error : SctpError) × StartsBySdp m p offer sdp halves (Err error) s) → IsEmptyBefore m.association p.sctp
      → IsEmptyBefore m.association s
  stopped_unused p offer sdp halves s (inl same) unused = subst (λ (x : SctpStreams S). IsEmptyBefore m.association x) (sym same) unused
  stopped_unused p offer sdp halves s (inr starts) unused = sdp_unused p offer sdp halves (Err starts.0) s starts.1 unused

  -- what stopped started no association
  pub stopped_started : (p : Peer I D S M N) (offer : Bool) (sdp : Sdp) (halves : Option InitHalves) (s : SctpStreams S)
      → (s ≡ p.sctp) ⊎ ((error : SctpError) × StartsBySdp m p offer sdp halves (Err error) s)
      → m.association.started s.association ≡ m.association.started p.sctp.association
  stopped_started p offer sdp halves s (inl same) = ap (λ (x : SctpStreams S). m.association.started x.association) same
  stopped_started p offer sdp halves s (inr starts) =
      refused_same m.association laws.association (needs_start m.association (table_after p.lines (parsed_lines sdp) offer) p.sctp) p.sctp
      (role_after p.dtls.active (sdp_setup sdp)) p.greatest (remote_limit (max_message_size_of sdp)) halves (not offer) starts.0 s starts.1

  -- a DTLS part that was started has a role
  begun_role : (p : Peer I D S M N) (sdp : Sdp) (r : Result (Unit {0}) DtlsError) (d : DtlsState D)
      → StartsDtls m.dtls p.dtls p.dtls.active (role_for (sdp_setup sdp)) p.greatest r d → is_some d.active ≡ true
  begun_role p sdp r d h = ap is_some (role_taken m.dtls p.dtls d p.dtls.active (sdp_setup sdp) p.greatest r refl h)

  stopped_role : (p : Peer I D S M N) (sdp : Sdp) (d : DtlsState D) (started : Type 0)
      → (d ≡ p.dtls) ⊎ ((r : Result (Unit {0}) DtlsError) × StartsDtls m.dtls p.dtls p.dtls.active (role_for (sdp_setup sdp)) p.greatest r d)
      → (started → is_some p.dtls.active ≡ true) → started → is_some d.active ≡ true
  stopped_role p sdp d started (inl same) role s = ap (λ (x : DtlsState D). is_some x.active) same ∙ role s
  stopped_role p sdp d started (inr starts) role s = begun_role p sdp starts.0 d starts.1

  pub offer_unused : (p : Peer I D S M N) (offer : Sdp) (r : Result Sdp RtcError) (q : Peer I D S M N) → AcceptsOffer m p offer r q → IsUnused p → IsUnused q
  offer_unused p offer (Ok answer) q h unused = record {
    empty = sdp_unused p true offer (offer_halves m p offer) (Ok tt) q.sctp h.sctp_starts unused.empty;
    role = λ s. begun_role p offer (Ok tt) q.dtls h.dtls_starts;
  }
  offer_unused p offer (Err (RemoteSdp why)) q h unused = parts_unused p q (ap counting_parts h.1.1) unused
  offer_unused p offer (Err (SdpRefused error)) q h unused = parts_unused p q (ap counting_parts h.1.1) unused
  offer_unused p offer (Err (Dtls Fault)) q h unused = record {
    empty = subst (λ (s : SctpStreams S). IsEmptyBefore m.association s) (sym (ap (λ (x : Peer I D S M N). x.sctp) h.rest)) unused.empty;
    role = λ s. begun_role p offer (Err Fault) q.dtls h.dtls_fails;
  }
  offer_unused p offer (Err (Dtls WouldBlock)) q h unused = absurd h
  offer_unused p offer (Err (Dtls DtlsAlloc)) q h unused = absurd h
  offer_unused p offer (Err (Sctp error)) q h unused = record {
    empty = sdp_unused p true offer (offer_halves m p offer) (Err (sctp.Proto proto.Fault)) q.sctp h.1.sctp_fails unused.empty;
    role = λ s. begun_role p offer (Ok tt) q.dtls h.1.dtls_starts;
  }
  offer_unused p offer (Err ChangesOutOfOrder) q h unused = absurd h
  offer_unused p offer (Err (Net cause)) q h unused = absurd h
  offer_unused p offer (Err (MediaFailed cause)) q h unused = absurd h
  offer_unused p offer (Err BadChannel) q h unused = absurd h
  offer_unused p offer (Err Glare) q h unused = same_unused p q h.1 unused
  offer_unused p offer (Err PeerAlloc) q h unused =
      let sctp = stopped_sctp m (record p { counter = raised p.counter; outstanding = false }) _ _ _ _ _ _ q h.stops in
      record {
        empty = stopped_unused (record p { counter = raised p.counter; outstanding = false }) true offer (offer_halves m p offer) q.sctp sctp unused.empty;
        role = λ s.
            stopped_role (record p { counter = raised p.counter; outstanding = false }) offer q.dtls (m.association.started p.sctp.association ≡ true)
            (stopped_dtls m (record p { counter = raised p.counter; outstanding = false }) _ _ _ _ _ _ q h.stops) unused.role
            (sym (stopped_started (record p { counter = raised p.counter; outstanding = false }) true offer (offer_halves m p offer) q.sctp sctp) ∙ s);
      }

  pub answer_unused : (p : Peer I D S M N) (token : PendingOffer) (answer : Sdp) (r : Result (Unit {0}) RtcError) (q : Peer I D S M N)
      → AcceptsAnswer m p token answer r q → IsUnused p → IsUnused q
  answer_unused p token answer (Ok done) q h unused = record {
    empty = sdp_unused p false answer (answer_halves m p token answer) (Ok tt) q.sctp h.sctp_starts unused.empty;
    role = λ s. begun_role p answer (Ok tt) q.dtls h.dtls_starts;
  }
  answer_unused p token answer (Err (RemoteSdp why)) q h unused = parts_unused p q (ap counting_parts h.1.1) unused
  answer_unused p token answer (Err (SdpRefused error)) q h unused = parts_unused p q (ap counting_parts h.1.1) unused
  answer_unused p token answer (Err (Dtls Fault)) q h unused = record {
    empty = subst (λ (s : SctpStreams S). IsEmptyBefore m.association s) (sym (ap (λ (x : Peer I D S M N). x.sctp) h.rest)) unused.empty;
    role = λ s. begun_role p answer (Err Fault) q.dtls h.dtls_fails;
  }
  answer_unused p token answer (Err (Dtls WouldBlock)) q h unused = absurd h
  answer_unused p token answer (Err (Dtls DtlsAlloc)) q h unused = absurd h
  answer_unused p token answer (Err (Sctp error)) q h unused = record {
    empty = sdp_unused p false answer (answer_halves m p token answer) (Err (sctp.Proto proto.Fault)) q.sctp h.1.sctp_fails unused.empty;
    role = λ s. begun_role p answer (Ok tt) q.dtls h.1.dtls_starts;
  }
  answer_unused p token answer (Err ChangesOutOfOrder) q h unused = same_unused p q h.1 unused
  answer_unused p token answer (Err (Net cause)) q h unused = absurd h
  answer_unused p token answer (Err (MediaFailed cause)) q h unused = absurd h
  answer_unused p token answer (Err BadChannel) q h unused = absurd h
  answer_unused p token answer (Err Glare) q h unused = absurd h
  answer_unused p token answer (Err PeerAlloc) q h unused =
      let sctp = stopped_sctp m (record p { outstanding = false }) _ _ _ _ _ _ q h.stops in
      record {
        empty = stopped_unused p false answer (answer_halves m p token answer) q.sctp sctp unused.empty;
        role = λ s.
            stopped_role p answer q.dtls (m.association.started p.sctp.association ≡ true) (stopped_dtls m (record p { outstanding = false }) _ _ _ _ _ _ q h.stops) unused.role
            (sym (stopped_started p false answer (answer_halves m p token answer) q.sctp sctp) ∙ s);
      }
