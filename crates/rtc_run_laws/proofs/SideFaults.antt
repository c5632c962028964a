-- What an offer or an answer that a peer is handed tells of its parts: of the faults that its DTLS part, its association and its media part
-- count, and of the lines of its media part.
use Rattle.std.proofs.Common.{◌≡◌, ◌≤◌, ◌⊎◌, ℕ, List, Bool, true, false, not, Option, Result, Ok, Err, refl, ap, arith}
use Rattle.rtc_io.specs.Faults.{Rose}
use Rattle.rtc_parts.specs.declared.dtls_error.DtlsError.TheVariants.{WouldBlock, Fault, Alloc as DtlsAlloc}
use Rattle.rtc_parts.specs.DtlsState.{DtlsState}
use Rattle.rtc_sctp_entries.specs.declared.stream_entry.StreamEntry.{StreamEntry}
use Rattle.rtc_sctp_values.specs.InitHalves.{InitHalves}
use Rattle.rtc_sctp.specs.Streams.{SctpStreams}
use Rattle.rtc_sctp_values.specs.declared.proto_error.ProtoError.TheVariants.{Fault as AssociationFault}
use Rattle.rtc_sctp_values.specs.declared.sctp_error.SctpError.{SctpError}
use Rattle.rtc_sctp_values.specs.declared.sctp_error.SctpError.TheVariants.{Proto}
use Rattle.rtc_parts.specs.MediaLaws.{SameLines}
use Rattle.rtc_sdp_values.specs.Sdp.{sdp_setup, max_message_size_of}
use Rattle.rtc_sdp_values.specs.declared.sdp.Sdp.{Sdp}
use Rattle.rtc_change.specs.PendingOffer.{PendingOffer}
use Rattle.rtc_change.specs.TableAfter.{table_after}
use Rattle.rtc_peer_rows.specs.ParsedLines.{parsed_lines}
use Rattle.rtc_peer_core.specs.declared.peer.Peer.{Peer}
use Rattle.rtc_peer_core.specs.declared.rtc_error.RtcError.{RtcError}
use Rattle.rtc_peer_core.specs.declared.rtc_error.RtcError.TheVariants.{Net, Media as MediaFailed, Glare}
use Rattle.rtc_peer_core.specs.declared.rtc_error.RtcError.TheVariants.{RemoteSdp, Sdp as SdpRefused, Dtls, Sctp, ChangesOutOfOrder, BadChannel, Alloc as PeerAlloc}
use Rattle.rtc_peer_core.specs.Acceptances.{StartsBySdp, AcceptsOffer, AcceptsAnswer}
use Rattle.rtc_peer_core.specs.MadeSdp.{role_after}
use Rattle.rtc_peer_core.specs.PartMoves.{remote_limit}
use Rattle.rtc_peer_core.specs.Calls.{raised}
use Rattle.rtc_peer_core.specs.Meanings.{Meanings, PartsLaws}
use Rattle.rtc_run_history.specs.declared.outcome.Outcome.{Outcome}
use Rattle.rtc_run_history.specs.declared.outcome.Outcome.TheVariants.{Answered, Finished, Refused}
use Rattle.rtc_run_history.specs.Memory.{CountedPart, DtlsPart, AssociationPart, MediaPart, tells_fault_of, is_fault_of}
use Rattle.rtc_run_history.specs.SoundParts.{faults_of}
use Rattle.rtc_peer_core.proofs.StoppedPeers.{stopped_dtls, stopped_sctp, stopped_media}
use Rattle.rtc_run_laws.proofs.CountedFaults.{by_part, equal_below, start_later, start_fault, stop_later, sctp_later, sctp_fault, sctp_stop_later}
use Rattle.rtc_run_laws.proofs.MediaFaults.{prepared_later, updated_later, stopped_later}
use Rattle.rtc_run_laws.proofs.UnusedStreams.{offer_halves, answer_halves}
use Rattle.rtc_run_laws.proofs.OpParts.{counting_parts}

module _ {I D S M E X T W N : Type 0} (m : Meanings I D S M E X T W N) (laws : PartsLaws m) where
  -- what an outcome tells of the parts of the peer that acted, and whether an offer, an answer or a token was refused
  pub record IsSoundOfSide (old : Peer I D S M N) (refuses : Bool) (outcome : Outcome E) (new : Peer I D S M N) : Type 0 where
    pub later : (part : CountedPart) → faults_of m part old ≤ faults_of m part new
    pub fault : (part : CountedPart) → tells_fault_of outcome part ≡ true → Rose (faults_of m part old) (faults_of m part new)
    pub media : refuses ≡ true → SameLines m.media old.media new.media

  same_dtls : (p q : Peer I D S M N) → q.dtls ≡ p.dtls → faults_of m DtlsPart p ≤ faults_of m DtlsPart q
  same_dtls p q same = let e : faults_of m DtlsPart q ≡ faults_of m DtlsPart p = ap (λ (d : DtlsState D). m.dtls.faults d.instance) same in omega arith

  same_sctp : (p q : Peer I D S M N) → q.sctp.association ≡ p.sctp.association → faults_of m AssociationPart p ≤ faults_of m AssociationPart q
  same_sctp p q same = let e : faults_of m AssociationPart q ≡ faults_of m AssociationPart p = ap (λ (s : S). m.association.faults s) same in omega arith

  same_faults : (p q : Peer I D S M N) → q.media ≡ p.media → faults_of m MediaPart p ≤ faults_of m MediaPart q
  same_faults p q same = equal_below (m.media.faults p.media) (m.media.faults q.media) (ap (λ (r : M). m.media.faults r) same)

  same_count : (p q : Peer I D S M N) → counting_parts q ≡ counting_parts p → (part : CountedPart) → faults_of m part p ≤ faults_of m part q
  same_count p q same = by_part (λ part. faults_of m part p ≤ faults_of m part q)
      (same_dtls p q (ap (λ (c : DtlsState D × (S × List StreamEntry) × M). c.0) same)) (same_sctp p q (ap (λ (c : DtlsState D × (S × List StreamEntry) × M). c.1.0) same))
      (same_faults p q (ap (λ (c : DtlsState D × (S × List StreamEntry) × M). c.2) same))

  same_media : (p q : M) → q ≡ p → SameLines m.media p q
  same_media p q same = record { lines = λ mid. ap (λ (r : M). m.media.line r mid) same; used = λ ssrc. ap (λ (r : M). m.media.used r ssrc) same }

  untold : (told : CountedPart → Bool) (part : CountedPart) → told part ≡ false → told part ≡ true → ⊥
  untold told part unfaulted told_it = absurd (cc)

  -- an outcome that is no refusal, of a peer whose DTLS part and association stay
  pub unmoved : (p q : Peer I D S M N) (outcome : Outcome E) → ((part : CountedPart) → tells_fault_of outcome part ≡ false) → counting_parts q ≡ counting_parts p → IsSoundOfSide p false outcome q
  unmoved p q outcome unfaulted same = record {
    later = same_count p q same;
    fault = λ part told. absurd (untold (tells_fault_of outcome) part (unfaulted part) told);
    media = λ told. absurd (cc);
  }

  -- an acceptance that succeeded
  accepted : (p q : Peer I D S M N) (outcome : Outcome E) → ((part : CountedPart) → tells_fault_of outcome part ≡ false) → ((part : CountedPart) → faults_of m part p ≤ faults_of m part q)
      → IsSoundOfSide p false outcome q
  accepted p q outcome unfaulted later = record {
    later = later;
    fault = λ part told. absurd (untold (tells_fault_of outcome) part (unfaulted part) told);
    media = λ told. absurd (cc);
  }

  -- a refusal with a cause, which moves no part
  pub refused : (p q : Peer I D S M N) (error : RtcError) → ((part : CountedPart) → is_fault_of error part ≡ false) → counting_parts q ≡ counting_parts p
      → IsSoundOfSide p true (Refused error) q
  refused p q error unfaulted same = record {
    later = same_count p q same;
    fault = λ part told. absurd (untold (is_fault_of error) part (unfaulted part) told);
    media = λ told. same_media p.media q.media (ap (λ (c : DtlsState D × (S × List StreamEntry) × M). c.2) same);
  }

  -- ---- acceptances

  -- the association as an offer or an answer starts it
  sdp_later : (p : Peer I D S M N) (offer : Bool) (sdp : Sdp) (halves : Option InitHalves) (r : Result (Unit {0}) SctpError) (s : SctpStreams S)
      → StartsBySdp m p offer sdp halves r s
      → m.association.faults p.sctp.association ≤ m.association.faults s.association
  sdp_later p offer sdp halves r s h = sctp_later m.association laws.association p.sctp s (table_after p.lines (parsed_lines sdp) offer)
      (role_after p.dtls.active (sdp_setup sdp)) p.greatest (remote_limit (max_message_size_of sdp)) halves (not offer) r h

  sdp_fault : (p : Peer I D S M N) (offer : Bool) (sdp : Sdp) (halves : Option InitHalves) (s : SctpStreams S) → StartsBySdp m p offer sdp halves (Err (Proto AssociationFault)) s
      → Rose (m.association.faults p.sctp.association) (m.association.faults s.association)
  sdp_fault p offer sdp halves s h = sctp_fault m.association laws.association p.sctp s (table_after p.lines (parsed_lines sdp) offer)
      (role_after p.dtls.active (sdp_setup sdp)) p.greatest (remote_limit (max_message_size_of sdp)) halves (not offer) h

  sdp_stop_later : (p : Peer I D S M N) (offer : Bool) (sdp : Sdp) (halves : Option InitHalves) (s : SctpStreams S)
      → (s ≡ p.sctp) ⊎ ((error : SctpError) × StartsBySdp m p offer sdp halves (Err error) s)
      → m.association.faults p.sctp.association ≤ m.association.faults s.association
  sdp_stop_later p offer sdp halves s h = sctp_stop_later m.association laws.association p.sctp s (table_after p.lines (parsed_lines sdp) offer)
      (role_after p.dtls.active (sdp_setup sdp)) p.greatest (remote_limit (max_message_size_of sdp)) halves (not offer) h

  pub offer_accepted : (p q : Peer I D S M N) (k : ℕ) (offer answer : Sdp) → AcceptsOffer m p offer (Ok answer) q → IsSoundOfSide p false (Answered k) q
  offer_accepted p q k offer answer h = accepted p q (Answered k) (λ part. refl)
      (by_part (λ part. faults_of m part p ≤ faults_of m part q) (start_later m.dtls laws.dtls p.dtls q.dtls _ _ _ _ h.dtls_starts)
      (sdp_later p true offer (offer_halves m p offer) (Ok tt) q.sctp h.sctp_starts) (updated_later m laws.media p.media q.media _ h.media_updated))

  pub offer_refused : (p q : Peer I D S M N) (offer : Sdp) (error : RtcError) → AcceptsOffer m p offer (Err error) q → IsSoundOfSide p true (Refused error) q
  offer_refused p q offer (RemoteSdp why) h = refused p q (RemoteSdp why) (λ part. refl) (ap counting_parts h.1.1)
  offer_refused p q offer (SdpRefused error) h = refused p q (SdpRefused error) (λ part. refl) (ap counting_parts h.1.1)
  offer_refused p q offer (Dtls Fault) h = record {
    later = by_part (λ part. faults_of m part p ≤ faults_of m part q) (start_later m.dtls laws.dtls p.dtls q.dtls _ _ _ _ h.dtls_fails)
        (same_sctp p q (ap (λ (r : Peer I D S M N). r.sctp.association) h.rest)) (prepared_later m laws.media p.media q.media _ (Ok tt) h.media_prepared);
    fault = by_part (λ part. is_fault_of (Dtls Fault) part ≡ true → Rose (faults_of m part p) (faults_of m part q))
        (λ told. start_fault m.dtls laws.dtls p.dtls q.dtls _ _ _ h.dtls_fails) (λ told. absurd (cc)) (λ told. absurd (cc));
    media = λ told. laws.media.prepare_same p.media q.media _ _ h.media_prepared;
  }
  offer_refused p q offer (Dtls WouldBlock) h = absurd h
  offer_refused p q offer (Dtls DtlsAlloc) h = absurd h
  offer_refused p q offer (Sctp error) h = record {
    later = by_part (λ part. faults_of m part p ≤ faults_of m part q) (start_later m.dtls laws.dtls p.dtls q.dtls _ _ _ _ h.1.dtls_starts)
        (sdp_later p true offer (offer_halves m p offer) (Err (Proto AssociationFault)) q.sctp h.1.sctp_fails) (prepared_later m laws.media p.media q.media _ (Ok tt) h.1.media_prepared);
    fault = by_part (λ part. is_fault_of (Sctp error) part ≡ true → Rose (faults_of m part p) (faults_of m part q))
        (λ told. absurd (cc)) (λ told. sdp_fault p true offer (offer_halves m p offer) q.sctp h.1.sctp_fails) (λ told. absurd (cc));
    media = λ told. laws.media.prepare_same p.media q.media _ _ h.1.media_prepared;
  }
  offer_refused p q offer ChangesOutOfOrder h = absurd h
  offer_refused p q offer (Net cause) h = absurd h
  offer_refused p q offer (MediaFailed cause) h = absurd h
  offer_refused p q offer BadChannel h = absurd h
  offer_refused p q offer Glare h = refused p q Glare (λ part. refl) (ap counting_parts h.1)
  offer_refused p q offer PeerAlloc h = record {
    later = by_part (λ part. faults_of m part p ≤ faults_of m part q)
        (stop_later m.dtls laws.dtls p.dtls q.dtls _ _ (stopped_dtls m (record p { counter = raised p.counter; outstanding = false }) _ _ _ _ _ _ q h.stops))
        (sdp_stop_later p true offer (offer_halves m p offer) q.sctp (stopped_sctp m (record p { counter = raised p.counter; outstanding = false }) _ _ _ _ _ _ q h.stops))
        (stopped_later m laws.media (record p { counter = raised p.counter; outstanding = false }) _ _ _ _ _ _ q h.stops);
    fault = λ part told. absurd (cc);
    media = λ told. stopped_media m laws.media (record p { counter = raised p.counter; outstanding = false }) _ _ _ _ _ _ q h.stops;
  }

  pub answer_accepted : (p q : Peer I D S M N) (token : PendingOffer) (answer : Sdp) → AcceptsAnswer m p token answer (Ok tt) q → IsSoundOfSide p false Finished q
  answer_accepted p q token answer h = accepted p q Finished (λ part. refl)
      (by_part (λ part. faults_of m part p ≤ faults_of m part q) (start_later m.dtls laws.dtls p.dtls q.dtls _ _ _ _ h.dtls_starts)
      (sdp_later p false answer (answer_halves m p token answer) (Ok tt) q.sctp h.sctp_starts) (updated_later m laws.media p.media q.media _ h.media_updated))

  pub answer_refused : (p q : Peer I D S M N) (token : PendingOffer) (answer : Sdp) (error : RtcError) → AcceptsAnswer m p token answer (Err error) q → IsSoundOfSide p true (Refused error) q
  answer_refused p q token answer (RemoteSdp why) h = refused p q (RemoteSdp why) (λ part. refl) (ap counting_parts h.1.1)
  answer_refused p q token answer (SdpRefused error) h = refused p q (SdpRefused error) (λ part. refl) (ap counting_parts h.1.1)
  answer_refused p q token answer (Dtls Fault) h = record {
    later = by_part (λ part. faults_of m part p ≤ faults_of m part q) (start_later m.dtls laws.dtls p.dtls q.dtls _ _ _ _ h.dtls_fails)
        (same_sctp p q (ap (λ (r : Peer I D S M N). r.sctp.association) h.rest)) (prepared_later m laws.media p.media q.media _ (Ok tt) h.media_prepared);
    fault = by_part (λ part. is_fault_of (Dtls Fault) part ≡ true → Rose (faults_of m part p) (faults_of m part q))
        (λ told. start_fault m.dtls laws.dtls p.dtls q.dtls _ _ _ h.dtls_fails) (λ told. absurd (cc)) (λ told. absurd (cc));
    media = λ told. laws.media.prepare_same p.media q.media _ _ h.media_prepared;
  }
  answer_refused p q token answer (Dtls WouldBlock) h = absurd h
  answer_refused p q token answer (Dtls DtlsAlloc) h = absurd h
  answer_refused p q token answer (Sctp error) h = record {
    later = by_part (λ part. faults_of m part p ≤ faults_of m part q) (start_later m.dtls laws.dtls p.dtls q.dtls _ _ _ _ h.1.dtls_starts)
        (sdp_later p false answer (answer_halves m p token answer) (Err (Proto AssociationFault)) q.sctp h.1.sctp_fails) (prepared_later m laws.media p.media q.media _ (Ok tt) h.1.media_prepared);
    fault = by_part (λ part. is_fault_of (Sctp error) part ≡ true → Rose (faults_of m part p) (faults_of m part q))
        (λ told. absurd (cc)) (λ told. sdp_fault p false answer (answer_halves m p token answer) q.sctp h.1.sctp_fails) (λ told. absurd (cc));
    media = λ told. laws.media.prepare_same p.media q.media _ _ h.1.media_prepared;
  }
  answer_refused p q token answer ChangesOutOfOrder h = refused p q ChangesOutOfOrder (λ part. refl) (ap counting_parts h.1)
  answer_refused p q token answer (Net cause) h = absurd h
  answer_refused p q token answer (MediaFailed cause) h = absurd h
  answer_refused p q token answer BadChannel h = absurd h
  answer_refused p q token answer Glare h = absurd h
  answer_refused p q token answer PeerAlloc h = record {
    later = by_part (λ part. faults_of m part p ≤ faults_of m part q)
        (stop_later m.dtls laws.dtls p.dtls q.dtls _ _ (stopped_dtls m (record p { outstanding = false }) _ _ _ _ _ _ q h.stops))
        (sdp_stop_later p false answer (answer_halves m p token answer) q.sctp (stopped_sctp m (record p { outstanding = false }) _ _ _ _ _ _ q h.stops)) (stopped_later m laws.media (record p { outstanding = false }) _ _ _ _ _ _ q h.stops);
    fault = λ part told. absurd (cc);
    media = λ told. stopped_media m laws.media (record p { outstanding = false }) _ _ _ _ _ _ q h.stops;
  }
