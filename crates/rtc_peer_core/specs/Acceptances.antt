-- How a peer accepts an offer or an answer: by the result of the call, the peer before and the peer after.
use Rattle.std.specs.Prelude.{◌≡◌, ◌≢◌, ℕ, true, false, [], Option, Some, None, Result, Ok, Err}
use Rattle.std.specs.Option.{option_or}
use Rattle.rtc_sdp_values.specs.Sdp.{sdp_fingerprint, sdp_setup}
use Rattle.rtc_sdp_values.specs.declared.sdp.Sdp.{Sdp}
use Rattle.rtc_channels.specs.Channels.{all_confirmed}
use Rattle.rtc_parts.specs.declared.dtls_error.DtlsError.TheVariants.{WouldBlock, Fault, Alloc as DtlsAlloc}
use Rattle.rtc_sctp_values.specs.declared.proto_error.ProtoError.TheVariants.{Fault as AssociationFault}
use Rattle.rtc_sctp_values.specs.declared.sctp_error.SctpError.TheVariants.{Proto}
use Rattle.rtc_change.specs.declared.refusal.Refusal.{Refusal}
use Rattle.rtc_change.specs.declared.refusal.Refusal.TheVariants.{RemoteSdp as RefusedSdp, Sdp as RefusedText, Alloc as NoMemory}
use Rattle.rtc_peer_rows.specs.declared.why.Why.{Why}
use Rattle.rtc_peer_rows.specs.declared.why.Why.TheVariants.{
  NoLines,
  BothLite,
  NoCredentials,
  UnaskedRestart,
  NoFingerprint,
  SctpInitChanged,
  SctpInitMissing,
  MovedLine,
  PlaceTaken,
  AnswerRecycles,
  WrongNewLines,
  NoMatch,
  UnknownHash,
  NoneAnnounced,
}
use Rattle.rtc_change.specs.Held.{Asked}
use Rattle.rtc_peer_rows.specs.ParsedLines.{parsed_lines}
use Rattle.rtc_change.specs.PendingOffer.{PendingOffer, staged_restart}
use Rattle.rtc_change.specs.Plans.{verdict, asked_by}
use Rattle.rtc_change.specs.TableAfter.{table_after}
use Rattle.rtc_peer_core.specs.declared.peer.Peer.{Peer}
use Rattle.rtc_peer_core.specs.declared.phase.Phase.{Phase}
use Rattle.rtc_peer_core.specs.declared.phase.Phase.TheVariants.{Closed}
use Rattle.rtc_peer_core.specs.declared.rtc_error.RtcError.{RtcError}
use Rattle.rtc_peer_core.specs.declared.rtc_error.RtcError.TheVariants.{
  RemoteSdp,
  Sdp as SdpRefused,
  Dtls,
  Sctp,
  Net,
  Media as MediaFailed,
  ChangesOutOfOrder,
  BadChannel,
  Alloc,
  Glare,
}
use Rattle.rtc_peer_core.specs.Calls.{raised, control_for, fitting_channels}
use Rattle.rtc_peer_core.specs.Glare.{meets_glare}
use Rattle.rtc_peer_core.specs.MadeSdp.{answer_sdp, role_for}
use Rattle.rtc_peer_core.specs.Meanings.{Meanings}
use Rattle.rtc_peer_core.specs.PartMoves.{StartsDtls}
pub use Rattle.rtc_peer_core.specs.SdpMoves.{
  StartsBySdp,
  updates_for,
  ids_after_updates,
  halves_for,
  ids_after_halves,
  init_answered,
  UpdatesMedia,
  followed_restart,
  answer_ids,
  FollowsOffer,
  FollowsAnswer,
}
use Rattle.rtc_peer_core.specs.Stance.{stance_of, held_by}
use Rattle.rtc_peer_core.specs.StoppedAcceptances.{StopsAccepting}

-- a side whose certificate could not be checked is closed
abbrev pub phase_after : Why → Phase → Phase
phase_after NoFingerprint phase = Closed
phase_after NoLines phase = phase
phase_after BothLite phase = phase
phase_after NoCredentials phase = phase
phase_after (UnaskedRestart kept got) phase = phase
phase_after (SctpInitChanged kept got) phase = phase
phase_after (SctpInitMissing kept) phase = phase
phase_after (MovedLine mid) phase = phase
phase_after (PlaceTaken mid) phase = phase
phase_after (AnswerRecycles mid) phase = phase
phase_after (WrongNewLines wrong) phase = phase
phase_after (NoMatch expected got) phase = Closed
phase_after (UnknownHash name) phase = Closed
phase_after NoneAnnounced phase = Closed

abbrev pub refused_phase : Refusal → Phase → Phase
refused_phase (RefusedSdp why) phase = phase_after why phase
refused_phase (RefusedText error) phase = phase
refused_phase NoMemory phase = phase

-- an offer has raised the counter, whatever becomes of it
abbrev pub counter_after : Option Asked → ℕ → ℕ
counter_after None counter = raised counter
counter_after (Some asked) counter = counter

-- the peer after a refusal: no offer of its own is pending any more
abbrev pub after_refusal : {I D S M N : Type 0} → Option Asked → Refusal → Peer I D S M N → Peer I D S M N
after_refusal asked why p = record p {
  counter = counter_after asked p.counter;
  outstanding = false;
  phase = refused_phase why p.phase;
}

module _ {I D S M E X T W N : Type 0} (m : Meanings I D S M E X T W N) where
  -- An offer or an answer is refused, for the first cause that holds.
  abbrev pub Refuses : Peer I D S M N → Option Asked → Sdp → Refusal → Peer I D S M N → Type 0
  Refuses p asked sdp why q = (verdict (held_by (stance_of m p)) asked sdp ≡ Some why) × (q ≡ after_refusal asked why p)

  -- an offer is accepted, and answered
  pub record OfferAccepted (p : Peer I D S M N) (offer answer : Sdp) (q : Peer I D S M N) : Type 0 where
    pub no_glare : meets_glare p.polite p.outstanding ≡ false
    pub passes : verdict (held_by (stance_of m p)) None offer ≡ None
    pub answered : answer
        ≡ answer_sdp (stance_of m p) (followed_restart m p offer) (updates_for m p true [] offer (answer_ids m p offer))
        (init_answered m p offer) offer
    pub ice_follows : FollowsOffer m p offer q
    pub dtls_starts : StartsDtls m.dtls p.dtls p.dtls.active (role_for (sdp_setup offer)) p.greatest (Ok tt) q.dtls
    pub sctp_starts : StartsBySdp m p true offer (halves_for m p true true [] offer (answer_ids m p offer)) (Ok tt) q.sctp
    pub media_updated : UpdatesMedia m p.media (updates_for m p true [] offer (answer_ids m p offer)) q.media
    pub rest : q ≡ record p {
      counter = raised p.counter;
      outstanding = false;
      lines = table_after p.lines (parsed_lines offer) true;
      fingerprint = option_or p.fingerprint (sdp_fingerprint offer);
      ids = ids_after_halves m p true true [] offer (answer_ids m p offer);
      ice = q.ice;
      dtls = q.dtls;
      sctp = q.sctp;
      media = q.media;
    }

  -- the DTLS part failed as it was started: rows, association and fingerprint are unchanged, and the updates are still prepared
  pub record OfferFaulted (p : Peer I D S M N) (offer : Sdp) (q : Peer I D S M N) : Type 0 where
    pub no_glare : meets_glare p.polite p.outstanding ≡ false
    pub passes : verdict (held_by (stance_of m p)) None offer ≡ None
    pub ice_follows : FollowsOffer m p offer q
    pub dtls_fails : StartsDtls m.dtls p.dtls p.dtls.active (role_for (sdp_setup offer)) p.greatest (Err Fault) q.dtls
    pub media_prepared : m.media.prepared p.media (updates_for m p true [] offer (answer_ids m p offer)) (Ok tt) q.media
    pub rest : q ≡ record p {
      counter = raised p.counter;
      outstanding = false;
      ids = ids_after_halves m p true true [] offer (answer_ids m p offer);
      ice = q.ice;
      dtls = q.dtls;
      media = q.media;
    }

  -- the association failed as it was started, after the DTLS part: rows and fingerprint are unchanged, and the updates are still prepared
  pub record OfferUnstarted (p : Peer I D S M N) (offer : Sdp) (q : Peer I D S M N) : Type 0 where
    pub no_glare : meets_glare p.polite p.outstanding ≡ false
    pub passes : verdict (held_by (stance_of m p)) None offer ≡ None
    pub ice_follows : FollowsOffer m p offer q
    pub dtls_starts : StartsDtls m.dtls p.dtls p.dtls.active (role_for (sdp_setup offer)) p.greatest (Ok tt) q.dtls
    pub sctp_fails : StartsBySdp m p true offer (halves_for m p true true [] offer (answer_ids m p offer)) (Err (Proto AssociationFault))
        q.sctp
    pub media_prepared : m.media.prepared p.media (updates_for m p true [] offer (answer_ids m p offer)) (Ok tt) q.media
    pub rest : q ≡ record p {
      counter = raised p.counter;
      outstanding = false;
      ids = ids_after_halves m p true true [] offer (answer_ids m p offer);
      ice = q.ice;
      dtls = q.dtls;
      sctp = q.sctp;
      media = q.media;
    }

  -- memory ran out: the acceptance stopped at the place that is stated, and rows, channels and fingerprint are unchanged wherever that is
  pub record OfferStopped (p : Peer I D S M N) (offer : Sdp) (q : Peer I D S M N) : Type 0 where
    pub no_glare : meets_glare p.polite p.outstanding ≡ false
    pub stops : StopsAccepting m (record p { counter = raised p.counter; outstanding = false }) None [] offer (followed_restart m p offer)
        (control_for p.dtls.active offer.ice_lite) (answer_ids m p offer) q
    pub rest : q ≡ record p {
      counter = raised p.counter;
      outstanding = false;
      ids = q.ids;
      ice = q.ice;
      dtls = q.dtls;
      sctp = q.sctp;
      media = q.media;
    }

  -- An offer that does not collide with one of the peer's own is refused, for the first cause that holds.
  abbrev pub RefusesOffer : Peer I D S M N → Sdp → Refusal → Peer I D S M N → Type 0
  RefusesOffer p offer why q = (meets_glare p.polite p.outstanding ≡ false) × Refuses p None offer why q

  -- A peer accepts an offer, or refuses it. On glare an impolite peer refuses it first of all, and changes nothing (RFC 3264, section 4).
  abbrev pub AcceptsOffer : Peer I D S M N → Sdp → Result Sdp RtcError → Peer I D S M N → Type 0
  AcceptsOffer p offer (Ok answer) q = OfferAccepted p offer answer q
  AcceptsOffer p offer (Err (RemoteSdp why)) q = RefusesOffer p offer (RefusedSdp why) q
  AcceptsOffer p offer (Err (SdpRefused error)) q = RefusesOffer p offer (RefusedText error) q
  AcceptsOffer p offer (Err (Dtls Fault)) q = OfferFaulted p offer q
  AcceptsOffer p offer (Err (Dtls WouldBlock)) q = ⊥
  AcceptsOffer p offer (Err (Dtls DtlsAlloc)) q = ⊥
  AcceptsOffer p offer (Err (Sctp error)) q = (error ≡ Proto AssociationFault) × OfferUnstarted p offer q
  AcceptsOffer p offer (Err ChangesOutOfOrder) q = ⊥
  AcceptsOffer p offer (Err (Net cause)) q = ⊥
  AcceptsOffer p offer (Err (MediaFailed cause)) q = ⊥
  AcceptsOffer p offer (Err BadChannel) q = ⊥
  AcceptsOffer p offer (Err Alloc) q = OfferStopped p offer q
  AcceptsOffer p offer (Err Glare) q = (meets_glare p.polite p.outstanding ≡ true) × (q ≡ p)

  -- an answer is accepted; the channels that were staged with its offer and are still there are confirmed
  pub record AnswerAccepted (p : Peer I D S M N) (token : PendingOffer) (answer : Sdp) (q : Peer I D S M N) : Type 0 where
    pub right : p.counter ≡ raised token.id
    pub passes : verdict (held_by (stance_of m p)) (Some (asked_by p.lines token)) answer ≡ None
    pub ice_follows : FollowsAnswer m p token answer q
    pub dtls_starts : StartsDtls m.dtls p.dtls p.dtls.active (role_for (sdp_setup answer)) p.greatest (Ok tt) q.dtls
    pub sctp_starts : StartsBySdp m p false answer (halves_for m p false token.says_init token.changes answer p.ids) (Ok tt) q.sctp
    pub media_updated : UpdatesMedia m p.media (updates_for m p false token.changes answer p.ids) q.media
    pub rest : q ≡ record p {
      outstanding = false;
      lines = table_after p.lines (parsed_lines answer) false;
      channels = all_confirmed (fitting_channels token.changes) p.channels;
      fingerprint = option_or p.fingerprint (sdp_fingerprint answer);
      ids = ids_after_halves m p false token.says_init token.changes answer p.ids;
      ice = q.ice;
      dtls = q.dtls;
      sctp = q.sctp;
      media = q.media;
    }

  pub record AnswerFaulted (p : Peer I D S M N) (token : PendingOffer) (answer : Sdp) (q : Peer I D S M N) : Type 0 where
    pub right : p.counter ≡ raised token.id
    pub passes : verdict (held_by (stance_of m p)) (Some (asked_by p.lines token)) answer ≡ None
    pub ice_follows : FollowsAnswer m p token answer q
    pub dtls_fails : StartsDtls m.dtls p.dtls p.dtls.active (role_for (sdp_setup answer)) p.greatest (Err Fault) q.dtls
    pub media_prepared : m.media.prepared p.media (updates_for m p false token.changes answer p.ids) (Ok tt) q.media
    pub rest : q ≡ record p {
      outstanding = false;
      ids = ids_after_halves m p false token.says_init token.changes answer p.ids;
      ice = q.ice;
      dtls = q.dtls;
      media = q.media;
    }

  pub record AnswerUnstarted (p : Peer I D S M N) (token : PendingOffer) (answer : Sdp) (q : Peer I D S M N) : Type 0 where
    pub right : p.counter ≡ raised token.id
    pub passes : verdict (held_by (stance_of m p)) (Some (asked_by p.lines token)) answer ≡ None
    pub ice_follows : FollowsAnswer m p token answer q
    pub dtls_starts : StartsDtls m.dtls p.dtls p.dtls.active (role_for (sdp_setup answer)) p.greatest (Ok tt) q.dtls
    pub sctp_fails : StartsBySdp m p false answer (halves_for m p false token.says_init token.changes answer p.ids)
        (Err (Proto AssociationFault)) q.sctp
    pub media_prepared : m.media.prepared p.media (updates_for m p false token.changes answer p.ids) (Ok tt) q.media
    pub rest : q ≡ record p {
      outstanding = false;
      ids = ids_after_halves m p false token.says_init token.changes answer p.ids;
      ice = q.ice;
      dtls = q.dtls;
      sctp = q.sctp;
      media = q.media;
    }

  pub record AnswerStopped (p : Peer I D S M N) (token : PendingOffer) (answer : Sdp) (q : Peer I D S M N) : Type 0 where
    pub right : p.counter ≡ raised token.id
    pub stops : StopsAccepting m (record p { outstanding = false }) (Some (asked_by p.lines token)) token.changes answer
        (staged_restart token.changes) None p.ids q
    pub rest : q ≡ record p { outstanding = false; ids = q.ids; ice = q.ice; dtls = q.dtls; sctp = q.sctp; media = q.media }

  -- A peer accepts an answer with the token of its offer, or refuses it.
  abbrev pub AcceptsAnswer : Peer I D S M N → PendingOffer → Sdp → Result (Unit {0}) RtcError → Peer I D S M N → Type 0
  AcceptsAnswer p token answer (Ok done) q = AnswerAccepted p token answer q
  AcceptsAnswer p token answer (Err (Net cause)) q = ⊥
  AcceptsAnswer p token answer (Err (MediaFailed cause)) q = ⊥
  AcceptsAnswer p token answer (Err BadChannel) q = ⊥
  AcceptsAnswer p token answer (Err Glare) q = ⊥
  AcceptsAnswer p token answer (Err ChangesOutOfOrder) q = (p.counter ≢ raised token.id) × (q ≡ p)
  AcceptsAnswer p token answer (Err (RemoteSdp why)) q =
      (p.counter ≡ raised token.id) × Refuses p (Some (asked_by p.lines token)) answer (RefusedSdp why) q
  AcceptsAnswer p token answer (Err (SdpRefused error)) q =
      (p.counter ≡ raised token.id) × Refuses p (Some (asked_by p.lines token)) answer (RefusedText error) q
  AcceptsAnswer p token answer (Err (Dtls Fault)) q = AnswerFaulted p token answer q
  AcceptsAnswer p token answer (Err (Dtls WouldBlock)) q = ⊥
  AcceptsAnswer p token answer (Err (Dtls DtlsAlloc)) q = ⊥
  AcceptsAnswer p token answer (Err (Sctp error)) q = (error ≡ Proto AssociationFault) × AnswerUnstarted p token answer q
  AcceptsAnswer p token answer (Err Alloc) q = AnswerStopped p token answer q
