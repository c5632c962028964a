-- What offers and answers that are accepted, refused or stopped leave of channels and of the entries of streams.
use Rattle.std.proofs.Common.{◌≡◌, ◌⊎◌, inl, inr, ◌∙◌, true, false, [], Some, None, Result, Ok, Err, refl, ap}
use Rattle.rtc_parts.specs.AssociationLaws.{AssociationLaws}
use Rattle.rtc_parts.specs.declared.dtls_error.DtlsError.TheVariants.{WouldBlock, Fault, Alloc as DtlsAlloc}
use Rattle.rtc_sdp_values.specs.declared.sdp.Sdp.{Sdp}
use Rattle.rtc_sdp_values.specs.Sdp.{sdp_setup, max_message_size_of}
use Rattle.rtc_peer_rows.specs.ParsedLines.{parsed_lines}
use Rattle.rtc_change.specs.TableAfter.{table_after}
use Rattle.rtc_change.specs.Plans.{asked_by}
use Rattle.rtc_change.specs.PendingOffer.{PendingOffer, staged_restart}
use Rattle.rtc_sctp_values.specs.declared.proto_error.ProtoError.TheVariants.{Fault as AssociationFault}
use Rattle.rtc_sctp_values.specs.declared.sctp_error.SctpError.TheVariants.{Proto}
use Rattle.rtc_channels.specs.Channels.{all_confirmed}
use Rattle.rtc_peer_core.specs.declared.peer.Peer.{Peer}
use Rattle.rtc_peer_core.specs.declared.rtc_error.RtcError.{RtcError}
use Rattle.rtc_peer_core.specs.declared.rtc_error.RtcError.TheVariants.{RemoteSdp, Sdp as SdpRefused, Dtls, Sctp, Net, Media as MediaFailed, ChangesOutOfOrder, BadChannel, Alloc, Glare}
use Rattle.rtc_peer_core.specs.Meanings.{Meanings}
use Rattle.rtc_peer_core.specs.Calls.{raised, control_for, fitting_channels}
use Rattle.rtc_peer_core.specs.MadeSdp.{role_after}
use Rattle.rtc_peer_core.specs.SdpMoves.{followed_restart, answer_ids, halves_for}
use Rattle.rtc_peer_core.specs.PartMoves.{remote_limit}
use Rattle.rtc_peer_core.specs.Acceptances.{AcceptsOffer, AcceptsAnswer}
use Rattle.rtc_peer_laws.proofs.KeptAcceptances.{sctp_entries, stops_entries}

module _ {I D S M E X T W N : Type 0} (m : Meanings I D S M E X T W N) (w : AssociationLaws m.association) where
  -- both stay
  abbrev pub LeavesBoth : Peer I D S M N → Peer I D S M N → Type 0
  LeavesBoth p q = (q.sctp.entries ≡ p.sctp.entries) × (q.channels ≡ p.channels)

  left_as : (p n q : Peer I D S M N) → q ≡ n → n.sctp.entries ≡ p.sctp.entries → n.channels ≡ p.channels → LeavesBoth p q
  left_as p n q is entries channels =
      (ap (λ (x : Peer I D S M N). x.sctp.entries) is ∙ entries, ap (λ (x : Peer I D S M N). x.channels) is ∙ channels)

  pub offer_left : (p : Peer I D S M N) (offer : Sdp) (r : Result Sdp RtcError) (c : Peer I D S M N) → AcceptsOffer m p offer r c → LeavesBoth p c
  offer_left p offer (Ok answer) c h = (
    (sctp_entries m w (table_after p.lines (parsed_lines offer) true) (role_after p.dtls.active (sdp_setup offer)) p.greatest
        (remote_limit (max_message_size_of offer)) (halves_for m p true true [] offer (answer_ids m p offer)) false p.sctp (Ok tt) c.sctp
        h.sctp_starts).0,
    ap (λ (x : Peer I D S M N). x.channels) h.rest,
  )
  offer_left p offer (Err (RemoteSdp why)) c h = left_as p _ c h.1.1 refl refl
  offer_left p offer (Err (SdpRefused error)) c h = left_as p _ c h.1.1 refl refl
  offer_left p offer (Err (Dtls Fault)) c h = left_as p _ c h.rest refl refl
  offer_left p offer (Err (Dtls WouldBlock)) c h = absurd h
  offer_left p offer (Err (Dtls DtlsAlloc)) c h = absurd h
  offer_left p offer (Err (Sctp error)) c h = (
    (sctp_entries m w (table_after p.lines (parsed_lines offer) true) (role_after p.dtls.active (sdp_setup offer)) p.greatest
        (remote_limit (max_message_size_of offer)) (halves_for m p true true [] offer (answer_ids m p offer)) false p.sctp
        (Err (Proto AssociationFault)) c.sctp h.1.sctp_fails).0,
    ap (λ (x : Peer I D S M N). x.channels) h.1.rest,
  )
  offer_left p offer (Err ChangesOutOfOrder) c h = absurd h
  offer_left p offer (Err (Net cause)) c h = absurd h
  offer_left p offer (Err (MediaFailed cause)) c h = absurd h
  offer_left p offer (Err BadChannel) c h = absurd h
  offer_left p offer (Err Glare) c h = left_as p p c h.1 refl refl
  offer_left p offer (Err Alloc) c h = (
    (stops_entries m w p (raised p.counter) None [] offer (followed_restart m p offer) (control_for p.dtls.active offer.ice_lite) (answer_ids m p offer) c
        h.stops).0,
    ap (λ (x : Peer I D S M N). x.channels) h.rest,
  )

  -- the channels of a token may be confirmed
  pub record AnswerLeft (p : Peer I D S M N) (token : PendingOffer) (q : Peer I D S M N) : Type 0 where
    pub entries : q.sctp.entries ≡ p.sctp.entries
    pub channels : (q.channels ≡ p.channels) ⊎ (q.channels ≡ all_confirmed (fitting_channels token.changes) p.channels)

  still : (p : Peer I D S M N) (token : PendingOffer) (q : Peer I D S M N) → LeavesBoth p q → AnswerLeft p token q
  still p token q h = record { entries = h.0; channels = inl h.1 }

  pub answer_left : (p : Peer I D S M N) (token : PendingOffer) (answer : Sdp) (r : Result (Unit {0}) RtcError) (c : Peer I D S M N)
      → AcceptsAnswer m p token answer r c → AnswerLeft p token c
  answer_left p token answer (Ok done) c h = record {
    entries =
        (sctp_entries m w (table_after p.lines (parsed_lines answer) false) (role_after p.dtls.active (sdp_setup answer)) p.greatest
        (remote_limit (max_message_size_of answer)) (halves_for m p false token.says_init token.changes answer p.ids) true p.sctp (Ok tt) c.sctp
        h.sctp_starts).0;
    channels = inr (ap (λ (x : Peer I D S M N). x.channels) h.rest);
  }
  answer_left p token answer (Err (Net cause)) c h = absurd h
  answer_left p token answer (Err (MediaFailed cause)) c h = absurd h
  answer_left p token answer (Err BadChannel) c h = absurd h
  answer_left p token answer (Err Glare) c h = absurd h
  answer_left p token answer (Err ChangesOutOfOrder) c h = still p token c (left_as p p c h.1 refl refl)
  answer_left p token answer (Err (RemoteSdp why)) c h = still p token c (left_as p _ c h.1.1 refl refl)
  answer_left p token answer (Err (SdpRefused error)) c h = still p token c (left_as p _ c h.1.1 refl refl)
  answer_left p token answer (Err (Dtls Fault)) c h = still p token c (left_as p _ c h.rest refl refl)
  answer_left p token answer (Err (Dtls WouldBlock)) c h = absurd h
  answer_left p token answer (Err (Dtls DtlsAlloc)) c h = absurd h
  answer_left p token answer (Err (Sctp error)) c h =
      still p token c (
        (sctp_entries m w (table_after p.lines (parsed_lines answer) false) (role_after p.dtls.active (sdp_setup answer)) p.greatest
            (remote_limit (max_message_size_of answer)) (halves_for m p false token.says_init token.changes answer p.ids) true p.sctp
            (Err (Proto AssociationFault)) c.sctp h.1.sctp_fails).0,
        ap (λ (x : Peer I D S M N). x.channels) h.1.rest,
      )
  answer_left p token answer (Err Alloc) c h =
      still p token c (
        (stops_entries m w p p.counter (Some (asked_by p.lines token)) token.changes answer (staged_restart token.changes) None p.ids c h.stops).0,
        ap (λ (x : Peer I D S M N). x.channels) h.rest,
      )
