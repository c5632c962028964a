-- Closing leaves the greatest moment, the channels, and the entries and the state of streams.
use Rattle.std.proofs.Common.{◌≡◌, Bool, true, false, [], Result, Ok, Err, refl, ap, ◌∙◌}
use Rattle.rtc_peer_core.specs.declared.phase.Phase.{Phase}
use Rattle.rtc_peer_core.specs.declared.phase.Phase.TheVariants.{Alive, Closing, Closed}
use Rattle.rtc_peer_core.specs.declared.rtc_error.RtcError.{RtcError}
use Rattle.rtc_peer_core.specs.declared.rtc_error.RtcError.TheVariants.{Dtls, Sctp, Alloc}
use Rattle.rtc_peer_core.specs.Meanings.{Meanings}
use Rattle.rtc_peer_transport.specs.declared.polled_peer.PolledPeer.{PolledPeer}
use Rattle.rtc_peer_transport.specs.Closing.{ShutsMedia, ShutsStreams, ShutsDtls, BecomesClosing, BeginsClosing, ClosesPeer, ClosesPeerFrom}
use Rattle.rtc_peer_transport.specs.Stages.{Call, InTurn, Failed, Passed}
use Rattle.rtc_sctp_values.specs.declared.proto_error.ProtoError.TheVariants as proto
use Rattle.rtc_sctp_values.specs.declared.sctp_error.SctpError.{SctpError}
use Rattle.rtc_sctp_values.specs.declared.sctp_error.SctpError.TheVariants as sctp
use Rattle.rtc_sctp.specs.Streams.{SctpStreams}
use Rattle.rtc_sctp.specs.Calls.{ShutBy, Shuts, is_ended}
use Rattle.rtc_sctp_laws.proofs.CallUses.{shut_entries}
use Rattle.rtc_parts.specs.AssociationLaws.{AssociationLaws}
use Rattle.rtc_sctp.specs.declared.rtc_sctp_state.RtcSctpState.{RtcSctpState}
use Rattle.rtc_sctp_laws.proofs.AsideActs.{shuts_aside}
use Rattle.rtc_sctp_laws.proofs.CallActs.{shuts_did}
use Rattle.rtc_peer_laws.proofs.ActedClosing.{beside}
use Rattle.rtc_peer_laws.proofs.ChangedRows.{moved_ungiven, no_acts, only_called, only_on}
use Rattle.rtc_peer_laws.specs.RowsChanged.{OnlyActs, begun_as}

abbrev pub KeepsChannels : {I D S M N : Type 0} → PolledPeer I D S M N → PolledPeer I D S M N → Type 0
KeepsChannels p q =
    (q.core.greatest ≡ p.core.greatest)
    × (q.core.channels ≡ p.core.channels)
    × (q.core.sctp.entries ≡ p.core.sctp.entries)
    × (q.core.sctp.state ≡ p.core.sctp.state)

abbrev CallKeepsChannels : {I D S M N : Type 0} → Call (PolledPeer I D S M N) → Type 0
CallKeepsChannels {I} {D} {S} {M} {N} call =
    (p : PolledPeer I D S M N) (r : Result (Unit {0}) RtcError) (q : PolledPeer I D S M N) → call p r q → KeepsChannels p q

turn_keeps : {I D S M N : Type 0} (first rest : Call (PolledPeer I D S M N)) → CallKeepsChannels first → CallKeepsChannels rest
    → CallKeepsChannels (InTurn first rest)
turn_keeps first rest one other p r q (Failed error is h) = one p (Err error) q h
turn_keeps first rest one other p r q (Passed between h k) =
    let a = one p (Ok tt) between h in
    let b = other between r q k in
    (b.0 ∙ a.0, b.1 ∙ a.1, b.2 ∙ a.2, b.3 ∙ a.3)

module _ {I D S M E X T W N : Type 0} (m : Meanings I D S M E X T W N) where
  media_keeps : CallKeepsChannels (ShutsMedia m)
  unfolding ShutsMedia
  media_keeps p (Ok done) q h = beside KeepsChannels p _ q h.1 (refl, refl, refl, refl)
  media_keeps p (Err Alloc) q h = beside KeepsChannels p _ q h.1 (refl, refl, refl, refl)
  media_keeps p (Err _) q h = absurd h

  shuts_begun : (ended : Bool) (p : SctpStreams S) (r : Result (Unit {0}) SctpError) (q : SctpStreams S) → ShutBy m.association ended p r q
      → begun_as q ≡ begun_as p
  shuts_begun true p r q h = ap begun_as h.1
  shuts_begun false p (Ok done) q h = ap begun_as h.1
  shuts_begun false p (Err (sctp.Proto proto.Fault)) q h = ap begun_as h.1
  shuts_begun false p (Err sctp.Alloc) q h = ap begun_as h.1
  shuts_begun false p (Err e) q h = absurd h

  shuts_state : (ended : Bool) (p : SctpStreams S) (r : Result (Unit {0}) SctpError) (q : SctpStreams S) → ShutBy m.association ended p r q
      → q.state ≡ p.state
  shuts_state ended p r q h = ap (λ (x : RtcSctpState × Bool). x.0) (shuts_begun ended p r q h)

  shuts_keep : (p : SctpStreams S) (r : Result (Unit {0}) SctpError) (q : SctpStreams S) → Shuts m.association p r q → q.entries ≡ p.entries
  shuts_keep p r q h = shut_entries m.association (is_ended m.association p.association) p r q h

  streams_keep : CallKeepsChannels (ShutsStreams m)
  unfolding ShutsStreams
  streams_keep p (Ok done) q h = beside KeepsChannels p _ q h.1 (refl, refl, shuts_keep p.core.sctp _ q.core.sctp h.0, shuts_state (is_ended m.association p.core.sctp.association) p.core.sctp _ q.core.sctp h.0)
  streams_keep p (Err (Sctp cause)) q h = beside KeepsChannels p _ q h.2 (refl, refl, shuts_keep p.core.sctp _ q.core.sctp h.1, shuts_state (is_ended m.association p.core.sctp.association) p.core.sctp _ q.core.sctp h.1)
  streams_keep p (Err Alloc) q h = beside KeepsChannels p _ q h.1 (refl, refl, shuts_keep p.core.sctp _ q.core.sctp h.0, shuts_state (is_ended m.association p.core.sctp.association) p.core.sctp _ q.core.sctp h.0)
  streams_keep p (Err _) q h = absurd h

  dtls_keeps : CallKeepsChannels (ShutsDtls m)
  unfolding ShutsDtls
  dtls_keeps p (Ok done) q h = beside KeepsChannels p _ q h.1 (refl, refl, refl, refl)
  dtls_keeps p (Err (Dtls cause)) q h = beside KeepsChannels p _ q h.2 (refl, refl, refl, refl)
  dtls_keeps p (Err Alloc) q h = beside KeepsChannels p _ q h.1 (refl, refl, refl, refl)
  dtls_keeps p (Err _) q h = absurd h

  begins_keep : CallKeepsChannels (BeginsClosing m)
  begins_keep =
      turn_keeps (ShutsMedia m) _ media_keeps
      (turn_keeps (ShutsStreams m) _ streams_keep
      (turn_keeps (ShutsDtls m) BecomesClosing dtls_keeps (λ p r q h. beside KeepsChannels p _ q h.1 (refl, refl, refl, refl))))

  closes_from : (phase : Phase) → CallKeepsChannels (ClosesPeerFrom m phase)
  closes_from Alive p r q h = begins_keep p r q h
  closes_from Closing p r q h = beside KeepsChannels p p q h.1 (refl, refl, refl, refl)
  closes_from Closed p r q h = beside KeepsChannels p p q h.1 (refl, refl, refl, refl)

  pub close_rows : CallKeepsChannels (ClosesPeer m)
  close_rows p r q h = closes_from p.core.phase p r q h

  -- ---- it acts on the association, by which no event is told

  abbrev CallOnlyActs : Call (PolledPeer I D S M N) → Type 0
  CallOnlyActs call =
      (p : PolledPeer I D S M N) (r : Result (Unit {0}) RtcError) (q : PolledPeer I D S M N) → call p r q → OnlyActs m.association p.core.sctp q.core.sctp

  only_still : (p q : PolledPeer I D S M N) → q.core.sctp ≡ p.core.sctp → OnlyActs m.association p.core.sctp q.core.sctp
  only_still p q is = no_acts m.association p.core.sctp p.core.sctp q.core.sctp is refl refl refl

  media_only : CallOnlyActs (ShutsMedia m)
  unfolding ShutsMedia
  media_only p (Ok done) q h = only_still p q (ap (λ (x : PolledPeer I D S M N). x.core.sctp) h.1)
  media_only p (Err Alloc) q h = only_still p q (ap (λ (x : PolledPeer I D S M N). x.core.sctp) h.1)
  media_only p (Err _) q h = absurd h

  shuts_only : (p : SctpStreams S) (r : Result (Unit {0}) SctpError) (q : SctpStreams S) → Shuts m.association p r q → OnlyActs m.association p q
  shuts_only p r q h =
      only_called m.association p q (shuts_aside m.association p r q h)
      (moved_ungiven m.association [] [] p q refl (shuts_did m.association p r q h)) (shuts_keep p r q h)
      (shuts_begun (is_ended m.association p.association) p r q h)

  streams_only : CallOnlyActs (ShutsStreams m)
  unfolding ShutsStreams
  streams_only p (Ok done) q h = shuts_only p.core.sctp _ q.core.sctp h.0
  streams_only p (Err (Sctp cause)) q h = shuts_only p.core.sctp _ q.core.sctp h.1
  streams_only p (Err Alloc) q h = shuts_only p.core.sctp _ q.core.sctp h.0
  streams_only p (Err _) q h = absurd h

  dtls_only : CallOnlyActs (ShutsDtls m)
  unfolding ShutsDtls
  dtls_only p (Ok done) q h = only_still p q (ap (λ (x : PolledPeer I D S M N). x.core.sctp) h.1)
  dtls_only p (Err (Dtls cause)) q h = only_still p q (ap (λ (x : PolledPeer I D S M N). x.core.sctp) h.2)
  dtls_only p (Err Alloc) q h = only_still p q (ap (λ (x : PolledPeer I D S M N). x.core.sctp) h.1)
  dtls_only p (Err _) q h = absurd h

  module _ (w : AssociationLaws m.association) where
    turn_only : (first rest : Call (PolledPeer I D S M N)) → CallOnlyActs first → CallOnlyActs rest → CallOnlyActs (InTurn first rest)
    turn_only first rest one other p r q (Failed error is h) = one p (Err error) q h
    turn_only first rest one other p r q (Passed between h k) =
        only_on m.association w p.core.sctp between.core.sctp q.core.sctp (one p (Ok tt) between h) (other between r q k)

    begins_only : CallOnlyActs (BeginsClosing m)
    begins_only =
        turn_only (ShutsMedia m) _ media_only
        (turn_only (ShutsStreams m) _ streams_only
        (turn_only (ShutsDtls m) BecomesClosing dtls_only (λ p r q h. only_still p q (ap (λ (x : PolledPeer I D S M N). x.core.sctp) h.1))))

    from_only : (phase : Phase) → CallOnlyActs (ClosesPeerFrom m phase)
    from_only Alive p r q h = begins_only p r q h
    from_only Closing p r q h = only_still p q (ap (λ (x : PolledPeer I D S M N). x.core.sctp) h.1)
    from_only Closed p r q h = only_still p q (ap (λ (x : PolledPeer I D S M N). x.core.sctp) h.1)

    pub close_only : CallOnlyActs (ClosesPeer m)
    close_only p r q h = from_only p.core.phase p r q h
