-- Parts that move as a session description is accepted, put together from the steps.
use Rattle.std.proofs.Common.{◌≡◌, ℕ, Bool, true, false, true≢false, not, ◌&&◌, List, Ok, Err, refl, sym, ◌∙◌, subst}
use Rattle.std.specs.Prelude.{is_some}
use Rattle.rtc_sdp_values.specs.Sdp.{sdp_setup, max_message_size_of}
use Rattle.rtc_sdp_values.specs.declared.line_row.LineRow.{LineRow}
use Rattle.rtc_sdp_values.specs.declared.sdp.Sdp.{Sdp}
use Rattle.rtc_peer_rows.specs.Table.{app_of}
use Rattle.rtc_parts.specs.IceMeaning.{IceMeaning}
use Rattle.rtc_parts.specs.DtlsMeaning.{DtlsMeaning}
use Rattle.rtc_parts.specs.DtlsState.{DtlsState}
use Rattle.rtc_parts.specs.AssociationMeaning.{AssociationMeaning}
use Rattle.rtc_sctp.specs.Streams.{SctpStreams}
use Rattle.rtc_sctp.specs.Calls.{are_whole}
use Rattle.rtc_sctp_values.specs.declared.proto_error.ProtoError.TheVariants.{Started, SnapHalf, TooLong, NoStream, Fault as AssociationFault}
use Rattle.rtc_sctp_values.specs.declared.sctp_error.SctpError.{SctpError}
use Rattle.rtc_sctp_values.specs.declared.sctp_error.SctpError.TheVariants as sctp
use Rattle.rtc_peer_core.specs.MadeSdp.{role_after}
use Rattle.rtc_peer_core.specs.PartMoves.{AtStart, needs_start, StartsWhere, remote_limit}
use Rattle.rtc_peer_core.specs.RtcErrors.{error_of_sctp}
use Rattle.rtc_peer_negotiation.specs.declared.following.Following.{Following}
use Rattle.rtc_peer_negotiation.specs.declared.starting.Starting.{Starting}
use Rattle.rtc_peer_negotiation.specs.Moves.{FollowsReady, DtlsMoves, SctpMoves, MovesParts}

-- what was started is not to be started
not_again : (has_app started : Bool) → started ≡ true → true ≡ (has_app && not started) → ⊥
not_again true started is needed = let now : true ≡ not true = subst (λ (b : Bool). true ≡ not b) is needed in cc
not_again false started is needed = cc

module _ {I D S : Type 0} (ice : IceMeaning I) (dtls : DtlsMeaning D) (association : AssociationMeaning S) where
  -- the association is not started, for the one cause that it has or for want of memory
  pub sctp_fails : (i j : I) (d e : DtlsState D) (s t : SctpStreams S) (following : Following) (starting : Starting) (sdp : Sdp) (rows : List LineRow) (now : ℕ) (error : SctpError)
      → are_whole starting.halves ≡ true → FollowsReady ice i following j → DtlsMoves ice dtls association d sdp now (Ok tt) e → SctpMoves ice dtls association d s starting sdp rows now (Err error) t
      → MovesParts ice dtls association i d s following starting sdp rows now (Err (error_of_sctp error)) j e t
  sctp_fails i j d e s t following starting sdp rows now error whole follows role fails = by (needs_start association rows s) refl error fails
    where
      by : (needed : Bool) → needed ≡ needs_start association rows s → (error : SctpError)
          → StartsWhere association needed s (role_after d.active (sdp_setup sdp)) now (remote_limit (max_message_size_of sdp)) starting.halves starting.drops (Err error) t
          → MovesParts ice dtls association i d s following starting sdp rows now (Err (error_of_sctp error)) j e t
      by false is error h = absurd (let none = h.0 in cc)
      by true is (sctp.Proto Started) h = absurd (not_again (is_some (app_of rows)) (association.started s.association) h.0 is)
      by true is (sctp.Proto AssociationFault) h =
          (refl, follows, role, subst (λ (b : Bool). StartsWhere association b s (role_after d.active (sdp_setup sdp)) now (remote_limit (max_message_size_of sdp)) starting.halves starting.drops (Err (sctp.Proto AssociationFault)) t) is h)
      by true is (sctp.Proto SnapHalf) h = absurd (true≢false (sym whole ∙ h.1))
      by true is (sctp.Proto (TooLong len max)) h = absurd h
      by true is (sctp.Proto (NoStream id)) h = absurd h
      by true is sctp.WriteBeforeEstablished h = absurd h
      by true is sctp.DcepOpenTooSmall h = absurd h
      by true is sctp.DcepIncorrectMessageType h = absurd h
      by true is sctp.DcepBadUtf8 h = absurd h
      by true is sctp.InvalidSnap h = absurd h
      by true is sctp.Alloc h =
          AtStart follows role (subst (λ (b : Bool). StartsWhere association b s (role_after d.active (sdp_setup sdp)) now (remote_limit (max_message_size_of sdp)) starting.halves starting.drops (Err sctp.Alloc) t) is h)
