-- How the ICE agent, the DTLS part and the association follow a session description that is accepted.
use Rattle.std.specs.Prelude.{◌≡◌, ℕ, List, Result, Ok, Err}
use Rattle.rtc_sdp_values.specs.Sdp.{sdp_setup, max_message_size_of}
use Rattle.rtc_sdp_values.specs.declared.line_row.LineRow.{LineRow}
use Rattle.rtc_sdp_values.specs.declared.sdp.Sdp.{Sdp}
use Rattle.rtc_parts.specs.IceMeaning.{IceMeaning}
use Rattle.rtc_parts.specs.declared.dtls_error.DtlsError.{DtlsError}
use Rattle.rtc_parts.specs.declared.dtls_error.DtlsError.TheVariants.{WouldBlock, Fault, Alloc as DtlsAlloc}
use Rattle.rtc_parts.specs.DtlsMeaning.{DtlsMeaning}
use Rattle.rtc_parts.specs.DtlsState.{DtlsState}
use Rattle.rtc_parts.specs.AssociationMeaning.{AssociationMeaning}
use Rattle.rtc_sctp.specs.Streams.{SctpStreams}
use Rattle.rtc_sctp_values.specs.declared.proto_error.ProtoError.TheVariants.{Fault as AssociationFault}
use Rattle.rtc_sctp_values.specs.declared.sctp_error.SctpError.{SctpError}
use Rattle.rtc_sctp_values.specs.declared.sctp_error.SctpError.TheVariants.{Proto}
use Rattle.rtc_peer_core.specs.declared.rtc_error.RtcError.{RtcError}
use Rattle.rtc_peer_core.specs.declared.rtc_error.RtcError.TheVariants.{
  RemoteSdp,
  Sdp as SdpRefused,
  Dtls,
  Sctp,
  Net,
  Media as MediaFailed,
  ChangesOutOfOrder,
  BadChannel,
  Alloc,
  Glare,
}
use Rattle.rtc_peer_core.specs.MadeSdp.{role_for, role_after}
use Rattle.rtc_peer_core.specs.PartMoves.{FollowsSdp, StartsDtls, StartsSctp, StopsMoving, remote_limit}
use Rattle.rtc_peer_negotiation.specs.declared.following.Following.{Following}
use Rattle.rtc_peer_negotiation.specs.declared.starting.Starting.{Starting}

module _ {I : Type 0} (ice : IceMeaning I) where
  -- the agent follows what was made ready
  abbrev pub FollowsReady : I → Following → I → Type 0
  FollowsReady i following j = FollowsSdp ice i following.restart following.creds following.candidates following.control j

-- the three parts move in this order, each once those before it have: the agent, the DTLS part, the association
module _ {I D S : Type 0} (ice : IceMeaning I) (dtls : DtlsMeaning D) (association : AssociationMeaning S) where
  abbrev pub DtlsMoves : DtlsState D → Sdp → ℕ → Result (Unit {0}) DtlsError → DtlsState D → Type 0
  DtlsMoves d sdp now r e = StartsDtls dtls d d.active (role_for (sdp_setup sdp)) now r e

  abbrev pub SctpMoves : DtlsState D → SctpStreams S → Starting → Sdp → List LineRow → ℕ → Result (Unit {0}) SctpError → SctpStreams S
      → Type 0
  SctpMoves d s starting sdp rows now r t =
      StartsSctp association s rows (role_after d.active (sdp_setup sdp)) now (remote_limit (max_message_size_of sdp)) starting.halves
      starting.drops r t

  abbrev pub MovesParts : I → DtlsState D → SctpStreams S → Following → Starting → Sdp → List LineRow → ℕ → Result (Unit {0}) RtcError → I
      → DtlsState D → SctpStreams S → Type 0
  MovesParts i d s following starting sdp rows now (Ok done) j e t =
      FollowsReady ice i following j × DtlsMoves d sdp now (Ok tt) e × SctpMoves d s starting sdp rows now (Ok tt) t
  MovesParts i d s following starting sdp rows now (Err (Dtls Fault)) j e t =
      FollowsReady ice i following j × DtlsMoves d sdp now (Err Fault) e × (t ≡ s)
  MovesParts i d s following starting sdp rows now (Err (Sctp error)) j e t =
      (error ≡ Proto AssociationFault)
      × FollowsReady ice i following j
      × DtlsMoves d sdp now (Ok tt) e
      × SctpMoves d s starting sdp rows now (Err (Proto AssociationFault)) t
  MovesParts i d s following starting sdp rows now (Err Alloc) j e t =
      StopsMoving ice dtls association i d s following.restart following.creds following.candidates following.control
      (role_for (sdp_setup sdp)) rows (role_after d.active (sdp_setup sdp)) now (remote_limit (max_message_size_of sdp))
      starting.halves starting.drops j e t
  MovesParts i d s following starting sdp rows now (Err (Dtls WouldBlock)) j e t = ⊥
  MovesParts i d s following starting sdp rows now (Err (Dtls DtlsAlloc)) j e t = ⊥
  MovesParts i d s following starting sdp rows now (Err (RemoteSdp why)) j e t = ⊥
  MovesParts i d s following starting sdp rows now (Err (SdpRefused error)) j e t = ⊥
  MovesParts i d s following starting sdp rows now (Err ChangesOutOfOrder) j e t = ⊥
  MovesParts i d s following starting sdp rows now (Err (Net cause)) j e t = ⊥
  MovesParts i d s following starting sdp rows now (Err (MediaFailed cause)) j e t = ⊥
  MovesParts i d s following starting sdp rows now (Err BadChannel) j e t = ⊥
  MovesParts i d s following starting sdp rows now (Err Glare) j e t = ⊥
