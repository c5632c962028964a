-- What errors of a peer print.
use Rattle.std.specs.Prelude.{ℕ, List, ◌++◌, codes}
use Rattle.rtc_wire.specs.declared.io_text.IoText.TheVariants.{EmptyDatagram, UnknownDatagram}
use Rattle.rtc_wire.specs.declared.net_error.NetError.{NetError}
use Rattle.rtc_wire.specs.declared.net_error.NetError.TheVariants.{Stun, Io}
use Rattle.rtc_sdp_values.specs.SdpErrorText.{sdp_error_text}
use Rattle.rtc_parts.specs.DtlsErrorText.{dtls_error_text}
use Rattle.rtc_parts.specs.MediaErrorText.{media_error_text}
use Rattle.rtc_sctp_values.specs.SctpErrorText.{sctp_error_text}
use Rattle.rtc_peer_rows.specs.WhyText.{why_text}
use Rattle.rtc_peer_core.specs.declared.rtc_error.RtcError.{RtcError}
use Rattle.rtc_peer_core.specs.declared.rtc_error.RtcError.TheVariants.{
  RemoteSdp,
  Sdp,
  Net,
  Dtls,
  Sctp,
  Media,
  ChangesOutOfOrder,
  BadChannel,
  Alloc,
  Glare,
}

-- why a datagram is refused
unfoldable pub net_error_text : NetError → List ℕ
net_error_text (Stun why) = codes "not a STUN message"
net_error_text (Io kind EmptyDatagram) = codes "Empty datagram"
net_error_text (Io kind UnknownDatagram) = codes "Unknown datagram"

unfoldable pub rtc_error_text : RtcError → List ℕ
rtc_error_text (RemoteSdp why) = codes "remote sdp: " ++ why_text why
rtc_error_text (Sdp error) = sdp_error_text error
rtc_error_text (Net error) = net_error_text error
rtc_error_text (Dtls error) = dtls_error_text error
rtc_error_text (Sctp error) = sctp_error_text error
rtc_error_text (Media error) = media_error_text error
rtc_error_text ChangesOutOfOrder = codes "Changes made out of order"
rtc_error_text BadChannel = codes "channel config refused"
rtc_error_text Alloc = codes "out of memory"
rtc_error_text Glare = codes "offer collides with a pending offer"
