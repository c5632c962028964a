-- Header extensions: their URIs, and the lines that have them (RFC 8285, section 5).
use Rattle.std.specs.Prelude.{ℕ, Bool, true, false, List, Option, Some, None, if◌then◌else◌, codes}
use Rattle.std.specs.Str.{bytes_eq}
use Rattle.rtc_sdp_values.specs.declared.extension.Extension.{Extension}
use Rattle.rtc_sdp_values.specs.declared.extension.Extension.TheVariants.{
  AudioLevel,
  AbsoluteSendTime,
  TransportSequenceNumber,
  RtpMid,
  RtpStreamId,
  RepairedRtpStreamId,
  VideoOrientation,
}

-- the URI that names an extension
abbrev pub uri_of : Extension → List ℕ
uri_of AudioLevel = codes "urn:ietf:params:rtp-hdrext:ssrc-audio-level"
uri_of AbsoluteSendTime = codes "http://www.webrtc.org/experiments/rtp-hdrext/abs-send-time"
uri_of TransportSequenceNumber = codes "http://www.ietf.org/id/draft-holmer-rmcat-transport-wide-cc-extensions-01"
uri_of RtpMid = codes "urn:ietf:params:rtp-hdrext:sdes:mid"
uri_of RtpStreamId = codes "urn:ietf:params:rtp-hdrext:sdes:rtp-stream-id"
uri_of RepairedRtpStreamId = codes "urn:ietf:params:rtp-hdrext:sdes:repaired-rtp-stream-id"
uri_of VideoOrientation = codes "urn:3gpp:video-orientation"

-- the extension that a URI names
unfoldable pub of_uri : List ℕ → Option Extension
of_uri uri =
    if bytes_eq uri (uri_of AudioLevel) then Some AudioLevel
    else if bytes_eq uri (uri_of AbsoluteSendTime) then Some AbsoluteSendTime
    else if bytes_eq uri (uri_of TransportSequenceNumber) then Some TransportSequenceNumber
    else if bytes_eq uri (uri_of RtpMid) then Some RtpMid
    else if bytes_eq uri (uri_of RtpStreamId) then Some RtpStreamId
    else if bytes_eq uri (uri_of RepairedRtpStreamId) then Some RepairedRtpStreamId
    else if bytes_eq uri (uri_of VideoOrientation) then Some VideoOrientation
    else None

-- whether an audio line has it
abbrev pub suits_audio : Extension → Bool
suits_audio AudioLevel = true
suits_audio AbsoluteSendTime = true
suits_audio TransportSequenceNumber = true
suits_audio RtpMid = true
suits_audio RtpStreamId = false
suits_audio RepairedRtpStreamId = false
suits_audio VideoOrientation = false

-- whether a video line has it
abbrev pub suits_video : Extension → Bool
suits_video AudioLevel = false
suits_video AbsoluteSendTime = true
suits_video TransportSequenceNumber = true
suits_video RtpMid = true
suits_video RtpStreamId = true
suits_video RepairedRtpStreamId = true
suits_video VideoOrientation = true

-- two extensions are the same
abbrev pub same_extension : Extension → Extension → Bool
same_extension left right = bytes_eq (uri_of left) (uri_of right)
