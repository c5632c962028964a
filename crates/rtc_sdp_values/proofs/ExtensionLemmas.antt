-- An extension is found by its URI.
use Rattle.std.proofs.Common.{◌≡◌, Some, refl}
use Rattle.rtc_sdp_values.specs.declared.extension.Extension.{Extension}
use Rattle.rtc_sdp_values.specs.declared.extension.Extension.TheVariants.{AudioLevel, AbsoluteSendTime, TransportSequenceNumber, RtpMid, RtpStreamId, RepairedRtpStreamId, VideoOrientation}
use Rattle.rtc_sdp_values.specs.Extension.{uri_of, of_uri}

pub of_uri-uri_of : (extension : Extension) → of_uri (uri_of extension) ≡ Some extension
unfolding of_uri
of_uri-uri_of AudioLevel = refl
of_uri-uri_of AbsoluteSendTime = refl
of_uri-uri_of TransportSequenceNumber = refl
of_uri-uri_of RtpMid = refl
of_uri-uri_of RtpStreamId = refl
of_uri-uri_of RepairedRtpStreamId = refl
of_uri-uri_of VideoOrientation = refl
