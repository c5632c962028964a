-- Lines of the standards' examples, computed from the table.
use Rattle.std.proofs.Common.{◌≡◌, false, [], ◌∷◌, refl}
use Rattle.std.specs.Prelude.{codes}
use Rattle.rtc_wire_text.specs.Numbers.{number}
use Rattle.rtc_wire.specs.declared.protocol.Protocol.TheVariants.{Udp}
use Rattle.rtc_sdp_values.specs.Extension.{of_uri}
use Rattle.rtc_sdp_values.specs.declared.candidate_kind.CandidateKind.TheVariants.{Host, ServerReflexive}
use Rattle.rtc_sdp_values.specs.declared.direction.Direction.TheVariants.{SendRecv}
use Rattle.rtc_sdp_values.specs.declared.extension.Extension.TheVariants.{RtpMid}
use Rattle.rtc_sdp_values.specs.declared.line_kind.LineKind.TheVariants.{Audio, Application}
use Rattle.rtc_sdp_values.specs.declared.setup.Setup.TheVariants.{ActPass}
use Rattle.rtc_sdp_attributes.specs.declared.rid_direction.RidDirection.TheVariants.{Send}
use Rattle.rtc_sdp_grammar.specs.ItemForm.{item_of}
use Rattle.rtc_sdp_grammar.specs.Table.{attribute_item}
use Rattle.rtc_sdp_grammar.specs.declared.attribute.Attribute.TheVariants.{MidLine, GroupLine, OtherGroup, SetupLine, DirectionLine, UfragLine, CandidateLine, MessageSizeLine, CodecLine, ParametersLine, ExtensionLine, StreamLine, LayerLine, LayerListLine, SourceLine, SourcePairLine}
use Rattle.rtc_sdp_grammar.specs.declared.item.Item.TheVariants.{BadMedia, Skipped, Version, Origin, Media, Says, Malformed}
use Rattle.rtc_sdp_grammar.specs.declared.level.Level.TheVariants.{SessionLevel, MediaLevel, AnyLevel}
use Rattle.rtc_sdp_grammar.specs.declared.strict.Strict.TheVariants.{Setup}

-- ---- RFC 8866, section 5
version : item_of (codes "v=0") ≡ Version
unfolding item_of
version = refl

origin : item_of (codes "o=jdoe 3724394400 3724394405 IN IP4 198.51.100.1") ≡ Origin 3724394400
unfolding item_of number
origin = refl

session_name : item_of (codes "s=Call to John Smith") ≡ Skipped
unfolding item_of
session_name = refl

-- the profile has no RTP without DTLS
plain_rtp : item_of (codes "m=audio 49170 RTP/AVP 0") ≡ BadMedia
unfolding item_of number
plain_rtp = refl

-- RFC 8866, section 6.6
codec : item_of (codes "a=rtpmap:99 h263-1998/90000") ≡ Says MediaLevel (CodecLine (record { pt = record { 0 = 99 }; codec = codes "h263-1998"; clock = 90000; channels = 1 }))
unfolding item_of attribute_item number
codec = refl

-- ---- RFC 8829, section 7.1
group : item_of (codes "a=group:BUNDLE a1 v1") ≡ Says SessionLevel (GroupLine (codes "a1" ∷ codes "v1" ∷ []))
unfolding item_of attribute_item
group = refl

other_group : item_of (codes "a=group:LS a1 v1") ≡ Says SessionLevel OtherGroup
unfolding item_of attribute_item
other_group = refl

audio : item_of (codes "m=audio 10100 UDP/TLS/RTP/SAVPF 96 0 8 97 98") ≡ Media (record { kind = Audio; disabled = false; formats = 96 ∷ 0 ∷ 8 ∷ 97 ∷ 98 ∷ [] })
unfolding item_of number
audio = refl

mid : item_of (codes "a=mid:a1") ≡ Says MediaLevel (MidLine (codes "a1"))
unfolding item_of attribute_item
mid = refl

stream : item_of (codes "a=msid:47017fee-b6c1-4162-929c-a25110252400 f83006c5-a0ff-4e0a-9ed9-d3e6747be7d9") ≡ Says MediaLevel (StreamLine (record { stream_id = codes "47017fee-b6c1-4162-929c-a25110252400"; track_id = codes "f83006c5-a0ff-4e0a-9ed9-d3e6747be7d9" }))
unfolding item_of attribute_item
stream = refl

direction : item_of (codes "a=sendrecv") ≡ Says MediaLevel (DirectionLine SendRecv)
unfolding item_of attribute_item
direction = refl

stereo : item_of (codes "a=rtpmap:96 opus/48000/2") ≡ Says MediaLevel (CodecLine (record { pt = record { 0 = 96 }; codec = codes "opus"; clock = 48000; channels = 2 }))
unfolding item_of attribute_item number
stereo = refl

parameters : item_of (codes "a=fmtp:97 0-15,66,70") ≡ Says MediaLevel (ParametersLine (record { pt = record { 0 = 97 }; text = codes "0-15,66,70" }))
unfolding item_of attribute_item number
parameters = refl

extension : item_of (codes "a=extmap:1 urn:ietf:params:rtp-hdrext:sdes:mid") ≡ Says MediaLevel (ExtensionLine (1, RtpMid))
unfolding item_of attribute_item number of_uri
extension = refl

ufrag : item_of (codes "a=ice-ufrag:ETEn") ≡ Says AnyLevel (UfragLine (codes "ETEn"))
unfolding item_of attribute_item
ufrag = refl

role : item_of (codes "a=setup:actpass") ≡ Says AnyLevel (SetupLine ActPass)
unfolding item_of attribute_item
role = refl

no_role : item_of (codes "a=setup:holdconn") ≡ Malformed AnyLevel Setup
unfolding item_of attribute_item
no_role = refl

multiplexed : item_of (codes "a=rtcp-mux") ≡ Skipped
unfolding item_of attribute_item
multiplexed = refl

host : item_of (codes "a=candidate:1 1 udp 2113929471 203.0.113.100 10100 typ host")
    ≡ Says MediaLevel (CandidateLine (record { foundation = codes "1"; component = 1; proto = Udp; priority = 2113929471; addr = record { ip = 203 ∷ 0 ∷ 113 ∷ 100 ∷ []; port = 10100 }; kind = Host }))
unfolding item_of attribute_item number
host = refl

-- ---- RFC 8839, section 5.1: what stands behind the kind is ignored, and so are other addresses
reflexive : item_of (codes "a=candidate:2 1 UDP 1694498815 192.0.2.3 45664 typ srflx raddr 203.0.113.141 rport 8998")
    ≡ Says MediaLevel (CandidateLine (record { foundation = codes "2"; component = 1; proto = Udp; priority = 1694498815; addr = record { ip = 192 ∷ 0 ∷ 2 ∷ 3 ∷ []; port = 45664 }; kind = ServerReflexive }))
unfolding item_of attribute_item number
reflexive = refl

of_ipv6 : item_of (codes "a=candidate:1 1 UDP 2130706431 fe80::6676:baff:fe9c:ee4a 8998 typ host") ≡ Skipped
unfolding item_of attribute_item number
of_ipv6 = refl

-- ---- RFC 8841, sections 5.1 and 6.1
channels : item_of (codes "m=application 54111 UDP/DTLS/SCTP webrtc-datachannel") ≡ Media (record { kind = Application; disabled = false; formats = [] })
unfolding item_of number
channels = refl

message_size : item_of (codes "a=max-message-size:100000") ≡ Says MediaLevel (MessageSizeLine 100000)
unfolding item_of attribute_item number
message_size = refl

-- ---- RFC 8853, section 5.6.1, and RFC 8851, section 4
layer_list : item_of (codes "a=simulcast:send 1,4;2,5;~3,~6") ≡ Says MediaLevel (LayerListLine (record { send = codes "1" ∷ codes "2" ∷ codes "3" ∷ []; recv = [] }))
unfolding item_of attribute_item
layer_list = refl

layer : item_of (codes "a=rid:1 send pt=97;max-width=1280") ≡ Says MediaLevel (LayerLine (record { rid = codes "1"; direction = Send; attributes = (codes "max-width", codes "1280") ∷ [] }))
unfolding item_of attribute_item
layer = refl

-- ---- RFC 5576, sections 4.2 and 6.1
source : item_of (codes "a=ssrc:11111 cname:user3@example.com") ≡ Says MediaLevel (SourceLine (record { ssrc = record { 0 = 11111 }; cname = codes "user3@example.com" }))
unfolding item_of attribute_item number
source = refl

source_pair : item_of (codes "a=ssrc-group:FID 11111 22222") ≡ Says MediaLevel (SourcePairLine (record { 0 = 11111 }, record { 0 = 22222 }))
unfolding item_of attribute_item number
source_pair = refl
