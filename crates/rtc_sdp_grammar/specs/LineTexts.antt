-- Lines as they are written (RFC 8866, section 5; the user name, the version and the addresses of the `o=` line are our profile's).
use Rattle.std.specs.Prelude.{ℕ, Bool, List, [], ◌∷◌, ◌++◌, map, if◌then◌else◌, codes}
use Rattle.std.specs.Fmt.{decimal}
use Rattle.rtc_wire_text.specs.Words.{spaced}
use Rattle.rtc_sdp_values.specs.declared.direction.Direction.{Direction}
use Rattle.rtc_sdp_values.specs.declared.direction.Direction.TheVariants.{SendRecv, SendOnly, RecvOnly, Inactive}
use Rattle.rtc_sdp_values.specs.declared.line_kind.LineKind.{LineKind}
use Rattle.rtc_sdp_values.specs.declared.line_kind.LineKind.TheVariants.{Audio, Video, Application, Unknown}
use Rattle.rtc_sdp_values.specs.declared.setup.Setup.{Setup}
use Rattle.rtc_sdp_values.specs.declared.setup.Setup.TheVariants.{ActPass, Active, Passive}

-- o=str0m ID 2 IN IP4 0.0.0.0
unfoldable pub origin_line : ℕ → List ℕ
origin_line id = codes "o=str0m" ++ spaced (decimal id ∷ codes "2" ∷ codes "IN" ∷ codes "IP4" ∷ codes "0.0.0.0" ∷ [])

-- a=group:BUNDLE M M
unfoldable pub group_line : List (List ℕ) → List ℕ
group_line mids = codes "a=group:BUNDLE" ++ spaced mids

-- a=mid:M
unfoldable pub mid_line : List ℕ → List ℕ
mid_line mid = codes "a=mid:" ++ mid

abbrev pub setup_word : Setup → List ℕ
setup_word ActPass = codes "actpass"
setup_word Active = codes "active"
setup_word Passive = codes "passive"

-- a=setup:S
unfoldable pub setup_line : Setup → List ℕ
setup_line setup = codes "a=setup:" ++ setup_word setup

abbrev pub direction_word : Direction → List ℕ
direction_word SendRecv = codes "sendrecv"
direction_word SendOnly = codes "sendonly"
direction_word RecvOnly = codes "recvonly"
direction_word Inactive = codes "inactive"

-- a=sendrecv and its kin
unfoldable pub direction_line : Direction → List ℕ
direction_line dir = codes "a=" ++ direction_word dir

-- port 9 denotes any, and port 0 a line that is disabled (RFC 8829, section 5.2.1)
abbrev pub port_word : Bool → List ℕ
port_word disabled = if disabled then codes "0" else codes "9"

-- the words behind the port: PROTO and the formats
abbrev pub transport_words : LineKind → List ℕ → List (List ℕ)
transport_words Audio formats = codes "UDP/TLS/RTP/SAVPF" ∷ map decimal formats
transport_words Video formats = codes "UDP/TLS/RTP/SAVPF" ∷ map decimal formats
transport_words Application formats = codes "UDP/DTLS/SCTP" ∷ codes "webrtc-datachannel" ∷ []
transport_words Unknown formats = codes "UDP" ∷ []

abbrev pub line_kind_word : LineKind → List ℕ
line_kind_word Audio = codes "audio"
line_kind_word Video = codes "video"
line_kind_word Application = codes "application"
line_kind_word Unknown = codes "unknown"

-- m=KIND PORT PROTO FORMATS
unfoldable pub media_line : LineKind → Bool → List ℕ → List ℕ
media_line kind disabled formats = (codes "m=" ++ line_kind_word kind) ++ spaced (port_word disabled ∷ transport_words kind formats)
