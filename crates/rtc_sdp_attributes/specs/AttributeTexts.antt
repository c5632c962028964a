-- The values of attributes as they are written.
use Rattle.std.specs.Prelude.{ℕ, ◌==◌, List, [], ◌∷◌, ◌++◌, map, if◌then◌else◌, codes}
use Rattle.std.specs.Fmt.{decimal}
use Rattle.rtc_wire_text.specs.Hex.{hex_text}
use Rattle.rtc_wire_text.specs.Words.{joined, spaced}
use Rattle.rtc_wire.specs.declared.protocol.Protocol.{Protocol}
use Rattle.rtc_wire.specs.declared.protocol.Protocol.TheVariants.{Udp, Tcp, SslTcp, Tls}
use Rattle.rtc_sdp_values.specs.Extension.{uri_of}
use Rattle.rtc_sdp_values.specs.declared.candidate.Candidate.{Candidate}
use Rattle.rtc_sdp_values.specs.declared.candidate_kind.CandidateKind.{CandidateKind}
use Rattle.rtc_sdp_values.specs.declared.candidate_kind.CandidateKind.TheVariants.{Host, ServerReflexive, PeerReflexive, Relayed}
use Rattle.rtc_sdp_values.specs.declared.extension.Extension.{Extension}
use Rattle.rtc_sdp_values.specs.declared.fingerprint.Fingerprint.{Fingerprint}
use Rattle.rtc_sdp_values.specs.declared.msid.Msid.{Msid}
use Rattle.rtc_sdp_values.specs.declared.simulcast.Simulcast.{Simulcast}
use Rattle.rtc_sdp_values.specs.declared.simulcast_layer.SimulcastLayer.{SimulcastLayer}
use Rattle.rtc_sdp_attributes.specs.declared.rid_direction.RidDirection.{RidDirection}
use Rattle.rtc_sdp_attributes.specs.declared.rid_direction.RidDirection.TheVariants.{Send, Recv}

-- the hash function, a space and the hash in upper-case hex
unfoldable pub fingerprint_text : Fingerprint → List ℕ
fingerprint_text fingerprint = fingerprint.hash_func ++ (32 ∷ hex_text fingerprint.bytes)

-- ---- candidates
abbrev pub protocol_word : Protocol → List ℕ
protocol_word Udp = codes "udp"
protocol_word Tcp = codes "tcp"
protocol_word SslTcp = codes "ssltcp"
protocol_word Tls = codes "tls"

abbrev pub candidate_kind_word : CandidateKind → List ℕ
candidate_kind_word Host = codes "host"
candidate_kind_word ServerReflexive = codes "srflx"
candidate_kind_word PeerReflexive = codes "prflx"
candidate_kind_word Relayed = codes "relay"

abbrev pub ip_text : List ℕ → List ℕ
ip_text ip = joined 46 (map decimal ip)

unfoldable pub candidate_text : Candidate → List ℕ
candidate_text candidate =
    candidate.foundation ++ spaced (
    decimal candidate.component
    ∷ protocol_word candidate.proto
    ∷ decimal candidate.priority
    ∷ ip_text candidate.addr.ip
    ∷ decimal candidate.addr.port
    ∷ codes "typ"
    ∷ candidate_kind_word candidate.kind
    ∷ [])

-- ---- formats
-- nothing for one channel
abbrev pub channels_text : ℕ → List ℕ
channels_text channels = if channels == 1 then [] else 47 ∷ decimal channels

unfoldable pub rtpmap_text : ℕ → List ℕ → ℕ → ℕ → List ℕ
rtpmap_text pt codec clock channels = decimal pt ++ (32 ∷ (codec ++ (47 ∷ (decimal clock ++ channels_text channels))))

unfoldable pub fmtp_text : ℕ → List ℕ → List ℕ
fmtp_text pt text = decimal pt ++ (32 ∷ text)

unfoldable pub apt_text : ℕ → List ℕ
apt_text pt = codes "apt=" ++ decimal pt

unfoldable pub red_text : ℕ → List ℕ
red_text pt = decimal pt ++ (47 ∷ decimal pt)

unfoldable pub extmap_text : ℕ → Extension → List ℕ
extmap_text id extension = decimal id ++ (32 ∷ uri_of extension)

-- ---- streams and layers
unfoldable pub msid_text : Msid → List ℕ
msid_text msid = msid.stream_id ++ (32 ∷ msid.track_id)

abbrev pub rid_direction_word : RidDirection → List ℕ
rid_direction_word Send = codes "send"
rid_direction_word Recv = codes "recv"

abbrev pub pair_text : List ℕ × List ℕ → List ℕ
pair_text pair = pair.0 ++ (61 ∷ pair.1)

abbrev pub pairs_text : List (List ℕ × List ℕ) → List ℕ
pairs_text [] = []
pairs_text (pair ∷ rest) = 32 ∷ joined 59 (map pair_text (pair ∷ rest))

unfoldable pub rid_text : List ℕ → RidDirection → List (List ℕ × List ℕ) → List ℕ
rid_text rid direction pairs = rid ++ (32 ∷ (rid_direction_word direction ++ pairs_text pairs))

-- what is sent, then what is received
abbrev pub list_text : List ℕ → List (List ℕ) → List ℕ
list_text word rids = word ++ (32 ∷ joined 59 rids)

abbrev pub ways_text : List (List ℕ) → List (List ℕ) → List ℕ
ways_text [] [] = []
ways_text (s ∷ ss) [] = list_text (codes "send") (s ∷ ss)
ways_text [] (r ∷ rs) = list_text (codes "recv") (r ∷ rs)
ways_text (s ∷ ss) (r ∷ rs) = list_text (codes "send") (s ∷ ss) ++ (32 ∷ list_text (codes "recv") (r ∷ rs))

abbrev pub rids_in : List SimulcastLayer → List (List ℕ)
rids_in layers = map (λ layer. layer.rid) layers

unfoldable pub simulcast_text : Simulcast → List ℕ
simulcast_text simulcast = ways_text (rids_in simulcast.send) (rids_in simulcast.recv)

-- ---- SSRCs
unfoldable pub ssrc_name_text : ℕ → List ℕ → List ℕ
ssrc_name_text ssrc cname = decimal ssrc ++ (codes " cname:" ++ cname)

-- the stream of an SSRC, which is written and not read
unfoldable pub ssrc_msid_text : ℕ → List ℕ → List ℕ → List ℕ
ssrc_msid_text ssrc stream track = decimal ssrc ++ (codes " msid:" ++ (stream ++ (32 ∷ track)))

unfoldable pub ssrc_pair_text : ℕ → ℕ → List ℕ
ssrc_pair_text ssrc rtx = codes "FID" ++ spaced (decimal ssrc ∷ decimal rtx ∷ [])
