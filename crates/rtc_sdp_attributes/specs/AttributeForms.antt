-- The forms of the values of attributes, each with the section that has it.
use Rattle.std.specs.Prelude.{ℕ, Bool, not, List, [], ◌∷◌, filter, Option, Some, None, codes}
use Rattle.std.specs.Str.{bytes_eq}
use Rattle.rtc_wire_text.specs.Cuts.{cut}
use Rattle.rtc_wire_text.specs.Fields.{first}
use Rattle.rtc_wire_text.specs.Fronts.{from_first, is_blank, is_byte}
use Rattle.rtc_wire_text.specs.Hex.{hex_bytes}
use Rattle.rtc_wire_text.specs.LetterCase.{lower}
use Rattle.rtc_wire_text.specs.Numbers.{number_up_to}
use Rattle.rtc_wire_text.specs.Once.{each_once}
use Rattle.rtc_wire_text.specs.Words.{parts, words}
use Rattle.rtc_wire.specs.declared.protocol.Protocol.{Protocol}
use Rattle.rtc_wire.specs.declared.protocol.Protocol.TheVariants.{Udp, Tcp}
use Rattle.rtc_sdp_values.specs.Extension.{of_uri}
use Rattle.rtc_sdp_values.specs.declared.candidate.Candidate.{Candidate}
use Rattle.rtc_sdp_values.specs.declared.candidate_kind.CandidateKind.{CandidateKind}
use Rattle.rtc_sdp_values.specs.declared.candidate_kind.CandidateKind.TheVariants.{Host, ServerReflexive, PeerReflexive, Relayed}
use Rattle.rtc_sdp_values.specs.declared.direction.Direction.{Direction}
use Rattle.rtc_sdp_values.specs.declared.direction.Direction.TheVariants.{SendRecv, SendOnly, RecvOnly, Inactive}
use Rattle.rtc_sdp_values.specs.declared.extension.Extension.{Extension}
use Rattle.rtc_sdp_values.specs.declared.fingerprint.Fingerprint.{Fingerprint}
use Rattle.rtc_sdp_values.specs.declared.msid.Msid.{Msid}
use Rattle.rtc_sdp_values.specs.declared.setup.Setup.{Setup}
use Rattle.rtc_sdp_values.specs.declared.setup.Setup.TheVariants.{ActPass, Active, Passive}
use Rattle.rtc_sdp_values.specs.declared.ssrc.Ssrc.{Ssrc}
use Rattle.rtc_sdp_attributes.specs.declared.fmtp.Fmtp.{Fmtp}
use Rattle.rtc_sdp_attributes.specs.declared.rid_direction.RidDirection.{RidDirection}
use Rattle.rtc_sdp_attributes.specs.declared.rid_direction.RidDirection.TheVariants.{Send, Recv}
use Rattle.rtc_sdp_attributes.specs.declared.rid_line.RidLine.{RidLine}
use Rattle.rtc_sdp_attributes.specs.declared.rtpmap.Rtpmap.{Rtpmap}
use Rattle.rtc_sdp_attributes.specs.declared.simulcast_line.SimulcastLine.{SimulcastLine}
use Rattle.rtc_sdp_attributes.specs.declared.ssrc_name.SsrcName.{SsrcName}
use Rattle.rtc_sdp_attributes.specs.Forms.{
  Form,
  SPACE,
  COMMA,
  DOT,
  SLASH,
  COLON,
  SEMICOLON,
  EQUALS,
  TILDE,
  token,
  short_token,
  filled,
  bytes_but,
  one_of,
  positive_up_to,
  saying,
  in_lower,
  split_fields,
  labelled,
  tailed,
  up_to,
  each_part,
}

-- ---- words
-- RFC 4145, section 4; `holdconn` has no use here
abbrev pub setup_words : List (List ℕ × Setup)
setup_words = (codes "actpass", ActPass) ∷ (codes "active", Active) ∷ (codes "passive", Passive) ∷ []

-- RFC 8866, section 6.7
abbrev pub direction_words : List (List ℕ × Direction)
direction_words =
    (codes "sendrecv", SendRecv)
    ∷ (codes "sendonly", SendOnly)
    ∷ (codes "recvonly", RecvOnly)
    ∷ (codes "inactive", Inactive)
    ∷ []

abbrev pub protocol_words : List (List ℕ × Protocol)
protocol_words = (codes "udp", Udp) ∷ (codes "tcp", Tcp) ∷ []

abbrev pub candidate_kind_words : List (List ℕ × CandidateKind)
candidate_kind_words =
    (codes "host", Host)
    ∷ (codes "srflx", ServerReflexive)
    ∷ (codes "prflx", PeerReflexive)
    ∷ (codes "relay", Relayed)
    ∷ []

abbrev pub rid_direction_words : List (List ℕ × RidDirection)
rid_direction_words = (codes "send", Send) ∷ (codes "recv", Recv) ∷ []

-- ---- H X:X: a token, read in lower case, and pairs of hex digits (RFC 8122, section 5)
abbrev pub fingerprint_made : List ℕ × List ℕ → Fingerprint
fingerprint_made fields = record { hash_func = lower fields.0; bytes = fields.1 }

abbrev pub fingerprint : Form Fingerprint
fingerprint = saying fingerprint_made (split_fields SPACE token hex_bytes)

-- ---- F C T P A N typ K, and more behind a space, which does not count (RFC 8839, section 5.1)
abbrev pub byte_number : Form ℕ
byte_number = number_up_to 255

-- A: four decimal bytes; other addresses are not read
abbrev pub ip_made : ℕ × (ℕ × (ℕ × ℕ)) → List ℕ
ip_made fields = fields.0 ∷ fields.1.0 ∷ fields.1.1.0 ∷ fields.1.1.1 ∷ []

abbrev pub ip : Form (List ℕ)
ip = saying ip_made (split_fields DOT byte_number (split_fields DOT byte_number (split_fields DOT byte_number byte_number)))

abbrev pub candidate_made : List ℕ × (ℕ × (Protocol × (ℕ × (List ℕ × (ℕ × CandidateKind))))) → Candidate
candidate_made fields = record {
  foundation = fields.0;
  component = fields.1.0;
  proto = fields.1.1.0;
  priority = fields.1.1.1.0;
  addr = record { ip = fields.1.1.1.1.0; port = fields.1.1.1.1.1.0 };
  kind = fields.1.1.1.1.1.1;
}

abbrev pub candidate_end : Form CandidateKind
candidate_end = labelled (codes "typ") SPACE (up_to SPACE (one_of candidate_kind_words))

abbrev pub candidate_addr : Form (List ℕ × (ℕ × CandidateKind))
candidate_addr = split_fields SPACE ip (split_fields SPACE (number_up_to 65535) candidate_end)

abbrev pub candidate_transport : Form (Protocol × (ℕ × (List ℕ × (ℕ × CandidateKind))))
candidate_transport =
    split_fields SPACE (in_lower (one_of protocol_words)) (split_fields SPACE (number_up_to 4294967295) candidate_addr)

abbrev pub candidate : Form Candidate
candidate = saying candidate_made (split_fields SPACE token (split_fields SPACE (number_up_to 65535) candidate_transport))

-- ---- PT NAME/CLOCK and PT NAME/CLOCK/CHANNELS (RFC 8866, section 6.6): one channel if none are named
abbrev pub rtpmap_made : ℕ × (List ℕ × (ℕ × ℕ)) → Rtpmap
rtpmap_made fields = record { pt = record { 0 = fields.0 }; codec = fields.1.0; clock = fields.1.1.0; channels = fields.1.1.1 }

abbrev pub rtpmap_rate : Form (ℕ × ℕ)
rtpmap_rate = tailed SLASH (number_up_to 4294967295) 1 (number_up_to 255)

abbrev pub rtpmap : Form Rtpmap
rtpmap = saying rtpmap_made (split_fields SPACE (number_up_to 127) (split_fields SLASH token rtpmap_rate))

-- ---- PT TEXT (RFC 8866, section 6.15)
abbrev pub fmtp_made : ℕ × List ℕ → Fmtp
fmtp_made fields = record { pt = record { 0 = fields.0 }; text = fields.1 }

abbrev pub fmtp : Form Fmtp
fmtp = saying fmtp_made (split_fields SPACE (number_up_to 127) filled)

-- the primary of a retransmission: the first apt=N among pairs, blanks in front of a pair aside (RFC 4588, section 8.1)
abbrev pub apt_pair : Form ℕ
apt_pair pair = labelled (codes "apt") EQUALS (number_up_to 127) (from_first is_blank pair)

abbrev pub apt : Form ℕ
apt text = first apt_pair (parts SEMICOLON text)

-- what is behind the first pair, if this names no payload type
abbrev pub behind_pair : Option ℕ → List ℕ → Option (List ℕ)
behind_pair None rest = Some rest
behind_pair (Some number) rest = None

abbrev pub behind_halves : Option (List ℕ × List ℕ) → Option (List ℕ)
behind_halves None = None
behind_halves (Some halves) = behind_pair (apt_pair halves.0) halves.1

abbrev pub behind_other : List ℕ → Option (List ℕ)
behind_other text = behind_halves (cut SEMICOLON text)

-- the primary of redundant packets: the first number (RFC 2198, section 5)
abbrev pub red_primary : Form ℕ
red_primary = up_to SLASH (number_up_to 127)

-- ---- N URI and N/DIR URI, of which DIR has no use here (RFC 8285, section 8); other URIs are not read
abbrev pub extmap_made : (ℕ × Direction) × Extension → ℕ × Extension
extmap_made fields = (fields.0.0, fields.1)

abbrev pub extmap_id : Form (ℕ × Direction)
extmap_id = tailed SLASH (positive_up_to 255) SendRecv (one_of direction_words)

abbrev pub extmap : Form (ℕ × Extension)
extmap = saying extmap_made (split_fields SPACE extmap_id of_uri)

-- ---- S T (RFC 8830, section 2)
abbrev pub msid_made : List ℕ × List ℕ → Msid
msid_made fields = record { stream_id = fields.0; track_id = fields.1 }

abbrev pub msid : Form Msid
msid = saying msid_made (split_fields SPACE token token)

-- ---- R send and R recv, and maybe pairs (RFC 8851, section 4): payload types of a layer have no use here
abbrev pub is_kept : List ℕ × List ℕ → Bool
is_kept pair = not (bytes_eq pair.0 (codes "pt"))

abbrev pub rid_pair : Form (List ℕ × List ℕ)
rid_pair = split_fields EQUALS Some (bytes_but EQUALS)

abbrev pub rid_pairs : Form (List (List ℕ × List ℕ))
rid_pairs = saying (filter is_kept) (each_part SEMICOLON rid_pair)

abbrev pub rid_made : List ℕ × (RidDirection × List (List ℕ × List ℕ)) → RidLine
rid_made fields = record { rid = fields.0; direction = fields.1.0; attributes = fields.1.1 }

abbrev pub rid : Form RidLine
rid = saying rid_made (split_fields SPACE short_token (tailed SPACE (one_of rid_direction_words) [] rid_pairs))

-- ---- DIR LIST and DIR LIST DIR LIST (RFC 8853, section 5.1)
-- alternatives are dropped, and whether a layer starts paused
abbrev pub layer_name : Form (List ℕ)
layer_name = up_to COMMA (λ name. short_token (from_first (is_byte TILDE) name))

-- each name once
abbrev pub layer_names : Form (List (List ℕ))
layer_names = saying (each_once bytes_eq) (each_part SEMICOLON layer_name)

abbrev pub one_way : Option RidDirection → Option (List (List ℕ)) → Option SimulcastLine
one_way (Some Send) (Some rids) = Some (record { send = rids; recv = [] })
one_way (Some Recv) (Some rids) = Some (record { send = []; recv = rids })
one_way _ _ = None

-- one direction twice is no form
abbrev pub both_ways : Option RidDirection → Option (List (List ℕ)) → Option RidDirection → Option (List (List ℕ)) → Option SimulcastLine
both_ways (Some Send) (Some sent) (Some Recv) (Some received) = Some (record { send = sent; recv = received })
both_ways (Some Recv) (Some received) (Some Send) (Some sent) = Some (record { send = sent; recv = received })
both_ways _ _ _ _ = None

abbrev pub simulcast_words : List (List ℕ) → Option SimulcastLine
simulcast_words (direction ∷ list ∷ []) = one_way (one_of rid_direction_words direction) (layer_names list)
simulcast_words (direction ∷ list ∷ other ∷ rest ∷ []) =
    both_ways (one_of rid_direction_words direction) (layer_names list) (one_of rid_direction_words other) (layer_names rest)
simulcast_words _ = None

abbrev pub simulcast : Form SimulcastLine
simulcast value = simulcast_words (words value)

-- ---- N cname:C (RFC 5576, section 6.1); other attributes of an SSRC are not read
abbrev pub ssrc_number : Form ℕ
ssrc_number = number_up_to 4294967295

abbrev pub source_made : ℕ × List ℕ → SsrcName
source_made fields = record { ssrc = record { 0 = fields.0 }; cname = fields.1 }

abbrev pub source : Form SsrcName
source = saying source_made (split_fields SPACE ssrc_number (labelled (codes "cname") COLON filled))

-- ---- FID N M (RFC 5576, section 4.2): M is the RTX SSRC of N; other groups are not read
abbrev pub source_pair_made : ℕ × ℕ → Ssrc × Ssrc
source_pair_made fields = (record { 0 = fields.0 }, record { 0 = fields.1 })

abbrev pub source_pair_form : Form (Ssrc × Ssrc)
source_pair_form = saying source_pair_made (labelled (codes "FID") SPACE (split_fields SPACE ssrc_number ssrc_number))
