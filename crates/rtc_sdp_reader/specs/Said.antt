-- What single attributes give to the value of a part, and the part that attributes make.
use Rattle.std.specs.Prelude.{ℕ, Bool, true, false, List, Option, Some, None}
use Rattle.std.specs.List.{filter_map, list_any}
use Rattle.rtc_wire_text.specs.Fields.{first}
use Rattle.rtc_sdp_values.specs.declared.extension.Extension.{Extension}
use Rattle.rtc_sdp_values.specs.declared.msid.Msid.{Msid}
use Rattle.rtc_sdp_values.specs.declared.ssrc.Ssrc.{Ssrc}
use Rattle.rtc_sdp_attributes.specs.declared.fmtp.Fmtp.{Fmtp}
use Rattle.rtc_sdp_attributes.specs.declared.rid_line.RidLine.{RidLine}
use Rattle.rtc_sdp_attributes.specs.declared.rtpmap.Rtpmap.{Rtpmap}
use Rattle.rtc_sdp_attributes.specs.declared.simulcast_line.SimulcastLine.{SimulcastLine}
use Rattle.rtc_sdp_values.specs.declared.candidate.Candidate.{Candidate}
use Rattle.rtc_sdp_values.specs.declared.direction.Direction.{Direction}
use Rattle.rtc_sdp_values.specs.declared.fingerprint.Fingerprint.{Fingerprint}
use Rattle.rtc_sdp_values.specs.declared.setup.Setup.{Setup}
use Rattle.rtc_sdp_reader.specs.declared.part.Part.{Part}
use Rattle.rtc_sdp_grammar.specs.declared.attribute.Attribute.{Attribute}
use Rattle.rtc_sdp_grammar.specs.declared.attribute.Attribute.TheVariants.{
  MidLine,
  GroupLine,
  SetupLine,
  DirectionLine,
  UfragLine,
  PasswordLine,
  LiteLine,
  FingerprintLine,
  CandidateLine,
  MessageSizeLine,
  SctpInitLine,
}
use Rattle.rtc_sdp_grammar.specs.declared.attribute.Attribute.TheVariants.{
  CodecLine,
  ParametersLine,
  ExtensionLine,
  StreamLine,
  LayerLine,
  LayerListLine,
  SourceLine,
  SourcePairLine,
}

abbrev pub value_or : {A : Type 0} → A → Option A → A
value_or default None = default
value_or default (Some value) = value

-- ---- the frame
abbrev pub said_mid : Attribute → Option (List ℕ)
said_mid (MidLine mid) = Some mid
said_mid _ = None

abbrev pub group_of : Attribute → Option (List (List ℕ))
group_of (GroupLine mids) = Some mids
group_of _ = None

abbrev pub said_setup : Attribute → Option Setup
said_setup (SetupLine setup) = Some setup
said_setup _ = None

abbrev pub said_direction : Attribute → Option Direction
said_direction (DirectionLine dir) = Some dir
said_direction _ = None

-- ---- a connection
abbrev pub said_ufrag : Attribute → Option (List ℕ)
said_ufrag (UfragLine ufrag) = Some ufrag
said_ufrag _ = None

abbrev pub said_password : Attribute → Option (List ℕ)
said_password (PasswordLine password) = Some password
said_password _ = None

abbrev pub is_lite : Attribute → Bool
is_lite LiteLine = true
is_lite _ = false

abbrev pub said_fingerprint : Attribute → Option Fingerprint
said_fingerprint (FingerprintLine fingerprint) = Some fingerprint
said_fingerprint _ = None

abbrev pub said_candidate : Attribute → Option Candidate
said_candidate (CandidateLine candidate) = Some candidate
said_candidate _ = None

abbrev pub message_size_of : Attribute → Option ℕ
message_size_of (MessageSizeLine size) = Some size
message_size_of _ = None

abbrev pub said_sctp_init : Attribute → Option (List ℕ)
said_sctp_init (SctpInitLine chunk) = Some chunk
said_sctp_init _ = None

-- ---- media
abbrev pub codec_of : Attribute → Option Rtpmap
codec_of (CodecLine codec) = Some codec
codec_of _ = None

abbrev pub parameters_of : Attribute → Option Fmtp
parameters_of (ParametersLine fmtp) = Some fmtp
parameters_of _ = None

abbrev pub extension_of : Attribute → Option (ℕ × Extension)
extension_of (ExtensionLine row) = Some row
extension_of _ = None

abbrev pub said_stream : Attribute → Option Msid
said_stream (StreamLine msid) = Some msid
said_stream _ = None

abbrev pub layer_of : Attribute → Option RidLine
layer_of (LayerLine layer) = Some layer
layer_of _ = None

abbrev pub layer_list_of : Attribute → Option SimulcastLine
layer_list_of (LayerListLine list) = Some list
layer_list_of _ = None

abbrev pub cname_of : Attribute → Option (List ℕ)
cname_of (SourceLine source) = Some source.cname
cname_of _ = None

abbrev pub said_source : Attribute → Option ℕ
said_source (SourceLine source) = Some source.ssrc.0
said_source _ = None

abbrev pub source_pair_of : Attribute → Option (Ssrc × Ssrc)
source_pair_of (SourcePairLine pair) = Some pair
source_pair_of _ = None

-- ---- the part: of an attribute that counts once, the first counts
abbrev pub part_said : List Attribute → Part
part_said said = record {
  mid = first said_mid said;
  groups = filter_map group_of said;
  setup = first said_setup said;
  dir = first said_direction said;
  ufrag = first said_ufrag said;
  pass = first said_password said;
  lite = list_any is_lite said;
  fingerprint = first said_fingerprint said;
  candidates = filter_map said_candidate said;
  max_message_size = first message_size_of said;
  sctp_init = first said_sctp_init said;
  codecs = filter_map codec_of said;
  parameters = filter_map parameters_of said;
  exts = filter_map extension_of said;
  msid = first said_stream said;
  layers = filter_map layer_of said;
  layer_list = first layer_list_of said;
  cname = first cname_of said;
  sources = filter_map said_source said;
  pairs = filter_map source_pair_of said;
}
