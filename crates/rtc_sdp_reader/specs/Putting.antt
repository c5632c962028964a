-- The state of the reader, step by step. Contracts of inner functions cite this; proofs/Resume ties it to the reading of a text.
use Rattle.std.specs.Prelude.{◌≡◌, ℕ, ◌==◌, Bool, true, false, [], ◌∷◌, ◌++◌, Option, Some, None, Result, Ok, Err, if◌then◌else◌}
use Rattle.std.specs.List.{cons_option}
use Rattle.std.specs.Option.{option_or, unwrap_or}
use Rattle.rtc_sdp_values.specs.declared.media_line.MediaLine.{MediaLine}
use Rattle.rtc_sdp_values.specs.declared.sdp.Sdp.{Sdp}
use Rattle.rtc_sdp_values.specs.declared.sdp_error.SdpError.{SdpError}
use Rattle.rtc_sdp_values.specs.declared.sdp_error.SdpError.TheVariants.{Parse, Inconsistent, Alloc}
use Rattle.rtc_sdp_grammar.specs.declared.attribute.Attribute.{Attribute}
use Rattle.rtc_sdp_grammar.specs.declared.attribute.Attribute.TheVariants.{
  MidLine,
  GroupLine,
  SetupLine,
  DirectionLine,
  UfragLine,
  PasswordLine,
  FingerprintLine,
  CandidateLine,
  MessageSizeLine,
  SctpInitLine,
  CodecLine,
  ParametersLine,
  ExtensionLine,
  StreamLine,
  LayerLine,
  LayerListLine,
  SourcePairLine,
  OtherGroup,
  LiteLine,
  SourceLine,
}
use Rattle.rtc_sdp_grammar.specs.declared.item.Item.{Item}
use Rattle.rtc_sdp_grammar.specs.declared.item.Item.TheVariants.{Blank, Bad, BadMedia, Version, Origin, Media, Says, Malformed}
use Rattle.rtc_sdp_grammar.specs.declared.level.Level.{Level}
use Rattle.rtc_sdp_grammar.specs.declared.media_head.MediaHead.{MediaHead}
use Rattle.rtc_sdp_reader.specs.declared.part.Part.{Part}
use Rattle.rtc_sdp_reader.specs.declared.place.Place.{Place}
use Rattle.rtc_sdp_reader.specs.declared.place.Place.TheVariants.{First, Second, Session, Line}
use Rattle.rtc_sdp_reader.specs.declared.reader.Reader.{Reader}
use Rattle.rtc_sdp_reader.specs.declared.stage.Stage.{Stage}
use Rattle.rtc_sdp_reader.specs.declared.stage.Stage.TheVariants.{AwaitVersion, AwaitOrigin, InSession, InLine}
use Rattle.rtc_sdp_reader.specs.LineValue.{line_of}
use Rattle.rtc_sdp_reader.specs.Parting.{counts, is_mid_line}
use Rattle.rtc_sdp_reader.specs.Refusal.{next_number}
use Rattle.rtc_sdp_reader.specs.SessionValue.{sdp_made}

-- ---- the part that is being built
abbrev pub empty_part : Part
empty_part = record {
  mid = None;
  groups = [];
  setup = None;
  dir = None;
  ufrag = None;
  pass = None;
  lite = false;
  fingerprint = None;
  candidates = [];
  max_message_size = None;
  sctp_init = None;
  codecs = [];
  parameters = [];
  exts = [];
  msid = None;
  layers = [];
  layer_list = None;
  cname = None;
  sources = [];
  pairs = [];
}

abbrev pub put_attribute : Part → Attribute → Part
put_attribute part (MidLine mid) = record part { mid = option_or part.mid (Some mid) }
put_attribute part (GroupLine mids) = record part { groups = part.groups ++ mids ∷ [] }
put_attribute part (SetupLine setup) = record part { setup = option_or part.setup (Some setup) }
put_attribute part (DirectionLine dir) = record part { dir = option_or part.dir (Some dir) }
put_attribute part (UfragLine ufrag) = record part { ufrag = option_or part.ufrag (Some ufrag) }
put_attribute part (PasswordLine password) = record part { pass = option_or part.pass (Some password) }
put_attribute part (FingerprintLine fingerprint) = record part { fingerprint = option_or part.fingerprint (Some fingerprint) }
put_attribute part (CandidateLine candidate) = record part { candidates = part.candidates ++ candidate ∷ [] }
put_attribute part (MessageSizeLine size) = record part { max_message_size = option_or part.max_message_size (Some size) }
put_attribute part (SctpInitLine chunk) = record part { sctp_init = option_or part.sctp_init (Some chunk) }
put_attribute part (CodecLine codec) = record part { codecs = part.codecs ++ codec ∷ [] }
put_attribute part (ParametersLine fmtp) = record part { parameters = part.parameters ++ fmtp ∷ [] }
put_attribute part (ExtensionLine row) = record part { exts = part.exts ++ row ∷ [] }
put_attribute part (StreamLine msid) = record part { msid = option_or part.msid (Some msid) }
put_attribute part (LayerLine layer) = record part { layers = part.layers ++ layer ∷ [] }
put_attribute part (LayerListLine list) = record part { layer_list = option_or part.layer_list (Some list) }
put_attribute part (SourcePairLine pair) = record part { pairs = part.pairs ++ pair ∷ [] }
put_attribute part OtherGroup = part
put_attribute part LiteLine = record part { lite = true }
put_attribute part (SourceLine source) =
    record part { cname = option_or part.cname (Some source.cname); sources = part.sources ++ source.ssrc.0 ∷ [] }

-- ---- the reader
abbrev pub start : Reader
start = record {
  stage = AwaitVersion;
  number = 0;
  id = None;
  session = empty_part;
  lines = [];
  part = empty_part;
  mids = 0;
  begun = 0;
  refused = None;
}

abbrev pub unless : {A : Type 0} → Option ℕ → A → Result A ℕ
unless (Some n) value = Err n
unless None value = Ok value

-- the number of the line that refuses the line part that ends
abbrev pub part_refusal : Reader → Option ℕ
part_refusal reader = if reader.mids == 1 then reader.refused else Some reader.begun

-- a line part ends
abbrev pub line_at : Stage → Part → Option MediaLine
line_at (InLine own) part = line_of own part
line_at _ part = None

abbrev pub part_ended : Reader → Reader
part_ended reader = record reader { lines = reader.lines ++ cons_option (line_at reader.stage reader.part) []; part = empty_part }

-- a line part begins
abbrev pub begun_line : Reader → MediaHead → Reader
begun_line reader head = record reader { stage = InLine head; part = empty_part; mids = 0; begun = reader.number; refused = None }

abbrev pub with_origin : Reader → ℕ → Reader
with_origin reader id = record reader { id = option_or reader.id (Some id) }

-- ---- in front of the `v=` line, and in front of the `o=` line
abbrev pub take_first : Reader → Item → Result Reader ℕ
take_first reader Blank = Ok reader
take_first reader Version = Ok (record reader { stage = AwaitOrigin })
take_first reader _ = Err reader.number

abbrev pub take_second : Reader → Item → Result Reader ℕ
take_second reader Blank = Ok reader
take_second reader (Origin id) = Ok (record reader { stage = InSession; id = option_or reader.id (Some id) })
take_second reader _ = Err reader.number

-- ---- in the session part
abbrev pub take_in_session : Reader → Item → Result Reader ℕ
take_in_session reader Bad = Err reader.number
take_in_session reader BadMedia = Err reader.number
take_in_session reader (Media head) = Ok (begun_line reader head)
take_in_session reader (Origin id) = Ok (with_origin reader id)
take_in_session reader (Malformed level what) = if counts level false then Err reader.number else Ok reader
take_in_session reader (Says level attribute) =
    Ok (if counts level false then record reader { session = put_attribute reader.session attribute } else reader)
take_in_session reader _ = Ok reader

-- ---- in a line part
abbrev pub refuse : Reader → Reader
refuse reader = record reader { refused = option_or reader.refused (Some reader.number) }

abbrev pub with_mid_counted : Reader → Bool → Reader
with_mid_counted reader is_one = record reader { mids = if is_one then next_number reader.mids else reader.mids }

abbrev pub with_line_counted : Reader → Item → Reader
with_line_counted reader item = with_mid_counted reader (is_mid_line item)

abbrev pub put_here : Reader → Level → Attribute → Reader
put_here reader level attribute = if counts level true then record reader { part = put_attribute reader.part attribute } else reader

abbrev pub refuse_here : Reader → Level → Reader
refuse_here reader level = if counts level true then refuse reader else reader

abbrev pub take_in_line : Reader → Item → Result Reader ℕ
take_in_line reader Bad = Ok (refuse reader)
take_in_line reader BadMedia = Err (unwrap_or (part_refusal reader) reader.number)
take_in_line reader (Media head) = unless (part_refusal reader) (begun_line (part_ended reader) head)
take_in_line reader (Origin id) = Ok (with_origin reader id)
take_in_line reader (Malformed level what) = Ok (refuse_here (with_line_counted reader (Malformed level what)) level)
take_in_line reader (Says level attribute) = Ok (put_here (with_line_counted reader (Says level attribute)) level attribute)
take_in_line reader _ = Ok reader

abbrev pub place_of : Stage → Place
place_of AwaitVersion = First
place_of AwaitOrigin = Second
place_of InSession = Session
place_of (InLine own) = Line

abbrev pub take_at : Place → Reader → Item → Result Reader ℕ
take_at First reader item = take_first reader item
take_at Second reader item = take_second reader item
take_at Session reader item = take_in_session reader item
take_at Line reader item = take_in_line reader item

abbrev pub step : Reader → Item → Result Reader ℕ
step reader item = take_at (place_of reader.stage) (record reader { number = next_number reader.number }) item

-- ---- the end of the text
abbrev pub made : Reader → Sdp
made reader = sdp_made reader.id reader.session reader.lines

abbrev pub finish_at : Place → Reader → Result Sdp ℕ
finish_at First reader = Err (next_number reader.number)
finish_at Second reader = Err (next_number reader.number)
finish_at Session reader = Ok (made reader)
finish_at Line reader = unless (part_refusal reader) (made (part_ended reader))

abbrev pub finish : Reader → Result Sdp ℕ
finish reader = finish_at (place_of reader.stage) reader

-- what a call on the reader's state leaves, if this is what the step gives
abbrev pub StepsTo : Result (Unit {0}) SdpError → Reader → Result Reader ℕ → Type 0
StepsTo (Ok done) after given = given ≡ Ok after
StepsTo (Err (Parse n)) after given = given ≡ Err n
StepsTo (Err (Inconsistent why)) after given = ⊥
StepsTo (Err Alloc) after given = Unit {0}
