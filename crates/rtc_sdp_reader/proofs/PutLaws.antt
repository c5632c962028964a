-- What was put into a part, with what the attributes behind still give.
use Rattle.std.proofs.Common.{◌≡◌, Bool, true, false, ◌||◌, List, [], ◌∷◌, ◌++◌, Option, Some, None, refl, append_assoc}
use Rattle.std.proofs.lemmas.List.{append-nil}
use Rattle.std.specs.List.{filter_map}
use Rattle.std.specs.Option.{option_or}
use Rattle.rtc_wire_text.specs.Fields.{first}
use Rattle.rtc_sdp_grammar.specs.declared.attribute.Attribute.{Attribute}
use Rattle.rtc_sdp_grammar.specs.declared.attribute.Attribute.TheVariants.{MidLine, GroupLine, SetupLine, DirectionLine, UfragLine, PasswordLine, FingerprintLine, CandidateLine, MessageSizeLine, SctpInitLine, CodecLine, ParametersLine, ExtensionLine, StreamLine, LayerLine, LayerListLine, SourcePairLine, OtherGroup, LiteLine, SourceLine}
use Rattle.rtc_sdp_reader.specs.declared.part.Part.{Part}
use Rattle.rtc_sdp_reader.specs.Said.{part_said, cname_of, said_source, said_mid, group_of, said_setup, said_direction, said_ufrag, said_password, said_fingerprint, said_candidate, message_size_of, said_sctp_init, codec_of, parameters_of, extension_of, said_stream, layer_of, layer_list_of, source_pair_of}
use Rattle.rtc_sdp_reader.specs.Putting.{put_attribute}

-- a part, and behind it another that goes on with it
abbrev pub joined : Part → Part → Part
joined a b = record {
  mid = option_or a.mid b.mid;
  groups = a.groups ++ b.groups;
  setup = option_or a.setup b.setup;
  dir = option_or a.dir b.dir;
  ufrag = option_or a.ufrag b.ufrag;
  pass = option_or a.pass b.pass;
  lite = a.lite || b.lite;
  fingerprint = option_or a.fingerprint b.fingerprint;
  candidates = a.candidates ++ b.candidates;
  max_message_size = option_or a.max_message_size b.max_message_size;
  sctp_init = option_or a.sctp_init b.sctp_init;
  codecs = a.codecs ++ b.codecs;
  parameters = a.parameters ++ b.parameters;
  exts = a.exts ++ b.exts;
  msid = option_or a.msid b.msid;
  layers = a.layers ++ b.layers;
  layer_list = option_or a.layer_list b.layer_list;
  cname = option_or a.cname b.cname;
  sources = a.sources ++ b.sources;
  pairs = a.pairs ++ b.pairs;
}

or_none : {A : Type 0} (a : Option A) → option_or a None ≡ a
or_none None = refl
or_none (Some x) = refl

or_same : (a : Bool) → (a || false) ≡ a
or_same true = refl
or_same false = refl

or_true : (a : Bool) → (a || true) ≡ true
or_true true = refl
or_true false = refl

pub or_assoc : {A : Type 0} (a b c : Option A) → option_or (option_or a b) c ≡ option_or a (option_or b c)
or_assoc None b c = refl
or_assoc (Some x) b c = refl

-- nothing comes behind
pub joined_end : (part : Part) → joined part (part_said []) ≡ part
joined_end part =
    rw (or_none part.mid, append-nil part.groups, or_none part.setup, or_none part.dir, or_none part.ufrag, or_none part.pass, or_same part.lite, or_none part.fingerprint, append-nil part.candidates, or_none part.max_message_size, or_none part.sctp_init, append-nil part.codecs, append-nil part.parameters, append-nil part.exts, or_none part.msid, append-nil part.layers, or_none part.layer_list, or_none part.cname, append-nil part.sources, append-nil part.pairs) refl

-- one more attribute
pub joined_put : (part : Part) (a : Attribute) (more : List Attribute) → joined (put_attribute part a) (part_said more) ≡ joined part (part_said (a ∷ more))
joined_put part (MidLine x) more = rw (or_assoc part.mid (Some x) (first said_mid more)) refl
joined_put part (GroupLine x) more = rw (append_assoc part.groups (x ∷ []) (filter_map group_of more)) refl
joined_put part (SetupLine x) more = rw (or_assoc part.setup (Some x) (first said_setup more)) refl
joined_put part (DirectionLine x) more = rw (or_assoc part.dir (Some x) (first said_direction more)) refl
joined_put part (UfragLine x) more = rw (or_assoc part.ufrag (Some x) (first said_ufrag more)) refl
joined_put part (PasswordLine x) more = rw (or_assoc part.pass (Some x) (first said_password more)) refl
joined_put part (FingerprintLine x) more = rw (or_assoc part.fingerprint (Some x) (first said_fingerprint more)) refl
joined_put part (CandidateLine x) more = rw (append_assoc part.candidates (x ∷ []) (filter_map said_candidate more)) refl
joined_put part (MessageSizeLine x) more = rw (or_assoc part.max_message_size (Some x) (first message_size_of more)) refl
joined_put part (SctpInitLine x) more = rw (or_assoc part.sctp_init (Some x) (first said_sctp_init more)) refl
joined_put part (CodecLine x) more = rw (append_assoc part.codecs (x ∷ []) (filter_map codec_of more)) refl
joined_put part (ParametersLine x) more = rw (append_assoc part.parameters (x ∷ []) (filter_map parameters_of more)) refl
joined_put part (ExtensionLine x) more = rw (append_assoc part.exts (x ∷ []) (filter_map extension_of more)) refl
joined_put part (StreamLine x) more = rw (or_assoc part.msid (Some x) (first said_stream more)) refl
joined_put part (LayerLine x) more = rw (append_assoc part.layers (x ∷ []) (filter_map layer_of more)) refl
joined_put part (LayerListLine x) more = rw (or_assoc part.layer_list (Some x) (first layer_list_of more)) refl
joined_put part (SourcePairLine x) more = rw (append_assoc part.pairs (x ∷ []) (filter_map source_pair_of more)) refl
joined_put part OtherGroup more = refl
joined_put part LiteLine more = rw (or_true part.lite) refl
joined_put part (SourceLine x) more = rw (or_assoc part.cname (Some x.cname) (first cname_of more), append_assoc part.sources (x.ssrc.0 ∷ []) (filter_map said_source more)) refl
