-- The table of attributes: each that is known, by its name; all others are skipped. A row has its name, its level, what becomes of a
-- malformed value, and its form.
use Rattle.std.specs.Prelude.{ℕ, List, [], ◌∷◌, Option, Some, None, option_map, if◌then◌else◌, codes}
use Rattle.std.specs.Str.{bytes_eq}
use Rattle.rtc_wire_text.specs.Fields.{each}
use Rattle.rtc_wire_text.specs.Numbers.{number}
use Rattle.rtc_wire_text.specs.Words.{words}
use Rattle.rtc_sdp_values.specs.declared.direction.Direction.TheVariants.{SendRecv, SendOnly, RecvOnly, Inactive}
use Rattle.rtc_sdp_attributes.specs.Forms.{short_token, spaceless, word_up_to, one_of, saying, valued, bare}
use Rattle.rtc_sdp_attributes.specs.AttributeForms.{
  setup_words,
  fingerprint,
  candidate,
  rtpmap,
  fmtp,
  extmap,
  msid,
  rid,
  simulcast,
  source,
  source_pair_form,
}
use Rattle.rtc_sdp_grammar.specs.declared.attribute.Attribute.{Attribute}
use Rattle.rtc_sdp_grammar.specs.declared.attribute.Attribute.TheVariants.{
  MidLine,
  GroupLine,
  OtherGroup,
  SetupLine,
  DirectionLine,
  UfragLine,
  PasswordLine,
  LiteLine,
  FingerprintLine,
  CandidateLine,
  MessageSizeLine,
  SctpInitLine,
  CodecLine,
  ParametersLine,
  ExtensionLine,
  StreamLine,
  LayerLine,
  LayerListLine,
  SourceLine,
  SourcePairLine,
}
use Rattle.rtc_sdp_grammar.specs.declared.item.Item.{Item}
use Rattle.rtc_sdp_grammar.specs.declared.item.Item.TheVariants.{Skipped, Says, Malformed}
use Rattle.rtc_sdp_grammar.specs.declared.level.Level.{Level}
use Rattle.rtc_sdp_grammar.specs.declared.level.Level.TheVariants.{SessionLevel, MediaLevel, AnyLevel}
use Rattle.rtc_sdp_grammar.specs.declared.strict.Strict.{Strict}
use Rattle.rtc_sdp_grammar.specs.declared.strict.Strict.TheVariants.{Mid, Group, Setup, Fingerprint, MessageSize}

-- what becomes of a line whose value is malformed
pub data Fault : Type 0 where
  Refuses : Strict → Fault
  IsSkipped : Fault

pub record Row : Type 0 where
  pub name : List ℕ
  pub level : Level
  pub fault : Fault
  pub form : Option (List ℕ) → Option Attribute

abbrev pub row : List ℕ → Level → Fault → (Option (List ℕ) → Option Attribute) → Row
row name level fault form = record { name = name; level = level; fault = fault; form = form }

-- BUNDLE M M, each mid behind a single space (RFC 8843, section 7.1); groups of other names have no use here
abbrev pub group_words : List (List ℕ) → Option Attribute
group_words [] = Some OtherGroup
group_words (word ∷ mids) = if bytes_eq word (codes "BUNDLE") then option_map GroupLine (each short_token mids) else Some OtherGroup

abbrev pub group : Option (List ℕ) → Option Attribute
group None = Some OtherGroup
group (Some value) = group_words (words value)

-- ---- the rows
abbrev pub table : List Row
table =
    row (codes "mid") MediaLevel (Refuses Mid) (valued (saying MidLine short_token))
    ∷ row (codes "group") SessionLevel (Refuses Group) group
    ∷ row (codes "setup") AnyLevel (Refuses Setup) (valued (saying SetupLine (one_of setup_words)))
    ∷ row (codes "fingerprint") AnyLevel (Refuses Fingerprint) (valued (saying FingerprintLine fingerprint))
    ∷ row (codes "max-message-size") MediaLevel (Refuses MessageSize) (valued (saying MessageSizeLine number))
    ∷ row (codes "ice-ufrag") AnyLevel IsSkipped (valued (saying UfragLine (word_up_to 255)))
    ∷ row (codes "ice-pwd") AnyLevel IsSkipped (valued (saying PasswordLine (word_up_to 256)))
    ∷ row (codes "ice-lite") SessionLevel IsSkipped (bare LiteLine)
    ∷ row (codes "candidate") MediaLevel IsSkipped (valued (saying CandidateLine candidate))
    ∷ row (codes "sendrecv") MediaLevel IsSkipped (bare (DirectionLine SendRecv))
    ∷ row (codes "sendonly") MediaLevel IsSkipped (bare (DirectionLine SendOnly))
    ∷ row (codes "recvonly") MediaLevel IsSkipped (bare (DirectionLine RecvOnly))
    ∷ row (codes "inactive") MediaLevel IsSkipped (bare (DirectionLine Inactive))
    ∷ row (codes "rtpmap") MediaLevel IsSkipped (valued (saying CodecLine rtpmap))
    ∷ row (codes "fmtp") MediaLevel IsSkipped (valued (saying ParametersLine fmtp))
    ∷ row (codes "extmap") MediaLevel IsSkipped (valued (saying ExtensionLine extmap))
    ∷ row (codes "msid") MediaLevel IsSkipped (valued (saying StreamLine msid))
    ∷ row (codes "rid") MediaLevel IsSkipped (valued (saying LayerLine rid))
    ∷ row (codes "simulcast") MediaLevel IsSkipped (valued (saying LayerListLine simulcast))
    ∷ row (codes "ssrc") MediaLevel IsSkipped (valued (saying SourceLine source))
    ∷ row (codes "ssrc-group") MediaLevel IsSkipped (valued (saying SourcePairLine source_pair_form))
    ∷ row (codes "sctp-init") MediaLevel IsSkipped (valued (saying SctpInitLine spaceless))
    ∷ []

-- ---- the lookup
abbrev pub row_item : Level → Fault → Option Attribute → Item
row_item level fault (Some attribute) = Says level attribute
row_item level (Refuses what) None = Malformed level what
row_item level IsSkipped None = Skipped

-- what the first row of this name gives; other names are skipped
abbrev pub looked_up : List Row → List ℕ → Option (List ℕ) → Item
looked_up [] name value = Skipped
looked_up (row ∷ rest) name value =
    if bytes_eq name row.name then row_item row.level row.fault (row.form value) else looked_up rest name value

-- what a=NAME and a=NAME:VALUE say
unfoldable pub attribute_item : List ℕ → Option (List ℕ) → Item
attribute_item name value = looked_up table name value
