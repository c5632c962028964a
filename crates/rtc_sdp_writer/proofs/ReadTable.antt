-- What each row of the table of attributes gives.
use Rattle.std.proofs.Common.{◌≡◌, ◌≤◌, ℕ, Bool, true, false, cond, eqb, List, [], ◌∷◌, Option, Some, None}
use Rattle.std.specs.Prelude.{codes, IfSome, option_map}
use Rattle.std.specs.List.{AllByRecursion}
use Rattle.std.specs.Str.{bytes_eq}
use Rattle.rtc_wire_text.specs.Cuts.{Lacks}
use Rattle.rtc_wire_text.specs.Fields.{each}
use Rattle.rtc_wire_text.specs.Numbers.{number}
use Rattle.rtc_wire_text.specs.Once.{IsApart}
use Rattle.rtc_wire_text.specs.Tokens.{is_short_token}
use Rattle.rtc_wire_text.specs.Words.{words}
use Rattle.rtc_sdp_values.specs.declared.direction.Direction.TheVariants.{SendRecv, SendOnly, RecvOnly, Inactive}
use Rattle.rtc_sdp_attributes.specs.AttributeForms.{setup_words, fingerprint, candidate, rtpmap, fmtp, extmap, msid, rid, simulcast, source, source_pair_form}
use Rattle.rtc_sdp_attributes.specs.Forms.{Form, short_token, spaceless, word_up_to, one_of, saying, valued, bare}
use Rattle.rtc_sdp_grammar.specs.declared.attribute.Attribute.{Attribute}
use Rattle.rtc_sdp_grammar.specs.declared.attribute.Attribute.TheVariants.{MidLine, GroupLine, OtherGroup, SetupLine, DirectionLine, UfragLine, PasswordLine, LiteLine, FingerprintLine, CandidateLine, MessageSizeLine, SctpInitLine, CodecLine, ParametersLine, ExtensionLine, StreamLine, LayerLine, LayerListLine, SourceLine, SourcePairLine}
use Rattle.rtc_sdp_grammar.specs.declared.item.Item.{Item}
use Rattle.rtc_sdp_grammar.specs.declared.item.Item.TheVariants.{Media, Says}
use Rattle.rtc_sdp_grammar.specs.declared.level.Level.{Level}
use Rattle.rtc_sdp_grammar.specs.Table.{Fault, Refuses, IsSkipped, Row, group_words, group, table, row_item, looked_up, attribute_item}
use Rattle.rtc_sdp_writer.specs.Plain.{IsPlainExtension, IsPairOfLine}
use Rattle.rtc_sdp_writer.proofs.ReadForms.{Gives, anything, if_some, short_tokens, extensions_plain, layers_plain}
use Rattle.rtc_sdp_writer.proofs.ReadLayers.{IsReadLayers, layer_lists_read}

-- ---- what is used of an attribute, and of a line
abbrev pub IsAttributeRead : Attribute → Type 0
IsAttributeRead (MidLine mid) = is_short_token mid ≡ true
IsAttributeRead (ExtensionLine row) = IsPlainExtension row
IsAttributeRead (LayerLine layer) = AllByRecursion IsPairOfLine layer.attributes
IsAttributeRead (LayerListLine list) = IsReadLayers list
IsAttributeRead _ = Unit {0}

-- payload types of seven bits, each once
abbrev pub AreFormatsRead : List ℕ → Type 0
AreFormatsRead formats = AllByRecursion (λ n. n ≤ 127) formats × IsApart eqb formats

abbrev pub IsItemRead : Item → Type 0
IsItemRead (Says level attribute) = IsAttributeRead attribute
IsItemRead (Media head) = AreFormatsRead head.formats
IsItemRead _ = Unit {0}

-- ---- the table of attributes
abbrev ValueLacks : Option (List ℕ) → Type 0
ValueLacks value = IfSome value (λ text. Lacks 10 text)

abbrev IsFormRead : (Option (List ℕ) → Option Attribute) → Type 0
IsFormRead form = (value : Option (List ℕ)) → ValueLacks value → IfSome (form value) IsAttributeRead

said_read : {A : Type 0} (says : A → Attribute) (form : Form A) (P : A → Type 0) → Gives form P → ((a : A) → P a → IsAttributeRead (says a))
    → IsFormRead (valued (saying says form))
said_read says form P gives then None h = tt
said_read says form P gives then (Some text) h = if_some says P IsAttributeRead then (form text) (gives text h)

free_read : {A : Type 0} (says : A → Attribute) (form : Form A) → ((a : A) → IsAttributeRead (says a)) → IsFormRead (valued (saying says form))
free_read says form free = said_read says form (λ a. Unit {0}) (λ text lacks. anything (form text)) (λ a u. free a)

bare_read : (says : Attribute) → IsAttributeRead says → IsFormRead (bare says)
bare_read says h None lacks = h
bare_read says h (Some value) lacks = tt

group_read : IsFormRead group
group_read None lacks = tt
group_read (Some text) lacks = by (words text)
  where
    by : (fields : List (List ℕ)) → IfSome (group_words fields) IsAttributeRead
    by [] = tt
    by (word ∷ mids) = on (bytes_eq word (codes "BUNDLE"))
      where
        on : (b : Bool) → IfSome (cond b (option_map GroupLine (each short_token mids)) (Some OtherGroup)) IsAttributeRead
        on true = if_some GroupLine (λ m. Unit {0}) IsAttributeRead (λ m u. tt) (each short_token mids) (anything (each short_token mids))
        on false = tt

row_read : (level : Level) (fault : Fault) (found : Option Attribute) → IfSome found IsAttributeRead → IsItemRead (row_item level fault found)
row_read level fault (Some attribute) h = h
row_read level (Refuses what) None h = tt
row_read level IsSkipped None h = tt

rows_read : (rows : List Row) → AllByRecursion (λ row. IsFormRead row.form) rows → (name : List ℕ) (value : Option (List ℕ)) → ValueLacks value
    → IsItemRead (looked_up rows name value)
rows_read [] h name value lacks = tt
rows_read (row ∷ rows) h name value lacks = by (rows_read rows h.1 name value lacks) (bytes_eq name row.name)
  where
    by : IsItemRead (looked_up rows name value) → (b : Bool)
        → IsItemRead (cond b (row_item row.level row.fault (row.form value)) (looked_up rows name value))
    by rest true = row_read row.level row.fault (row.form value) (h.0 value lacks)
    by rest false = rest

pub attribute_read : (name : List ℕ) (value : Option (List ℕ)) → ValueLacks value → IsItemRead (attribute_item name value)
unfolding attribute_item
attribute_read name value lacks = rows_read table all name value lacks
  where
    all : AllByRecursion (λ row. IsFormRead row.form) table
    all = (
      said_read MidLine short_token (λ mid. is_short_token mid ≡ true) short_tokens (λ mid h. h),
      (
        group_read,
        (
          free_read SetupLine (one_of setup_words) (λ a. tt),
          (
            free_read FingerprintLine fingerprint (λ a. tt),
            (
              free_read MessageSizeLine number (λ a. tt),
              (
                free_read UfragLine (word_up_to 255) (λ a. tt),
                (
                  free_read PasswordLine (word_up_to 256) (λ a. tt),
                  (
                    bare_read LiteLine tt,
                    (
                      free_read CandidateLine candidate (λ a. tt),
                      (
                        bare_read (DirectionLine SendRecv) tt,
                        (
                          bare_read (DirectionLine SendOnly) tt,
                          (
                            bare_read (DirectionLine RecvOnly) tt,
                            (
                              bare_read (DirectionLine Inactive) tt,
                              (
                                free_read CodecLine rtpmap (λ a. tt),
                                (
                                  free_read ParametersLine fmtp (λ a. tt),
                                  (
                                    said_read ExtensionLine extmap IsPlainExtension extensions_plain (λ row h. h),
                                    (
                                      free_read StreamLine msid (λ a. tt),
                                      (
                                        said_read LayerLine rid (λ line. AllByRecursion IsPairOfLine line.attributes) layers_plain (λ line h. h),
                                        (
                                          said_read LayerListLine simulcast IsReadLayers layer_lists_read (λ line h. h),
                                          (
                                            free_read SourceLine source (λ a. tt),
                                            (
                                              free_read SourcePairLine source_pair_form (λ a. tt),
                                              (
                                                free_read SctpInitLine spaceless (λ a. tt),
                                                tt,
                                              ),
                                            ),
                                          ),
                                        ),
                                      ),
                                    ),
                                  ),
                                ),
                              ),
                            ),
                          ),
                        ),
                      ),
                    ),
                  ),
                ),
              ),
            ),
          ),
        ),
      ),
    )
