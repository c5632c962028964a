-- The name of a hash function that a text announces has no line feed.
use Rattle.std.proofs.Common.{◌≡◌, ℕ, Bool, true, false, ◌&&◌, cond, eqb, List, [], ◌∷◌, map, Option, Some, None, Ok, refl, arith, subst}
use Rattle.std.specs.Prelude.{codes, option_map, IfSome}
use Rattle.std.specs.Char.{to_ascii_lowercase}
use Rattle.std.specs.List.{AllByRecursion, cons_option, list_all}
use Rattle.std.specs.Option.{option_or}
use Rattle.std.specs.Str.{bytes_eq}
use Rattle.std.proofs.lemmas.Bool.Decides.{nat_tests}
use Rattle.rtc_wire_text.specs.Cuts.{cut, Lacks}
use Rattle.rtc_wire_text.specs.Fields.{each, first}
use Rattle.rtc_wire_text.specs.Hex.{hex_bytes}
use Rattle.rtc_wire_text.specs.LetterCase.{lower}
use Rattle.rtc_wire_text.specs.Lines.{lines}
use Rattle.rtc_wire_text.specs.Numbers.{number, number_up_to}
use Rattle.rtc_wire_text.specs.Tokens.{is_token}
use Rattle.rtc_wire_text.specs.Words.{words}
use Rattle.rtc_wire_text.proofs.CutLemmas.{token_lacks, no_token_byte}
use Rattle.rtc_sdp_values.specs.Sdp.{sdp_fingerprint}
use Rattle.rtc_sdp_values.specs.declared.direction.Direction.TheVariants.{SendRecv, SendOnly, RecvOnly, Inactive}
use Rattle.rtc_sdp_values.specs.declared.fingerprint.Fingerprint.{Fingerprint}
use Rattle.rtc_sdp_values.specs.declared.line_kind.LineKind.{LineKind}
use Rattle.rtc_sdp_values.specs.declared.line_kind.LineKind.TheVariants.{Audio, Video, Application, Unknown}
use Rattle.rtc_sdp_values.specs.declared.media_line.MediaLine.{MediaLine}
use Rattle.rtc_sdp_values.specs.declared.sdp.Sdp.{Sdp}
use Rattle.rtc_sdp_attributes.specs.AttributeForms.{setup_words, fingerprint_made, fingerprint, candidate, rtpmap, fmtp, extmap, msid, rid, simulcast, source, source_pair_form}
use Rattle.rtc_sdp_attributes.specs.Forms.{Form, token, short_token, spaceless, word_up_to, one_of, saying, valued, bare, fields_together, halves_together, is_filled}
use Rattle.rtc_sdp_grammar.specs.declared.attribute.Attribute.{Attribute}
use Rattle.rtc_sdp_grammar.specs.declared.attribute.Attribute.TheVariants.{MidLine, GroupLine, OtherGroup, SetupLine, DirectionLine, UfragLine, PasswordLine, LiteLine, FingerprintLine, CandidateLine, MessageSizeLine, SctpInitLine, CodecLine, ParametersLine, ExtensionLine, StreamLine, LayerLine, LayerListLine, SourceLine, SourcePairLine}
use Rattle.rtc_sdp_grammar.specs.declared.item.Item.{Item}
use Rattle.rtc_sdp_grammar.specs.declared.item.Item.TheVariants.{Blank, Bad, BadMedia, Skipped, Version, Origin, Media, Says, Malformed}
use Rattle.rtc_sdp_grammar.specs.declared.level.Level.{Level}
use Rattle.rtc_sdp_grammar.specs.declared.media_head.MediaHead.{MediaHead}
use Rattle.rtc_sdp_grammar.specs.ItemForm.{version, origin_number, origin_words, origin, attribute_parts, attribute as attribute_line, is_letter, lettered, line_parts, item_of, items_of}
use Rattle.rtc_sdp_grammar.specs.MediaForm.{head as head_of, line_kind_of, port_of, with_numbers, is_channel_protocol, of_kind, at_port, media_words, media}
use Rattle.rtc_sdp_grammar.specs.Table.{Fault, Refuses, IsSkipped, Row, group_words, group, table, row_item, looked_up, attribute_item}
use Rattle.rtc_sdp_reader.specs.LineValue.{line_named, line_of, lines_of}
use Rattle.rtc_sdp_reader.specs.Parting.{inner, counts, attribute_here, attributes}
use Rattle.rtc_sdp_reader.specs.Reading.{judged, reading}
use Rattle.rtc_sdp_reader.specs.Refusal.{refused}
use Rattle.rtc_sdp_reader.specs.Said.{said_mid, said_fingerprint, part_said}
use Rattle.rtc_sdp_reader.specs.SessionValue.{sdp_of}
use Rattle.rtc_sdp_reader.proofs.GivenLemmas.{filter_map_gives, first_gives}
use Rattle.rtc_sdp_writer.proofs.ReadForms.{anything, if_some}

-- its name is in one line
abbrev pub HasLineName : Fingerprint → Type 0
HasLineName fingerprint = Lacks 10 fingerprint.hash_func

-- ---- the value of a fingerprint
small_lacks : (byte : ℕ) → eqb byte 10 ≡ false → eqb (to_ascii_lowercase byte) 10 ≡ false
small_lacks byte h = grind (arith, nat_tests)

lower_lacks : (text : List ℕ) → Lacks 10 text → Lacks 10 (lower text)
lower_lacks [] h = tt
lower_lacks (byte ∷ bytes) h = (small_lacks byte h.0, lower_lacks bytes h.1)

field_named : (field : List ℕ) (bytes : Option (List ℕ)) (named : Bool) → is_token field ≡ named
    → IfSome (option_map fingerprint_made (fields_together (cond named (Some field) None) bytes)) HasLineName
field_named field bytes false is = tt
field_named field None true is = tt
field_named field (Some bytes) true is = lower_lacks field (token_lacks 10 (no_token_byte 10 (omega arith)) field is)

fingerprint_named : (text : List ℕ) → IfSome (fingerprint text) HasLineName
fingerprint_named text = by (cut 32 text)
  where
    by : (found : Option (List ℕ × List ℕ)) → IfSome (option_map fingerprint_made (halves_together token hex_bytes found)) HasLineName
    by None = tt
    by (Some halves) = field_named halves.0 (hex_bytes halves.1) (is_token halves.0) refl

-- ---- attributes and lines
abbrev IsNamed : Attribute → Type 0
IsNamed (FingerprintLine fingerprint) = HasLineName fingerprint
IsNamed _ = Unit {0}

abbrev SaysNamed : Item → Type 0
SaysNamed (Says level attribute) = IsNamed attribute
SaysNamed _ = Unit {0}

abbrev IsFormNamed : (Option (List ℕ) → Option Attribute) → Type 0
IsFormNamed form = (value : Option (List ℕ)) → IfSome (form value) IsNamed

free_named : {A : Type 0} (says : A → Attribute) (form : Form A) → ((a : A) → IsNamed (says a)) → IsFormNamed (valued (saying says form))
free_named says form free None = tt
free_named says form free (Some text) = if_some says (λ a. Unit {0}) IsNamed (λ a u. free a) (form text) (anything (form text))

fingerprint_line_named : IsFormNamed (valued (saying FingerprintLine fingerprint))
fingerprint_line_named None = tt
fingerprint_line_named (Some text) = if_some FingerprintLine HasLineName IsNamed (λ f h. h) (fingerprint text) (fingerprint_named text)

bare_named : (says : Attribute) → IsNamed says → IsFormNamed (bare says)
bare_named says h None = h
bare_named says h (Some value) = tt

group_named : IsFormNamed group
group_named None = tt
group_named (Some text) = by (words text)
  where
    by : (fields : List (List ℕ)) → IfSome (group_words fields) IsNamed
    by [] = tt
    by (word ∷ mids) = on (bytes_eq word (codes "BUNDLE"))
      where
        on : (b : Bool) → IfSome (cond b (option_map GroupLine (each short_token mids)) (Some OtherGroup)) IsNamed
        on true = if_some GroupLine (λ m. Unit {0}) IsNamed (λ m u. tt) (each short_token mids) (anything (each short_token mids))
        on false = tt

row_named : (level : Level) (fault : Fault) (found : Option Attribute) → IfSome found IsNamed → SaysNamed (row_item level fault found)
row_named level fault (Some attribute) h = h
row_named level (Refuses what) None h = tt
row_named level IsSkipped None h = tt

rows_named : (rows : List Row) → AllByRecursion (λ row. IsFormNamed row.form) rows → (name : List ℕ) (value : Option (List ℕ))
    → SaysNamed (looked_up rows name value)
rows_named [] h name value = tt
rows_named (row ∷ rows) h name value = by (rows_named rows h.1 name value) (bytes_eq name row.name)
  where
    by : SaysNamed (looked_up rows name value) → (b : Bool)
        → SaysNamed (cond b (row_item row.level row.fault (row.form value)) (looked_up rows name value))
    by rest true = row_named row.level row.fault (row.form value) (h.0 value)
    by rest false = rest

attribute_named : (name : List ℕ) (value : Option (List ℕ)) → SaysNamed (attribute_item name value)
unfolding attribute_item
attribute_named name value = rows_named table all name value
  where
    all : AllByRecursion (λ row. IsFormNamed row.form) table
    all = (free_named MidLine short_token (λ a. tt), (group_named, (free_named SetupLine (one_of setup_words) (λ a. tt), (fingerprint_line_named, (free_named MessageSizeLine number (λ a. tt), (free_named UfragLine (word_up_to 255) (λ a. tt), (free_named PasswordLine (word_up_to 256) (λ a. tt), (bare_named LiteLine tt, (free_named CandidateLine candidate (λ a. tt), (bare_named (DirectionLine SendRecv) tt, (bare_named (DirectionLine SendOnly) tt, (bare_named (DirectionLine RecvOnly) tt, (bare_named (DirectionLine Inactive) tt, (free_named CodecLine rtpmap (λ a. tt), (free_named ParametersLine fmtp (λ a. tt), (free_named ExtensionLine extmap (λ a. tt), (free_named StreamLine msid (λ a. tt), (free_named LayerLine rid (λ a. tt), (free_named LayerListLine simulcast (λ a. tt), (free_named SourceLine source (λ a. tt), (free_named SourcePairLine source_pair_form (λ a. tt), (free_named SctpInitLine spaceless (λ a. tt), tt))))))))))))))))))))))

chosen : (b : Bool) (one other : Item) → SaysNamed one → SaysNamed other → SaysNamed (cond b one other)
chosen true one other h k = h
chosen false one other h k = k

attribute_line_named : (value : List ℕ) → SaysNamed (attribute_line value)
attribute_line_named value = by (cut 58 value)
  where
    by : (found : Option (List ℕ × List ℕ)) → SaysNamed (attribute_parts value found)
    by None = attribute_named value None
    by (Some halves) = attribute_named halves.0 (Some halves.1)

origin_named : (fields : List (List ℕ)) → SaysNamed (origin_words fields)
origin_named [] = tt
origin_named (a ∷ []) = tt
origin_named (a ∷ b ∷ []) = tt
origin_named (a ∷ b ∷ c ∷ []) = tt
origin_named (a ∷ b ∷ c ∷ d ∷ []) = tt
origin_named (a ∷ b ∷ c ∷ d ∷ e ∷ []) = tt
origin_named (a ∷ b ∷ c ∷ d ∷ e ∷ f ∷ []) = chosen (list_all is_filled (a ∷ c ∷ d ∷ e ∷ f ∷ [])) (origin_number (number b)) Skipped (by (number b)) tt
  where
    by : (found : Option ℕ) → SaysNamed (origin_number found)
    by None = tt
    by (Some id) = tt
origin_named (a ∷ b ∷ c ∷ d ∷ e ∷ f ∷ g ∷ more) = tt

numbers_named : (kind : LineKind) (disabled : Bool) (found : Option (List ℕ)) → SaysNamed (with_numbers kind disabled found)
numbers_named kind disabled None = tt
numbers_named kind disabled (Some numbers) = tt

kind_named : (kind : LineKind) (disabled : Bool) (protocol : List ℕ) (formats : List (List ℕ)) → SaysNamed (of_kind kind disabled protocol formats)
kind_named Audio disabled protocol formats =
    chosen (bytes_eq protocol (codes "UDP/TLS/RTP/SAVPF")) (with_numbers Audio disabled (each (number_up_to 127) formats)) BadMedia (numbers_named Audio disabled (each (number_up_to 127) formats)) tt
kind_named Video disabled protocol formats =
    chosen (bytes_eq protocol (codes "UDP/TLS/RTP/SAVPF")) (with_numbers Video disabled (each (number_up_to 127) formats)) BadMedia (numbers_named Video disabled (each (number_up_to 127) formats)) tt
kind_named Application disabled protocol formats =
    chosen (is_channel_protocol protocol && list_all is_token formats) (head_of Application disabled []) BadMedia tt tt
kind_named Unknown disabled protocol formats = chosen (is_filled protocol && list_all is_filled formats) (head_of Unknown disabled []) BadMedia tt tt

port_named : (kind : List ℕ) (port : Option ℕ) (protocol : List ℕ) (formats : List (List ℕ)) → SaysNamed (at_port kind port protocol formats)
port_named kind None protocol formats = tt
port_named kind (Some port) protocol formats =
    chosen (is_token kind) (of_kind (line_kind_of kind) (eqb port 0) protocol formats) BadMedia (kind_named (line_kind_of kind) (eqb port 0) protocol formats) tt

media_named : (fields : List (List ℕ)) → SaysNamed (media_words fields)
media_named [] = tt
media_named (a ∷ []) = tt
media_named (a ∷ b ∷ []) = tt
media_named (kind ∷ port ∷ protocol ∷ formats) = port_named kind (port_of port) protocol formats

lettered_named : (name value : List ℕ) → SaysNamed (lettered name value)
lettered_named name value =
    chosen (bytes_eq name (codes "v")) (version value) _ (chosen (bytes_eq value (codes "0")) Version Skipped tt tt)
    (chosen (bytes_eq name (codes "o")) (origin value) _ (origin_named (words value))
    (chosen (bytes_eq name (codes "m")) (media value) _ (media_named (words value))
    (chosen (bytes_eq name (codes "a")) (attribute_line value) _ (attribute_line_named value)
    (chosen (is_letter name) Skipped Bad tt tt))))

line_named_so : (line : List ℕ) → SaysNamed (item_of line)
unfolding item_of
line_named_so [] = tt
line_named_so (b ∷ bs) = by (cut 61 (b ∷ bs))
  where
    by : (found : Option (List ℕ × List ℕ)) → SaysNamed (line_parts found)
    by None = tt
    by (Some halves) = lettered_named halves.0 halves.1

items_named : (rows : List (List ℕ)) → AllByRecursion SaysNamed (map item_of rows)
items_named [] = tt
items_named (row ∷ rows) = (line_named_so row, items_named rows)

-- ---- parts
inner_named : (items : List Item) → AllByRecursion SaysNamed items → AllByRecursion SaysNamed (inner items)
inner_named [] h = tt
inner_named (BadMedia ∷ rest) h = tt
inner_named (Media head ∷ rest) h = tt
inner_named (Blank ∷ rest) h = (h.0, inner_named rest h.1)
inner_named (Bad ∷ rest) h = (h.0, inner_named rest h.1)
inner_named (Skipped ∷ rest) h = (h.0, inner_named rest h.1)
inner_named (Version ∷ rest) h = (h.0, inner_named rest h.1)
inner_named ((Origin id) ∷ rest) h = (h.0, inner_named rest h.1)
inner_named ((Says level attribute) ∷ rest) h = (h.0, inner_named rest h.1)
inner_named ((Malformed level what) ∷ rest) h = (h.0, inner_named rest h.1)

here_named : (in_line : Bool) (item : Item) → SaysNamed item → IfSome (attribute_here in_line item) IsNamed
here_named in_line (Says level attribute) h = by (counts level in_line)
  where
    by : (b : Bool) → IfSome (cond b (Some attribute) None) IsNamed
    by true = h
    by false = tt
here_named in_line _ h = tt

attributes_named : (in_line : Bool) (items : List Item) → AllByRecursion SaysNamed items → AllByRecursion IsNamed (attributes in_line items)
attributes_named in_line items h = filter_map_gives (attribute_here in_line) SaysNamed IsNamed (here_named in_line) (inner items) (inner_named items h)

said_named : (said : Attribute) → IsNamed said → IfSome (said_fingerprint said) HasLineName
said_named (FingerprintLine said) h = h
said_named _ h = tt

part_named : (said : List Attribute) → AllByRecursion IsNamed said → IfSome (part_said said).fingerprint HasLineName
part_named said h = first_gives said_fingerprint IsNamed HasLineName said_named said h

abbrev IsLineNamed : MediaLine → Type 0
IsLineNamed line = IfSome line.fingerprint HasLineName

line_of_named : (head : MediaHead) (said : List Attribute) → AllByRecursion IsNamed said → IfSome (line_of head (part_said said)) IsLineNamed
line_of_named head said h =
    if_some (line_named head (part_said said)) (λ mid. Unit {0}) IsLineNamed (λ mid u. part_named said h) (first said_mid said) (anything (first said_mid said))

lines_named : (items : List Item) → AllByRecursion SaysNamed items → AllByRecursion IsLineNamed (lines_of items)
lines_named [] h = tt
lines_named (Media head ∷ rest) h = by (line_of head (part_said (attributes true rest))) (line_of_named head (attributes true rest) (attributes_named true rest h.1)) (lines_named rest h.1)
  where
    by : (found : Option MediaLine) → IfSome found IsLineNamed → AllByRecursion IsLineNamed (lines_of rest)
        → AllByRecursion IsLineNamed (cons_option found (lines_of rest))
    by None own more = more
    by (Some line) own more = (own, more)
lines_named (Blank ∷ rest) h = lines_named rest h.1
lines_named (Bad ∷ rest) h = lines_named rest h.1
lines_named (BadMedia ∷ rest) h = lines_named rest h.1
lines_named (Skipped ∷ rest) h = lines_named rest h.1
lines_named (Version ∷ rest) h = lines_named rest h.1
lines_named ((Origin id) ∷ rest) h = lines_named rest h.1
lines_named ((Says level attribute) ∷ rest) h = lines_named rest h.1
lines_named ((Malformed level what) ∷ rest) h = lines_named rest h.1

-- one or the other has such a name
pub either_named : (one other : Option Fingerprint) → IfSome one HasLineName → IfSome other HasLineName → IfSome (option_or one other) HasLineName
either_named None other h k = k
either_named (Some known) other h k = h

value_named : (items : List Item) → AllByRecursion SaysNamed items → IfSome (sdp_fingerprint (sdp_of items)) HasLineName
unfolding sdp_of
value_named items h =
    either_named (part_said (attributes false items)).fingerprint (first (λ line. line.fingerprint) (lines_of items))
    (part_named (attributes false items) (attributes_named false items h))
    (first_gives (λ line. line.fingerprint) IsLineNamed HasLineName (λ line named. named) (lines_of items) (lines_named items h))

-- what is read of a text announces a fingerprint with such a name, if any
pub read_name : (text : List ℕ) (sdp : Sdp) → reading text ≡ Ok sdp → IfSome (sdp_fingerprint sdp) HasLineName
read_name text sdp h = by (refused (items_of text)) h
  where
    by : (found : Option ℕ) → judged found (sdp_of (items_of text)) ≡ Ok sdp → IfSome (sdp_fingerprint sdp) HasLineName
    by (Some n) e = absurd cc
    by None e =
        let same : sdp_of (items_of text) ≡ sdp = cc in
        subst (λ (s : Sdp). IfSome (sdp_fingerprint s) HasLineName) same (value_named (items_of text) (items_named (lines text)))
