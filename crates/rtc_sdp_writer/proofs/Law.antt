-- The law of writing and reading.
use Rattle.rtc_sdp_reader.specs.PlainSources.{AreNumbersApart}
use Rattle.rtc_sdp_values.specs.declared.ssrc.Ssrc.{Ssrc}
use Rattle.std.proofs.Common.{◌≡◌, ℕ, Bool, true, false, not, cond, eqb, List, [], ◌∷◌, ◌++◌, map, length, Option, Some, None, Ok, refl, sym, ap, subst, ◌∙◌, rules}
use Rattle.std.specs.Prelude.{codes, filter, IfSome}
use Rattle.std.specs.List.{AllByRecursion, filter_map, cons_option, list_any}
use Rattle.std.proofs.lemmas.List.{map-append}
use Rattle.rtc_wire_text.specs.Lines.{lines, text_of, AreLines}
use Rattle.rtc_wire_text.specs.Tokens.{is_token}
use Rattle.rtc_wire_text.proofs.LineLemmas.{lines-text_of, AreLines-append}
use Rattle.rtc_sdp_values.specs.declared.fingerprint.Fingerprint.{Fingerprint}
use Rattle.rtc_sdp_values.specs.declared.ice_creds.IceCreds.{IceCreds}
use Rattle.rtc_sdp_values.specs.declared.media_line.MediaLine.{MediaLine}
use Rattle.rtc_sdp_values.specs.declared.sdp.Sdp.{Sdp}
use Rattle.rtc_sdp_values.specs.declared.setup.Setup.{Setup}
use Rattle.rtc_sdp_grammar.specs.declared.level.Level.TheVariants.{SessionLevel}
use Rattle.rtc_sdp_grammar.specs.declared.attribute.Attribute.{Attribute}
use Rattle.rtc_sdp_grammar.specs.declared.attribute.Attribute.TheVariants.{GroupLine, LiteLine}
use Rattle.rtc_sdp_grammar.specs.declared.item.Item.{Item}
use Rattle.rtc_sdp_grammar.specs.declared.item.Item.TheVariants.{Skipped, Version, Origin, Says}
use Rattle.rtc_sdp_grammar.specs.ItemForm.{item_of, items_of}
use Rattle.rtc_sdp_grammar.specs.Table.{attribute_item}
use Rattle.rtc_sdp_grammar.specs.LineTexts.{origin_line, group_line}
use Rattle.rtc_sdp_grammar.proofs.LineLaws.{IsLineOf, AreMids, origin_line_is, group_line_is, head_of, formats_of as formats_for}
use Rattle.rtc_sdp_reader.specs.declared.place.Place.TheVariants.{Session, Line}
use Rattle.rtc_sdp_reader.specs.Parting.{inner, attribute_here, is_mid_line, has_one_mid}
use Rattle.rtc_sdp_reader.specs.Refusal.{next_number, refused_from, refused}
use Rattle.rtc_sdp_reader.specs.declared.part.Part.{Part}
use Rattle.rtc_sdp_reader.specs.Said.{part_said}
use Rattle.rtc_sdp_reader.specs.LineValue.{line_of, lines_of}
use Rattle.rtc_sdp_reader.specs.SessionValue.{sdp_made, sdp_of}
use Rattle.rtc_sdp_reader.specs.Reading.{judged, items_reading, reading}
use Rattle.rtc_sdp_writer.specs.Rows.{in_order}
use Rattle.rtc_sdp_writer.specs.LineRows.{inner_rows}
use Rattle.rtc_sdp_writer.specs.Placeholders.{filled_sdp}
use Rattle.rtc_sdp_writer.specs.MediaRows.{shown_stream}
use Rattle.rtc_sdp_writer.specs.SessionRows.{enabled_mids, new_name, names_behind, stream_names, lite_lines, session_groups, written_sdp}
use Rattle.rtc_sdp_writer.specs.Plain.{IsLegibleLine, IsLegible, IsPlain}
use Rattle.rtc_sdp_writer.specs.SessionRows.{is_stream}
use Rattle.rtc_sdp_values.specs.declared.msid.Msid.{Msid}
use Rattle.rtc_sdp_attributes.specs.PlainValues.{IsPlainMsid}
use Rattle.rtc_sdp_grammar.specs.MediaTexts.{semantic_line}
use Rattle.rtc_sdp_grammar.proofs.ConnectionLineLaws.{lite_line_is}
use Rattle.rtc_sdp_grammar.proofs.MediaLineLaws.{semantic_line_is}
use Rattle.rtc_sdp_reader.proofs.SourceLaw.{sources_again}
use Rattle.rtc_sdp_writer.specs.AsRead.{line_as_read, as_read, AreSourcesApart}
use Rattle.rtc_sdp_writer.proofs.Blocks.{Block, single_block, kept_block, if_kept, rows_in, items_in, rows_again, rows_one, all_said}
use Rattle.rtc_sdp_writer.proofs.Heads.{Heads, rows_by, own_heads, own_rows, filled_heads, filled_rows}
use Rattle.rtc_sdp_writer.proofs.LineBlocks.{blocks_of, rows_as_written, said_inner}
use Rattle.rtc_sdp_writer.proofs.Passing.{inner_over, lines_over, session_over, line_over}
use Rattle.rtc_sdp_writer.proofs.LineFound.{one_mid, media_head, line_again}

-- ---- the line parts
abbrev AreLegible : List MediaLine → Type 0
AreLegible lines = AllByRecursion IsLegibleLine lines

module _ (heads : Heads) where
  abbrev said_line : (line : MediaLine) → IsLegibleLine line → List Item
  said_line line h = head_of line.kind line.disabled (heads.formats line) ∷ said_inner line h

  abbrev said_lines : (lines : List MediaLine) → AreLegible lines → List Item
  said_lines [] h = []
  said_lines (line ∷ rest) h = said_line line h.0 ++ said_lines rest h.1

  inner_begins : (lines : List MediaLine) (h : AreLegible lines) → inner (said_lines lines h) ≡ []
  inner_begins [] h = refl
  inner_begins (line ∷ rest) h = refl

  inner_is : (line : MediaLine) (p : IsLegibleLine line) (rest : List MediaLine) (h : AreLegible rest) → inner (said_inner line p ++ said_lines rest h) ≡ said_inner line p
  inner_is line p rest h = inner_over (said_inner line p) (said_lines rest h) (all_said (blocks_of line.kind line p)) (inner_begins rest h)

  one_here : (line : MediaLine) (p : IsLegibleLine line) (rest : List MediaLine) (h : AreLegible rest) → has_one_mid (said_inner line p ++ said_lines rest h) ≡ true
  one_here line p rest h =
      ap (λ (items : List Item). eqb (length (filter is_mid_line items)) 1) (inner_is line p rest h)
      ∙ ap (λ (n : ℕ). eqb n 1) (one_mid line.kind line p)

  lines_pass : (lines : List MediaLine) (h : AreLegible lines) (n : ℕ) → refused_from Line n (said_lines lines h) ≡ None
  lines_pass [] h n = refl
  lines_pass (line ∷ rest) h n = rw (one_here line h.0 rest h.1) (line_over (said_inner line h.0) (said_lines rest h.1) (all_said (blocks_of line.kind line h.0)) (lines_pass rest h.1) (next_number n))

  lines_begin : (lines : List MediaLine) (h : AreLegible lines) (n : ℕ) → refused_from Session n (said_lines lines h) ≡ None
  lines_begin [] h n = refl
  lines_begin (line ∷ rest) h n = rw (one_here line h.0 rest h.1) (line_over (said_inner line h.0) (said_lines rest h.1) (all_said (blocks_of line.kind line h.0)) (lines_pass rest h.1) (next_number n))

  lines_again : (lines : List MediaLine) (h : AreLegible lines) → lines_of (said_lines lines h) ≡ map line_as_read lines
  lines_again [] h = refl
  lines_again (line ∷ rest) h =
      let formats : List ℕ = formats_for line.kind (heads.formats line) in
      let behind : lines_of (said_inner line h.0 ++ said_lines rest h.1) ≡ map line_as_read rest = lines_over (said_inner line h.0) (said_lines rest h.1) (all_said (blocks_of line.kind line h.0)) ∙ lines_again rest h.1 in
      let here : line_of (media_head line formats) (part_said (filter_map (attribute_here true) (inner (said_inner line h.0 ++ said_lines rest h.1)))) ≡ Some (line_as_read line) = ap (λ (items : List Item). line_of (media_head line formats) (part_said (filter_map (attribute_here true) items))) (inner_is line h.0 rest h.1) ∙ line_again line h.0 formats (heads.table line h.0) in
      ap (λ (x : Option MediaLine). cons_option x (lines_of (said_inner line h.0 ++ said_lines rest h.1))) here ∙ ap (λ (l : List MediaLine). line_as_read line ∷ l) behind

  inner_rows_say : (line : MediaLine) (h : IsLegibleLine line) → map item_of (inner_rows line) ≡ said_inner line h
  inner_rows_say line h = ap (map item_of) (sym (rows_as_written line.kind line h)) ∙ rows_again (blocks_of line.kind line h)

  line_rows_say : (line : MediaLine) (h : IsLegibleLine line) → map item_of (heads.written line ∷ inner_rows line) ≡ said_line line h
  line_rows_say line h = rw ((heads.line line h).again, inner_rows_say line h) refl

  all_rows_say : (lines : List MediaLine) (h : AreLegible lines) → map item_of (rows_by heads lines) ≡ said_lines lines h
  all_rows_say [] h = refl
  all_rows_say (line ∷ rest) h =
      map-append item_of (heads.written line ∷ inner_rows line) (rows_by heads rest)
      ∙ ap (λ (l : List Item). l ++ map item_of (rows_by heads rest)) (line_rows_say line h.0)
      ∙ ap (λ (l : List Item). said_line line h.0 ++ l) (all_rows_say rest h.1)

  all_rows_are_lines : (lines : List MediaLine) (h : AreLegible lines) → AreLines (rows_by heads lines)
  all_rows_are_lines [] h = tt
  all_rows_are_lines (line ∷ rest) h =
      AreLines-append (heads.written line ∷ inner_rows line) (rows_by heads rest)
      ((heads.line line h.0).one, subst AreLines (rows_as_written line.kind line h.0) (rows_one (blocks_of line.kind line h.0)))
      (all_rows_are_lines rest h.1)

-- ---- the session part, a row for each attribute
mids_with : (line : MediaLine) (live : List MediaLine) (disabled : Bool) → IsLegibleLine line → AreMids (map (λ l. l.mid) live) → AreMids (map (λ l. l.mid) (cond (not disabled) (line ∷ live) live))
mids_with line live true p ih = ih
mids_with line live false p ih = (p.mid, ih)

mids_of_live : (lines : List MediaLine) → AreLegible lines → AreMids (enabled_mids lines)
mids_of_live [] h = tt
mids_of_live (line ∷ rest) h = mids_with line (filter (λ l. not l.disabled) rest) line.disabled h.0 (mids_of_live rest h.1)

abbrev constant : (line : List ℕ) → IsLineOf line Skipped → Block
constant line is = single_block 0 line Skipped is tt refl

no_name_is : IsLineOf (codes "s=-") Skipped
unfolding item_of
no_name_is = record { again = refl; one = search rules }

any_time_is : IsLineOf (codes "t=0 0") Skipped
unfolding item_of
any_time_is = record { again = refl; one = search rules }

allow_mixed_is : IsLineOf (codes "a=extmap-allow-mixed") Skipped
unfolding item_of attribute_item
allow_mixed_is = record { again = refl; one = search rules }

-- the names of streams are tokens
name_plain : (front : List MediaLine) (msid : Option Msid) → IfSome msid IsPlainMsid → AllByRecursion (λ name. is_token name ≡ true) (new_name front msid)
name_plain front None h = tt
name_plain front (Some msid) h = go (list_any (λ line. is_stream msid.stream_id (shown_stream line)) front)
  where
    go : (known : Bool) → AllByRecursion (λ name. is_token name ≡ true) (cond known [] (msid.stream_id ∷ []))
    go true = tt
    go false = (h.stream, tt)

shown_plain : (disabled : Bool) (msid : Option Msid) → IfSome msid IsPlainMsid → IfSome (cond disabled None msid) IsPlainMsid
shown_plain true msid h = tt
shown_plain false msid h = h

names_append : (xs ys : List (List ℕ)) → AllByRecursion (λ name. is_token name ≡ true) xs → AllByRecursion (λ name. is_token name ≡ true) ys → AllByRecursion (λ name. is_token name ≡ true) (xs ++ ys)
names_append [] ys h k = k
names_append (x ∷ xs) ys h k = (h.0, names_append xs ys h.1 k)

names_plain : (front lines : List MediaLine) → AreLegible lines → AllByRecursion (λ name. is_token name ≡ true) (names_behind front lines)
names_plain front [] h = tt
names_plain front (line ∷ rest) h = names_append (new_name front (shown_stream line)) (names_behind (front ++ line ∷ []) rest) (name_plain front (shown_stream line) (shown_plain line.disabled line.msid h.0.msid)) (names_plain (front ++ line ∷ []) rest h.1)

abbrev session_blocks : (sdp : Sdp) → IsLegible sdp → List Block
session_blocks sdp h =
    constant (codes "s=-") no_name_is
    ∷ (constant (codes "t=0 0") any_time_is
    ∷ (single_block 2 (group_line (enabled_mids sdp.lines)) (Says SessionLevel (GroupLine (enabled_mids sdp.lines))) (group_line_is (enabled_mids sdp.lines) (mids_of_live sdp.lines h.lines)) refl refl
    ∷ (constant (codes "a=extmap-allow-mixed") allow_mixed_is
    ∷ (single_block 0 (semantic_line (stream_names sdp.lines)) Skipped (semantic_line_is (stream_names sdp.lines) (names_plain [] sdp.lines h.lines)) tt refl
    ∷ (kept_block sdp.ice_lite (single_block 7 (codes "a=ice-lite") (Says SessionLevel LiteLine) lite_line_is refl refl)
    ∷ [])))))

abbrev said_session : (sdp : Sdp) → IsLegible sdp → List Item
said_session sdp h = items_in (session_blocks sdp h)

lite_as_written : (lite : Bool) → if_kept lite (codes "a=ice-lite" ∷ []) ++ [] ≡ lite_lines lite ++ []
lite_as_written true = refl
lite_as_written false = refl

session_as_written : (sdp : Sdp) (h : IsLegible sdp) → rows_in (session_blocks sdp h) ≡ in_order (session_groups sdp)
unfolding session_groups
session_as_written sdp h =
    ap (λ (l : List (List ℕ)). codes "s=-" ∷ (codes "t=0 0" ∷ (group_line (enabled_mids sdp.lines) ∷ (codes "a=extmap-allow-mixed" ∷ (semantic_line (stream_names sdp.lines) ∷ l))))) (lite_as_written sdp.ice_lite)

-- ---- the text
version_is : IsLineOf (codes "v=0") Version
unfolding item_of
version_is = record { again = refl; one = search rules }

abbrev text_rows : Heads → Sdp → List (List ℕ)
text_rows heads sdp = codes "v=0" ∷ (origin_line sdp.id ∷ (in_order (session_groups sdp) ++ rows_by heads sdp.lines))

abbrev said_all : Heads → (sdp : Sdp) → IsLegible sdp → List Item
said_all heads sdp h = Version ∷ (Origin sdp.id ∷ (said_session sdp h ++ said_lines heads sdp.lines h.lines))

rows_say : (heads : Heads) (sdp : Sdp) (h : IsLegible sdp) → map item_of (text_rows heads sdp) ≡ said_all heads sdp h
rows_say heads sdp h =
    let session : map item_of (in_order (session_groups sdp)) ≡ said_session sdp h = ap (map item_of) (sym (session_as_written sdp h)) ∙ rows_again (session_blocks sdp h) in
    let behind : map item_of (in_order (session_groups sdp) ++ rows_by heads sdp.lines) ≡ said_session sdp h ++ said_lines heads sdp.lines h.lines = map-append item_of (in_order (session_groups sdp)) (rows_by heads sdp.lines) ∙ rw (session, all_rows_say heads sdp.lines h.lines) refl in
    rw (version_is.again, (origin_line_is sdp.id h.id).again, behind) refl

rows_are_lines : (heads : Heads) (sdp : Sdp) (h : IsLegible sdp) → AreLines (text_rows heads sdp)
rows_are_lines heads sdp h = (
  version_is.one,
  (
    (origin_line_is sdp.id h.id).one,
    AreLines-append (in_order (session_groups sdp)) (rows_by heads sdp.lines) (subst AreLines (session_as_written sdp h) (rows_one (session_blocks sdp h))) (all_rows_are_lines heads sdp.lines h.lines),
  ),
)

not_refused : (heads : Heads) (sdp : Sdp) (h : IsLegible sdp) → refused (said_all heads sdp h) ≡ None
not_refused heads sdp h = session_over (said_session sdp h) (said_lines heads sdp.lines h.lines) (all_said (session_blocks sdp h)) (lines_begin heads sdp.lines h.lines) 2

-- the session part has the group, and says that the end is lite
abbrev session_attributes : List (List ℕ) → Bool → List Attribute
session_attributes mids lite = filter_map (attribute_here false) (Skipped ∷ (Skipped ∷ (Says SessionLevel (GroupLine mids) ∷ (Skipped ∷ (Skipped ∷ (if_kept lite (Says SessionLevel LiteLine ∷ []) ++ []))))))

abbrev session_part : List (List ℕ) → Bool → Part
session_part mids lite = record {
  mid = None;
  groups = mids ∷ [];
  setup = None;
  dir = None;
  ufrag = None;
  pass = None;
  lite = lite;
  fingerprint = None;
  candidates = [];
  max_message_size = None;
  sctp_init = None;
  codecs = [];
  parameters = [];
  exts = [];
  msid = None;
  layers = [];
  layer_list = None;
  cname = None;
  sources = [];
  pairs = [];
}

session_found : (mids : List (List ℕ)) (lite : Bool) → part_said (session_attributes mids lite) ≡ session_part mids lite
session_found mids true = refl
session_found mids false = refl

-- a value is its fields
sdp_from : (sdp : Sdp) (groups : List (List (List ℕ))) (creds : Option IceCreds) (fingerprint : Option Fingerprint) (setup : Option Setup) (lines : List MediaLine) →
    groups ≡ sdp.groups → creds ≡ sdp.creds → fingerprint ≡ sdp.fingerprint → setup ≡ sdp.setup → lines ≡ map line_as_read sdp.lines →
    record { id = sdp.id; groups = groups; ice_lite = sdp.ice_lite; creds = creds; fingerprint = fingerprint; setup = setup; lines = lines } ≡ as_read sdp
sdp_from sdp groups creds fingerprint setup lines e1 e2 e3 e4 e5 = rw (e1, e2, e3, e4, e5) refl

sdp_again : (heads : Heads) (sdp : Sdp) (h : IsLegible sdp) → sdp_of (said_all heads sdp h) ≡ as_read sdp
unfolding sdp_of
sdp_again heads sdp h =
    let lines : List MediaLine = lines_of (said_session sdp h ++ said_lines heads sdp.lines h.lines) in
    let session : inner (said_session sdp h ++ said_lines heads sdp.lines h.lines) ≡ said_session sdp h = inner_over (said_session sdp h) (said_lines heads sdp.lines h.lines) (all_said (session_blocks sdp h)) (inner_begins heads sdp.lines h.lines) in
    ap (λ (items : List Item). sdp_made (Some sdp.id) (part_said (filter_map (attribute_here false) items)) lines) session
    ∙ ap (λ (part : Part). sdp_made (Some sdp.id) part lines) (session_found (enabled_mids sdp.lines) sdp.ice_lite)
    ∙ sdp_from sdp (enabled_mids sdp.lines ∷ []) None None None lines (sym h.groups) (sym h.creds) (sym h.fingerprint) (sym h.setup) (lines_over (said_session sdp h) (said_lines heads sdp.lines h.lines) (all_said (session_blocks sdp h)) ∙ lines_again heads sdp.lines h.lines)

-- what is written is read again, with the sources that the written lines give
rows_read_again : (heads : Heads) (sdp : Sdp) → IsLegible sdp → reading (text_of (text_rows heads sdp)) ≡ Ok (as_read sdp)
rows_read_again heads sdp h =
    let items : items_of (text_of (text_rows heads sdp)) ≡ said_all heads sdp h = ap (λ (rows : List (List ℕ)). map item_of rows) (lines-text_of (text_rows heads sdp) (rows_are_lines heads sdp h)) ∙ rows_say heads sdp h in
    ap items_reading items ∙ ap (λ (number : Option ℕ). judged number (sdp_of (said_all heads sdp h))) (not_refused heads sdp h) ∙ ap (λ (x : Sdp). Ok x) (sdp_again heads sdp h)

abbrev reads_with : Sdp → List (List ℕ) → Type 0
reads_with sdp rows = reading (text_of (codes "v=0" ∷ (origin_line sdp.id ∷ (in_order (session_groups sdp) ++ rows)))) ≡ Ok (as_read sdp)

pub written_reads_again : (sdp : Sdp) → IsLegible sdp → reading (written_sdp sdp) ≡ Ok (as_read sdp)
unfolding written_sdp
written_reads_again sdp h = subst (reads_with sdp) (own_rows sdp.lines) (rows_read_again own_heads sdp h)

pub filled_reads_again : (sdp : Sdp) → IsLegible sdp → reading (filled_sdp sdp) ≡ Ok (as_read sdp)
unfolding filled_sdp
filled_reads_again sdp h = subst (reads_with sdp) (filled_rows sdp.lines) (rows_read_again filled_heads sdp h)

-- ---- sources of which none stands twice are read as they are
line_apart : (line : MediaLine) → AreNumbersApart line.ssrcs → line_as_read line ≡ line
line_apart line h = ap (λ (ssrcs : List (Ssrc × Option Ssrc)). record line { ssrcs = ssrcs }) (sources_again line.ssrcs h)

lines_apart : (lines : List MediaLine) → AreSourcesApart lines → map line_as_read lines ≡ lines
lines_apart [] h = refl
lines_apart (line ∷ rest) h = ap (λ (first_line : MediaLine). first_line ∷ map line_as_read rest) (line_apart line h.0) ∙ ap (λ (lines : List MediaLine). line ∷ lines) (lines_apart rest h.1)

pub plain_as_read : (sdp : Sdp) → IsPlain sdp → as_read sdp ≡ sdp
plain_as_read sdp h = ap (λ (lines : List MediaLine). record sdp { lines = lines }) (lines_apart sdp.lines h.apart)

pub written_reads_back : (sdp : Sdp) → IsPlain sdp → reading (written_sdp sdp) ≡ Ok sdp
written_reads_back sdp h = written_reads_again sdp h.legible ∙ ap (λ (x : Sdp). Ok x) (plain_as_read sdp h)

pub filled_reads_back : (sdp : Sdp) → IsPlain sdp → reading (filled_sdp sdp) ≡ Ok sdp
filled_reads_back sdp h = filled_reads_again sdp h.legible ∙ ap (λ (x : Sdp). Ok x) (plain_as_read sdp h)
