-- What the lines of a line part say: a row for each attribute.
use Rattle.std.proofs.Common.{◌≡◌, ℕ, ◌<◌, ◌^◌, Bool, true, false, not, cond, List, [], ◌∷◌, ◌++◌, Option, Some, None, refl, rules}
use Rattle.std.specs.Prelude.{codes, IfSome, option_map}
use Rattle.std.specs.List.{AllByRecursion}
use Rattle.rtc_wire_text.specs.Cuts.{Lacks}
use Rattle.rtc_sdp_attributes.specs.Forms.{is_word_up_to}
use Rattle.rtc_sdp_attributes.specs.PlainValues.{IsPlainMsid}
use Rattle.rtc_sdp_reader.specs.PlainLayers.{listed}
use Rattle.rtc_sdp_reader.specs.PlainPayloads.{formats_of, row_formats, itself, IsPayloadType}
use Rattle.rtc_sdp_reader.specs.PlainPayloads.{optional_number as made_of}
use Rattle.rtc_sdp_values.specs.declared.pt.Pt.{Pt}
use Rattle.rtc_sdp_reader.specs.PlainSources.{numbers_of, source_pairs}
use Rattle.rtc_sdp_values.specs.Sdp.{is_application}
use Rattle.rtc_sdp_values.specs.declared.ice_creds.IceCreds.{IceCreds}
use Rattle.rtc_sdp_values.specs.declared.line_kind.LineKind.{LineKind}
use Rattle.rtc_sdp_values.specs.declared.line_kind.LineKind.TheVariants.{Audio, Video, Application, Unknown}
use Rattle.rtc_sdp_values.specs.declared.media_line.MediaLine.{MediaLine}
use Rattle.rtc_sdp_values.specs.declared.msid.Msid.{Msid}
use Rattle.rtc_sdp_values.specs.declared.payload_row.PayloadRow.{PayloadRow}
use Rattle.rtc_sdp_values.specs.declared.ssrc.Ssrc.{Ssrc}
use Rattle.rtc_sdp_grammar.specs.declared.level.Level.TheVariants.{MediaLevel, AnyLevel}
use Rattle.rtc_sdp_grammar.specs.declared.attribute.Attribute.TheVariants.{MidLine, SetupLine, DirectionLine, UfragLine, PasswordLine, FingerprintLine, CandidateLine, MessageSizeLine, SctpInitLine}
use Rattle.rtc_sdp_grammar.specs.declared.attribute.Attribute.TheVariants.{ExtensionLine, StreamLine, LayerLine, LayerListLine, SourcePairLine}
use Rattle.rtc_sdp_grammar.specs.declared.item.Item.{Item}
use Rattle.rtc_sdp_grammar.specs.declared.item.Item.TheVariants.{Skipped, Says}
use Rattle.rtc_sdp_grammar.specs.ItemForm.{item_of}
use Rattle.rtc_sdp_grammar.specs.Table.{attribute_item}
use Rattle.rtc_sdp_grammar.specs.ConnectionTexts.{ufrag_line, password_line, fingerprint_line, candidate_line, message_size_line, sctp_init_line}
use Rattle.rtc_sdp_grammar.specs.LineTexts.{mid_line, setup_line, direction_line}
use Rattle.rtc_sdp_grammar.specs.MediaTexts.{extension_line, stream_line, layer_line, layer_list_line, source_pair_line}
use Rattle.rtc_sdp_grammar.proofs.LineLaws.{IsLineOf, mid_line_is, setup_line_is, direction_line_is, skipped_line_is, ArePayloadTypes}
use Rattle.rtc_sdp_grammar.proofs.ConnectionLineLaws.{ufrag_line_is, password_line_is, fingerprint_line_is, candidate_line_is, message_size_line_is, sctp_init_line_is, trickle_line_is, sctp_port_line_is}
use Rattle.rtc_sdp_grammar.proofs.MediaLineLaws.{extension_line_is, stream_line_is, layer_line_is, IsPlainLayerList, layer_list_line_is, source_pair_line_is, IsPlainPair}
use Rattle.rtc_sdp_grammar.proofs.MediaLineLaws.{IsPlainLayer as IsPlainLayerLine}
use Rattle.rtc_sdp_writer.specs.Rows.{in_order}
use Rattle.rtc_sdp_writer.specs.LineRows.{transport_groups, media_groups, channel_groups, kind_groups}
use Rattle.rtc_sdp_writer.specs.MediaRows.{shown_stream, shown_sources, all_payload_lines, layers_in, all_source_lines}
use Rattle.rtc_sdp_writer.specs.Plain.{IsPlainCreds, IsPlainHash, IsHost, IsPlainChunk, IsPlainRow, IsPlainExtension, IsLegibleLine}
use Rattle.rtc_sdp_writer.proofs.Blocks.{Block, single_block, optional_block, list_block, joined_block, kept_block, rows_in, items_in}
use Rattle.rtc_sdp_writer.proofs.LayerBlocks.{layers_plain, list_plain}
use Rattle.rtc_sdp_writer.proofs.PayloadBlocks.{payload_blocks, payloads_as_written, payload_tags, payloads_tagged}
use Rattle.rtc_sdp_writer.proofs.SourceBlocks.{AreNumbers, number_blocks, sources_as_written, numbers_tagged, pairs_plain}

-- ---- what stands in a plain line has its form
abbrev pub true_of : {A : Type 0} → A → Type 0
true_of x = Unit {0}

pub any : {A : Type 0} (value : Option A) → IfSome value true_of
any None = tt
any (Some x) = tt

abbrev IsUfrag : List ℕ → Type 0
IsUfrag ufrag = (is_word_up_to 255 ufrag ≡ true) × Lacks 10 ufrag

abbrev IsPass : List ℕ → Type 0
IsPass pass = (is_word_up_to 256 pass ≡ true) × Lacks 10 pass

pub ufrag_plain : (creds : Option IceCreds) → IfSome creds IsPlainCreds → IfSome (option_map (λ c. c.ufrag) creds) IsUfrag
ufrag_plain None h = tt
ufrag_plain (Some c) h = (h.ufrag, h.ufrag_line)

pub pass_plain : (creds : Option IceCreds) → IfSome creds IsPlainCreds → IfSome (option_map (λ c. c.pass) creds) IsPass
pass_plain None h = tt
pass_plain (Some c) h = (h.pass, h.pass_line)

pub shown_stream_plain : (disabled : Bool) (msid : Option Msid) → IfSome msid IsPlainMsid → IfSome (cond disabled None msid) IsPlainMsid
shown_stream_plain true msid h = tt
shown_stream_plain false msid h = h

shown_numbers : (disabled : Bool) (sources : List (Ssrc × Option Ssrc)) → AreNumbers (numbers_of sources) → AreNumbers (numbers_of (cond disabled [] sources))
shown_numbers true sources h = tt
shown_numbers false sources h = h

pub numbers_plain : (line : MediaLine) → IsLegibleLine line → AreNumbers (numbers_of (shown_sources line))
numbers_plain line h = shown_numbers line.disabled line.ssrcs h.ssrcs

-- ---- the blocks
abbrev pub transport_blocks : (line : MediaLine) → IsLegibleLine line → List Block → List Block
transport_blocks line h rest =
    single_block 0 (codes "c=IN IP4 0.0.0.0") Skipped skipped_line_is tt refl
    ∷ (list_block 9 candidate_line (λ c. Says MediaLevel (CandidateLine c)) IsHost (λ c k. candidate_line_is c k.form) (λ c. refl) (λ c. refl) line.candidates h.candidates
    ∷ (optional_block 5 ufrag_line (λ u. Says AnyLevel (UfragLine u)) IsUfrag (λ u k. ufrag_line_is u k.0 k.1) (λ u. refl) (λ u. refl) (option_map (λ c. c.ufrag) line.creds) (ufrag_plain line.creds h.creds_form)
    ∷ (optional_block 6 password_line (λ p. Says AnyLevel (PasswordLine p)) IsPass (λ p k. password_line_is p k.0 k.1) (λ p. refl) (λ p. refl) (option_map (λ c. c.pass) line.creds) (pass_plain line.creds h.creds_form)
    ∷ (single_block 0 (codes "a=ice-options:trickle") Skipped trickle_line_is tt refl
    ∷ (optional_block 8 fingerprint_line (λ f. Says AnyLevel (FingerprintLine f)) IsPlainHash (λ f k. fingerprint_line_is f k.form) (λ f. refl) (λ f. refl) line.fingerprint h.fingerprint_form
    ∷ (optional_block 3 setup_line (λ x. Says AnyLevel (SetupLine x)) true_of (λ x _. setup_line_is x) (λ x. refl) (λ x. refl) line.setup (any line.setup)
    ∷ (single_block 1 (mid_line line.mid) (Says MediaLevel (MidLine line.mid)) (mid_line_is line.mid h.mid) refl refl
    ∷ rest)))))))

abbrev pub channel_blocks : Bool → (line : MediaLine) → IsLegibleLine line → List Block → List Block
channel_blocks b line h rest =
    kept_block b (single_block 0 (codes "a=sctp-port:5000") Skipped sctp_port_line_is tt refl)
    ∷ (kept_block b (optional_block 10 message_size_line (λ n. Says MediaLevel (MessageSizeLine n)) (λ n. n < 2 ^ 64) (λ n k. message_size_line_is n k) (λ n. refl) (λ n. refl) line.max_message_size h.max_message_size)
    ∷ (kept_block b (optional_block 11 sctp_init_line (λ c. Says MediaLevel (SctpInitLine c)) IsPlainChunk (λ c k. sctp_init_line_is c k.form k.line) (λ c. refl) (λ c. refl) line.sctp_init h.sctp_init)
    ∷ rest))

pub mux_line_is : IsLineOf (codes "a=rtcp-mux") Skipped
unfolding item_of attribute_item
mux_line_is = record { again = refl; one = search rules }

abbrev pub payloads_block : (kind : LineKind) (rows : List PayloadRow) → AllByRecursion IsPlainRow rows → Block
payloads_block kind rows h = joined_block payload_tags (payload_blocks kind rows h) (all_payload_lines kind rows) (payloads_as_written kind rows h) (payloads_tagged kind rows h)

abbrev pub sources_block : (line : MediaLine) → IsLegibleLine line → Block
sources_block line h =
    joined_block (18 ∷ (0 ∷ [])) (number_blocks line.cname h.cname line.msid h.msid (numbers_of (shown_sources line)) (numbers_plain line h)) (all_source_lines line.cname line.msid (shown_sources line))
    (sources_as_written line.cname h.cname line.msid h.msid (shown_sources line) (numbers_plain line h)) (numbers_tagged line.cname h.cname line.msid h.msid (numbers_of (shown_sources line)) (numbers_plain line h))

abbrev pub media_blocks : Bool → LineKind → (line : MediaLine) → IsLegibleLine line → List Block
media_blocks b kind line h =
    kept_block b (list_block 14 extension_line (λ x. Says MediaLevel (ExtensionLine x)) IsPlainExtension extension_line_is (λ x. refl) (λ x. refl) line.exts h.exts)
    ∷ (kept_block b (single_block 4 (direction_line line.dir) (Says MediaLevel (DirectionLine line.dir)) (direction_line_is line.dir) refl refl)
    ∷ (kept_block b (optional_block 15 stream_line (λ m. Says MediaLevel (StreamLine m)) IsPlainMsid stream_line_is (λ m. refl) (λ m. refl) (shown_stream line) (shown_stream_plain line.disabled line.msid h.msid))
    ∷ (kept_block b (single_block 0 (codes "a=rtcp-mux") Skipped mux_line_is tt refl)
    ∷ (kept_block b (payloads_block kind line.payloads h.payloads)
    ∷ (kept_block b (list_block 16 layer_line (λ l. Says MediaLevel (LayerLine l)) IsPlainLayerLine layer_line_is (λ l. refl) (λ l. refl) (layers_in line.simulcast) (layers_plain line.simulcast h.simulcast))
    ∷ (kept_block b (optional_block 17 layer_list_line (λ s. Says MediaLevel (LayerListLine (listed s))) IsPlainLayerList layer_list_line_is (λ s. refl) (λ s. refl) line.simulcast (list_plain line.simulcast h.simulcast))
    ∷ (kept_block b (sources_block line h)
    ∷ (kept_block b (list_block 19 source_pair_line (λ p. Says MediaLevel (SourcePairLine p)) IsPlainPair source_pair_line_is (λ p. refl) (λ p. refl) (source_pairs (shown_sources line)) (pairs_plain (shown_sources line) (numbers_plain line h)))
    ∷ []))))))))

-- those of media are there for media, and those of data channels for them
abbrev pub blocks_of : LineKind → (line : MediaLine) → IsLegibleLine line → List Block
blocks_of kind line h = transport_blocks line h (channel_blocks (is_application kind) line h (media_blocks (not (is_application kind)) kind line h))

pub rows_as_written : (kind : LineKind) (line : MediaLine) (h : IsLegibleLine line) → rows_in (blocks_of kind line h) ≡ in_order (transport_groups line ++ kind_groups kind line)
unfolding transport_groups media_groups channel_groups
rows_as_written Audio line h = refl
rows_as_written Video line h = refl
rows_as_written Application line h = refl
rows_as_written Unknown line h = refl

-- what the lines of a line part say
abbrev pub said_inner : (line : MediaLine) → IsLegibleLine line → List Item
said_inner line h = items_in (blocks_of line.kind line h)

numbers_append : (xs ys : List ℕ) → ArePayloadTypes xs → ArePayloadTypes ys → ArePayloadTypes (xs ++ ys)
numbers_append [] ys h k = k
numbers_append (x ∷ xs) ys h k = (h.0, numbers_append xs ys h.1 k)

optional_small : (pt : Option Pt) → IfSome pt IsPayloadType → ArePayloadTypes (made_of itself pt)
optional_small None h = tt
optional_small (Some pt) h = (h, tt)

pub formats_small : (rows : List PayloadRow) → AllByRecursion IsPlainRow rows → ArePayloadTypes (formats_of rows)
formats_small [] h = tt
formats_small (row ∷ rest) h =
    numbers_append (row_formats row) (formats_of rest)
    (numbers_append (made_of itself row.red) (row.pt.0 ∷ made_of itself row.rtx) (optional_small row.red h.0.numbers.red) (h.0.numbers.pt, optional_small row.rtx h.0.numbers.rtx))
    (formats_small rest h.1)
