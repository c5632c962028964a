-- The value that the lines of a line part give.
use Rattle.std.proofs.Common.{◌≡◌, ℕ, Bool, true, false, not, eqb, List, [], ◌∷◌, ◌++◌, map, length, Option, Some, None, refl, sym, ap, ◌∙◌}
use Rattle.std.specs.Prelude.{option_map, filter}
use Rattle.std.specs.List.{AllByRecursion, filter_map}
use Rattle.std.proofs.lemmas.List.{append-nil}
use Rattle.rtc_wire_text.specs.Fields.{first}
use Rattle.rtc_sdp_attributes.specs.declared.fmtp.Fmtp.{Fmtp}
use Rattle.rtc_sdp_attributes.specs.declared.rid_line.RidLine.{RidLine}
use Rattle.rtc_sdp_attributes.specs.declared.rtpmap.Rtpmap.{Rtpmap}
use Rattle.rtc_sdp_reader.specs.Layers.{simulcast_value}
use Rattle.rtc_sdp_reader.specs.Payloads.{payload_rows}
use Rattle.rtc_sdp_reader.specs.PlainLayers.{listed}
use Rattle.rtc_sdp_reader.specs.PlainPayloads.{formats_of, codecs_of, fmtps_of, IsPlainPayload}
use Rattle.rtc_sdp_reader.specs.PlainSources.{numbers_of, source_pairs}
use Rattle.rtc_sdp_reader.specs.Sources.{sources}
use Rattle.rtc_sdp_reader.proofs.PayloadLaw.{payload_rows_again}
use Rattle.rtc_sdp_values.specs.Sdp.{is_application}
use Rattle.rtc_sdp_values.specs.declared.candidate.Candidate.{Candidate}
use Rattle.rtc_sdp_values.specs.declared.direction.Direction.{Direction}
use Rattle.rtc_sdp_values.specs.declared.direction.Direction.TheVariants.{SendRecv}
use Rattle.rtc_sdp_values.specs.declared.fingerprint.Fingerprint.{Fingerprint}
use Rattle.rtc_sdp_values.specs.declared.ice_creds.IceCreds.{IceCreds}
use Rattle.rtc_sdp_values.specs.declared.line_kind.LineKind.{LineKind}
use Rattle.rtc_sdp_values.specs.declared.line_kind.LineKind.TheVariants.{Audio, Video, Application, Unknown}
use Rattle.rtc_sdp_values.specs.declared.media_line.MediaLine.{MediaLine}
use Rattle.rtc_sdp_values.specs.declared.setup.Setup.{Setup}
use Rattle.rtc_sdp_values.specs.declared.extension.Extension.{Extension}
use Rattle.rtc_sdp_values.specs.declared.msid.Msid.{Msid}
use Rattle.rtc_sdp_values.specs.declared.payload_row.PayloadRow.{PayloadRow}
use Rattle.rtc_sdp_values.specs.declared.simulcast.Simulcast.{Simulcast}
use Rattle.rtc_sdp_values.specs.declared.ssrc.Ssrc.{Ssrc}
use Rattle.rtc_sdp_grammar.specs.declared.level.Level.TheVariants.{MediaLevel, AnyLevel}
use Rattle.rtc_sdp_grammar.specs.declared.attribute.Attribute.{Attribute}
use Rattle.rtc_sdp_grammar.specs.declared.attribute.Attribute.TheVariants.{MidLine, SetupLine, DirectionLine, UfragLine, PasswordLine, FingerprintLine, CandidateLine, MessageSizeLine, SctpInitLine}
use Rattle.rtc_sdp_grammar.specs.declared.attribute.Attribute.TheVariants.{ExtensionLine, StreamLine, LayerLine, LayerListLine, SourcePairLine}
use Rattle.rtc_sdp_grammar.specs.declared.item.Item.{Item}
use Rattle.rtc_sdp_grammar.specs.declared.item.Item.TheVariants.{Says, Malformed}
use Rattle.rtc_sdp_grammar.specs.declared.media_head.MediaHead.{MediaHead}
use Rattle.rtc_sdp_grammar.proofs.LineLaws.{formats_of as formats_for}
use Rattle.rtc_sdp_reader.specs.Parting.{is_mid_line, attribute_here}
use Rattle.rtc_sdp_reader.specs.Said.{part_said, value_or, said_mid, said_setup, said_direction, said_ufrag, said_password, said_fingerprint, said_candidate, message_size_of, said_sctp_init, codec_of, parameters_of, extension_of, said_stream, layer_of, layer_list_of, cname_of, said_source, source_pair_of}
use Rattle.rtc_sdp_reader.specs.LineValue.{creds_made, line_named, line_of}
use Rattle.rtc_sdp_writer.specs.MediaRows.{shown_stream, shown_sources, layers_in}
use Rattle.rtc_sdp_writer.specs.AsRead.{sources_as_read, line_as_read}
use Rattle.rtc_sdp_writer.specs.Plain.{IsPlainRow, SuitsKind, IsLegibleLine}
use Rattle.rtc_sdp_writer.proofs.AttributesFound.{mid_looks, setup_looks, direction_looks, ufrag_looks, password_looks, fingerprint_looks, candidate_looks, message_size_looks, sctp_init_looks, codec_looks, parameters_looks, extension_looks, stream_looks, layer_looks, layer_list_looks, cname_looks, source_looks, source_pair_looks, optional_found, list_found, same_found, kept_first, kept_all}
use Rattle.rtc_sdp_writer.proofs.Blocks.{said, all_said, tag_of, items_if, if_kept, items_in, first_in, all_in, kept_in}
use Rattle.rtc_sdp_writer.proofs.Counted.{Ignores, first_here, all_here}
use Rattle.rtc_sdp_writer.proofs.KindFacts.{is_medium, no_medium, no_channel, stream_shown, sources_shown}
use Rattle.rtc_sdp_writer.proofs.LayerBlocks.{simulcast_again}
use Rattle.rtc_sdp_writer.proofs.LineBlocks.{blocks_of, said_inner, numbers_plain}
use Rattle.rtc_sdp_writer.proofs.PayloadBlocks.{payload_blocks, codecs_found, parameters_found}
use Rattle.rtc_sdp_writer.proofs.SourceBlocks.{number_blocks, sources_found, cname_found}

-- ---- each attribute is found, a row for each
abbrev pub found : {B : Type 0} → (Attribute → Option B) → LineKind → (line : MediaLine) → IsLegibleLine line → Option B
found gives kind line h = first (said gives) (items_in (blocks_of kind line h))

abbrev pub all_found : {B : Type 0} → (Attribute → Option B) → LineKind → (line : MediaLine) → IsLegibleLine line → List B
all_found gives kind line h = filter_map (said gives) (items_in (blocks_of kind line h))

mid_found : (kind : LineKind) (line : MediaLine) (h : IsLegibleLine line) → found said_mid kind line h ≡ Some line.mid
mid_found kind line h = first_in 1 (said said_mid) mid_looks (blocks_of kind line h)

setup_found : (kind : LineKind) (line : MediaLine) (h : IsLegibleLine line) → found said_setup kind line h ≡ line.setup
setup_found kind line h = first_in 3 (said said_setup) setup_looks (blocks_of kind line h) ∙ same_found (said said_setup) (λ x. Says AnyLevel (SetupLine x)) (λ x. refl) line.setup

candidates_found : (kind : LineKind) (line : MediaLine) (h : IsLegibleLine line) → all_found said_candidate kind line h ≡ line.candidates
candidates_found kind line h = all_in 9 (said said_candidate) candidate_looks (blocks_of kind line h) ∙ list_found (said said_candidate) (λ c. Says MediaLevel (CandidateLine c)) (λ c. refl) line.candidates

creds_again : (creds : Option IceCreds) → creds_made (option_map (λ c. c.ufrag) creds) (option_map (λ c. c.pass) creds) ≡ creds
creds_again None = refl
creds_again (Some c) = refl

creds_found : (kind : LineKind) (line : MediaLine) (h : IsLegibleLine line) → creds_made (found said_ufrag kind line h) (found said_password kind line h) ≡ line.creds
creds_found kind line h =
    let ufrag : found said_ufrag kind line h ≡ option_map (λ c. c.ufrag) line.creds = first_in 5 (said said_ufrag) ufrag_looks (blocks_of kind line h) ∙ same_found (said said_ufrag) (λ u. Says AnyLevel (UfragLine u)) (λ u. refl) (option_map (λ c. c.ufrag) line.creds) in
    let pass : found said_password kind line h ≡ option_map (λ c. c.pass) line.creds = first_in 6 (said said_password) password_looks (blocks_of kind line h) ∙ same_found (said said_password) (λ p. Says AnyLevel (PasswordLine p)) (λ p. refl) (option_map (λ c. c.pass) line.creds) in
    ap (λ (u : Option (List ℕ)). creds_made u (found said_password kind line h)) ufrag ∙ ap (creds_made (option_map (λ c. c.ufrag) line.creds)) pass ∙ creds_again line.creds

fingerprint_found : (kind : LineKind) (line : MediaLine) (h : IsLegibleLine line) → found said_fingerprint kind line h ≡ line.fingerprint
fingerprint_found kind line h = first_in 8 (said said_fingerprint) fingerprint_looks (blocks_of kind line h) ∙ same_found (said said_fingerprint) (λ f. Says AnyLevel (FingerprintLine f)) (λ f. refl) line.fingerprint

message_size_found : (kind : LineKind) (line : MediaLine) (h : IsLegibleLine line) → SuitsKind kind line → found message_size_of kind line h ≡ line.max_message_size
message_size_found kind line h k =
    first_in 10 (said message_size_of) message_size_looks (blocks_of kind line h)
    ∙ kept_first (said message_size_of) (is_application kind) (items_if (λ n. Says MediaLevel (MessageSizeLine n)) line.max_message_size) line.max_message_size
    (λ e. same_found (said message_size_of) (λ n. Says MediaLevel (MessageSizeLine n)) (λ n. refl) line.max_message_size)
    (λ e. (no_channel kind line k e).limit)

sctp_init_found : (kind : LineKind) (line : MediaLine) (h : IsLegibleLine line) → SuitsKind kind line → found said_sctp_init kind line h ≡ line.sctp_init
sctp_init_found kind line h k =
    first_in 11 (said said_sctp_init) sctp_init_looks (blocks_of kind line h)
    ∙ kept_first (said said_sctp_init) (is_application kind) (items_if (λ c. Says MediaLevel (SctpInitLine c)) line.sctp_init) line.sctp_init
    (λ e. same_found (said said_sctp_init) (λ c. Says MediaLevel (SctpInitLine c)) (λ c. refl) line.sctp_init)
    (λ e. (no_channel kind line k e).chunk)

direction_kept : (b : Bool) (line : MediaLine) → (b ≡ false → line.dir ≡ SendRecv) → value_or SendRecv (first (said said_direction) (if_kept b (Says MediaLevel (DirectionLine line.dir) ∷ []) ++ [])) ≡ line.dir
direction_kept true line h = refl
direction_kept false line h = sym (h refl)

direction_found : (kind : LineKind) (line : MediaLine) (h : IsLegibleLine line) → SuitsKind kind line → value_or SendRecv (found said_direction kind line h) ≡ line.dir
direction_found kind line h k =
    ap (value_or SendRecv) (first_in 4 (said said_direction) direction_looks (blocks_of kind line h))
    ∙ direction_kept (not (is_application kind)) line (λ e. (no_medium kind line k e).dir)

extensions_found : (kind : LineKind) (line : MediaLine) (h : IsLegibleLine line) → SuitsKind kind line → all_found extension_of kind line h ≡ line.exts
extensions_found kind line h k =
    all_in 14 (said extension_of) extension_looks (blocks_of kind line h)
    ∙ kept_all (said extension_of) (not (is_application kind)) (map (λ x. Says MediaLevel (ExtensionLine x)) line.exts) line.exts
    (λ e. list_found (said extension_of) (λ x. Says MediaLevel (ExtensionLine x)) (λ x. refl) line.exts)
    (λ e. (no_medium kind line k e).exts)

stream_found : (kind : LineKind) (line : MediaLine) (h : IsLegibleLine line) → SuitsKind kind line → found said_stream kind line h ≡ line.msid
stream_found kind line h k =
    first_in 15 (said said_stream) stream_looks (blocks_of kind line h)
    ∙ kept_first (said said_stream) (not (is_application kind)) (items_if (λ m. Says MediaLevel (StreamLine m)) (shown_stream line)) line.msid
    (λ e. same_found (said said_stream) (λ m. Says MediaLevel (StreamLine m)) (λ m. refl) (shown_stream line) ∙ stream_shown line (is_medium kind line k e))
    (λ e. (no_medium kind line k e).msid)

layers_found : (kind : LineKind) (line : MediaLine) (h : IsLegibleLine line) → SuitsKind kind line → all_found layer_of kind line h ≡ layers_in line.simulcast
layers_found kind line h k =
    all_in 16 (said layer_of) layer_looks (blocks_of kind line h)
    ∙ kept_all (said layer_of) (not (is_application kind)) (map (λ l. Says MediaLevel (LayerLine l)) (layers_in line.simulcast)) (layers_in line.simulcast)
    (λ e. list_found (said layer_of) (λ l. Says MediaLevel (LayerLine l)) (λ l. refl) (layers_in line.simulcast))
    (λ e. ap layers_in (no_medium kind line k e).simulcast)

layer_list_found : (kind : LineKind) (line : MediaLine) (h : IsLegibleLine line) → SuitsKind kind line → found layer_list_of kind line h ≡ option_map listed line.simulcast
layer_list_found kind line h k =
    first_in 17 (said layer_list_of) layer_list_looks (blocks_of kind line h)
    ∙ kept_first (said layer_list_of) (not (is_application kind)) (items_if (λ s. Says MediaLevel (LayerListLine (listed s))) line.simulcast) (option_map listed line.simulcast)
    (λ e. optional_found (said layer_list_of) (λ s. Says MediaLevel (LayerListLine (listed s))) listed (λ s. refl) line.simulcast)
    (λ e. ap (option_map listed) (no_medium kind line k e).simulcast)

simulcast_found : (kind : LineKind) (line : MediaLine) (h : IsLegibleLine line) → SuitsKind kind line → option_map (simulcast_value (all_found layer_of kind line h)) (found layer_list_of kind line h) ≡ line.simulcast
simulcast_found kind line h k =
    ap (λ (l : List RidLine). option_map (simulcast_value l) (found layer_list_of kind line h)) (layers_found kind line h k)
    ∙ ap (option_map (simulcast_value (layers_in line.simulcast))) (layer_list_found kind line h k)
    ∙ simulcast_again line.simulcast h.simulcast

cname_is_found : (kind : LineKind) (line : MediaLine) (h : IsLegibleLine line) → SuitsKind kind line → found cname_of kind line h ≡ line.cname
cname_is_found kind line h k =
    first_in 18 (said cname_of) cname_looks (blocks_of kind line h)
    ∙ kept_first (said cname_of) (not (is_application kind)) (items_in (number_blocks line.cname h.cname line.msid h.msid (numbers_of (shown_sources line)) (numbers_plain line h))) line.cname
    (λ e.
    ap (first (said cname_of)) (append-nil (items_in (number_blocks line.cname h.cname line.msid h.msid (numbers_of (shown_sources line)) (numbers_plain line h))))
    ∙ cname_found line line.cname h.cname line.msid h.msid (shown_sources line) (numbers_plain line h) refl (rw (sources_shown line (is_medium kind line k e)) (is_medium kind line k e).named))
    (λ e. (no_medium kind line k e).cname)

numbers_found : (kind : LineKind) (line : MediaLine) (h : IsLegibleLine line) → SuitsKind kind line → all_found said_source kind line h ≡ numbers_of line.ssrcs
numbers_found kind line h k =
    all_in 18 (said said_source) source_looks (blocks_of kind line h)
    ∙ kept_all (said said_source) (not (is_application kind)) (items_in (number_blocks line.cname h.cname line.msid h.msid (numbers_of (shown_sources line)) (numbers_plain line h))) (numbers_of line.ssrcs)
    (λ e.
    ap (filter_map (said said_source)) (append-nil (items_in (number_blocks line.cname h.cname line.msid h.msid (numbers_of (shown_sources line)) (numbers_plain line h))))
    ∙ sources_found line line.cname h.cname line.msid h.msid (shown_sources line) (numbers_plain line h) refl (rw (sources_shown line (is_medium kind line k e)) (is_medium kind line k e).named)
    ∙ ap numbers_of (sources_shown line (is_medium kind line k e)))
    (λ e. ap numbers_of (no_medium kind line k e).ssrcs)

pairs_found : (kind : LineKind) (line : MediaLine) (h : IsLegibleLine line) → SuitsKind kind line → all_found source_pair_of kind line h ≡ source_pairs line.ssrcs
pairs_found kind line h k =
    all_in 19 (said source_pair_of) source_pair_looks (blocks_of kind line h)
    ∙ kept_all (said source_pair_of) (not (is_application kind)) (map (λ p. Says MediaLevel (SourcePairLine p)) (source_pairs (shown_sources line))) (source_pairs line.ssrcs)
    (λ e. list_found (said source_pair_of) (λ p. Says MediaLevel (SourcePairLine p)) (λ p. refl) (source_pairs (shown_sources line)) ∙ ap source_pairs (sources_shown line (is_medium kind line k e)))
    (λ e. ap source_pairs (no_medium kind line k e).ssrcs)

ssrcs_found : (kind : LineKind) (line : MediaLine) (h : IsLegibleLine line) → SuitsKind kind line → sources (all_found said_source kind line h) (all_found source_pair_of kind line h) ≡ sources_as_read line.ssrcs
ssrcs_found kind line h k =
    ap (λ (l : List ℕ). sources l (all_found source_pair_of kind line h)) (numbers_found kind line h k)
    ∙ ap (sources (numbers_of line.ssrcs)) (pairs_found kind line h k)

pub codecs_are_found : (kind : LineKind) (line : MediaLine) (h : IsLegibleLine line) → SuitsKind kind line → all_found codec_of kind line h ≡ codecs_of line.payloads
codecs_are_found kind line h k =
    all_in 12 (said codec_of) codec_looks (blocks_of kind line h)
    ∙ kept_all (said codec_of) (not (is_application kind)) (items_in (payload_blocks kind line.payloads h.payloads)) (codecs_of line.payloads)
    (λ e. ap (filter_map (said codec_of)) (append-nil (items_in (payload_blocks kind line.payloads h.payloads))) ∙ codecs_found kind line.payloads h.payloads)
    (λ e. ap codecs_of (no_medium kind line k e).payloads)

parameters_are_found : (kind : LineKind) (line : MediaLine) (h : IsLegibleLine line) → SuitsKind kind line → all_found parameters_of kind line h ≡ fmtps_of line.payloads
parameters_are_found kind line h k =
    all_in 13 (said parameters_of) parameters_looks (blocks_of kind line h)
    ∙ kept_all (said parameters_of) (not (is_application kind)) (items_in (payload_blocks kind line.payloads h.payloads)) (fmtps_of line.payloads)
    (λ e. ap (filter_map (said parameters_of)) (append-nil (items_in (payload_blocks kind line.payloads h.payloads))) ∙ parameters_found kind line.payloads h.payloads)
    (λ e. ap fmtps_of (no_medium kind line k e).payloads)

all_payloads : (rows : List PayloadRow) → AllByRecursion IsPlainRow rows → AllByRecursion IsPlainPayload rows
all_payloads [] h = tt
all_payloads (row ∷ rest) h = (h.0.numbers, all_payloads rest h.1)

no_payloads : (kind : LineKind) (line : MediaLine) → SuitsKind kind line → (codecs : List Rtpmap) (fmtps : List Fmtp) → is_application kind ≡ true → payload_rows [] codecs fmtps ≡ line.payloads
unfolding payload_rows
no_payloads Audio line k codecs fmtps e = absurd cc
no_payloads Video line k codecs fmtps e = absurd cc
no_payloads Application line k codecs fmtps e = sym k.payloads
no_payloads Unknown line k codecs fmtps e = absurd k

pub payloads_found : (kind : LineKind) (line : MediaLine) (h : IsLegibleLine line) → SuitsKind kind line → payload_rows (formats_for kind (formats_of line.payloads)) (all_found codec_of kind line h) (all_found parameters_of kind line h) ≡ line.payloads
payloads_found kind line h k =
    ap (λ (l : List Rtpmap). payload_rows (formats_for kind (formats_of line.payloads)) l (all_found parameters_of kind line h)) (codecs_are_found kind line h k)
    ∙ ap (payload_rows (formats_for kind (formats_of line.payloads)) (codecs_of line.payloads)) (parameters_are_found kind line h k)
    ∙ by_kind kind k
  where
    by_kind : (kind : LineKind) → SuitsKind kind line → payload_rows (formats_for kind (formats_of line.payloads)) (codecs_of line.payloads) (fmtps_of line.payloads) ≡ line.payloads
    by_kind Audio k = payload_rows_again line.payloads (all_payloads line.payloads h.payloads) h.payloads_apart
    by_kind Video k = payload_rows_again line.payloads (all_payloads line.payloads h.payloads) h.payloads_apart
    by_kind Application k = no_payloads Application line k (codecs_of line.payloads) (fmtps_of line.payloads) refl
    by_kind Unknown k = absurd k

-- ---- one mid line
mid_tests : (item : Item) → eqb (tag_of item) 1 ≡ false → is_mid_line item ≡ false
mid_tests (Says level (MidLine mid)) ne = absurd cc
mid_tests (Malformed level what) ne = absurd cc
mid_tests _ ne = refl

pub one_mid : (kind : LineKind) (line : MediaLine) (h : IsLegibleLine line) → length (filter is_mid_line (items_in (blocks_of kind line h))) ≡ 1
one_mid kind line h = ap length (kept_in 1 is_mid_line mid_tests (blocks_of kind line h))

-- ---- the value
abbrev pub media_head : MediaLine → List ℕ → MediaHead
media_head line formats = record { kind = line.kind; disabled = line.disabled; formats = formats }

-- a line is its fields
line_from : (line : MediaLine) (dir : Direction) (candidates : List Candidate) (creds : Option IceCreds) (fingerprint : Option Fingerprint) (setup : Option Setup) (payloads : List PayloadRow) (exts : List (ℕ × Extension)) (simulcast : Option Simulcast) (msid : Option Msid)
    (cname : Option (List ℕ)) (ssrcs : List (Ssrc × Option Ssrc)) (max_message_size : Option ℕ) (sctp_init : Option (List ℕ)) →
    dir ≡ line.dir → candidates ≡ line.candidates → creds ≡ line.creds → fingerprint ≡ line.fingerprint → setup ≡ line.setup → payloads ≡ line.payloads → exts ≡ line.exts → simulcast ≡ line.simulcast → msid ≡ line.msid
    → cname ≡ line.cname → ssrcs ≡ sources_as_read line.ssrcs → max_message_size ≡ line.max_message_size → sctp_init ≡ line.sctp_init →
    record {
      kind = line.kind;
      disabled = line.disabled;
      mid = line.mid;
      dir = dir;
      candidates = candidates;
      creds = creds;
      fingerprint = fingerprint;
      setup = setup;
      payloads = payloads;
      exts = exts;
      simulcast = simulcast;
      msid = msid;
      cname = cname;
      ssrcs = ssrcs;
      max_message_size = max_message_size;
      sctp_init = sctp_init;
    }
    ≡ line_as_read line
line_from line dir candidates creds fingerprint setup payloads exts simulcast msid cname ssrcs max_message_size sctp_init e1 e2 e3 e4 e5 e6 e7 e8 e9 e10 e11 e12 e13 = rw (e1, e2, e3, e4, e5, e6, e7, e8, e9, e10, e11, e12, e13) refl

-- the attributes of a line part
abbrev attributes_of : (line : MediaLine) → IsLegibleLine line → List Attribute
attributes_of line h = filter_map (attribute_here true) (said_inner line h)

one_of : {B : Type 0} (gives : Attribute → Option B) → Ignores gives → (line : MediaLine) (h : IsLegibleLine line) → first gives (attributes_of line h) ≡ found gives line.kind line h
one_of gives ignores line h = first_here gives ignores (said_inner line h) (all_said (blocks_of line.kind line h))

all_of : {B : Type 0} (gives : Attribute → Option B) → Ignores gives → (line : MediaLine) (h : IsLegibleLine line) → filter_map gives (attributes_of line h) ≡ all_found gives line.kind line h
all_of gives ignores line h = all_here gives ignores (said_inner line h) (all_said (blocks_of line.kind line h))

pub line_again : (line : MediaLine) (h : IsLegibleLine line) (formats : List ℕ) → payload_rows formats (all_found codec_of line.kind line h) (all_found parameters_of line.kind line h) ≡ line.payloads
    → line_of (media_head line formats) (part_said (attributes_of line h)) ≡ Some (line_as_read line)
line_again line h formats rows =
    let told : List Attribute = attributes_of line h in
    ap (option_map (line_named (media_head line formats) (part_said told))) (one_of said_mid ((λ m. refl), (refl, refl)) line h ∙ mid_found line.kind line h)
    ∙ ap (λ (x : MediaLine). Some x)
    (line_from line _ _ _ _ _ _ _ _ _ _ _ _ _
    (ap (value_or SendRecv) (one_of said_direction ((λ m. refl), (refl, refl)) line h) ∙ direction_found line.kind line h h.kind)
    (all_of said_candidate ((λ m. refl), (refl, refl)) line h ∙ candidates_found line.kind line h)
    (ap (λ (u : Option (List ℕ)). creds_made u (first said_password told)) (one_of said_ufrag ((λ m. refl), (refl, refl)) line h) ∙ ap (creds_made (found said_ufrag line.kind line h)) (one_of said_password ((λ m. refl), (refl, refl)) line h) ∙ creds_found line.kind line h)
    (one_of said_fingerprint ((λ m. refl), (refl, refl)) line h ∙ fingerprint_found line.kind line h)
    (one_of said_setup ((λ m. refl), (refl, refl)) line h ∙ setup_found line.kind line h)
    (ap (λ (l : List Rtpmap). payload_rows formats l (filter_map parameters_of told)) (all_of codec_of ((λ m. refl), (refl, refl)) line h) ∙ ap (payload_rows formats (all_found codec_of line.kind line h)) (all_of parameters_of ((λ m. refl), (refl, refl)) line h) ∙ rows)
    (all_of extension_of ((λ m. refl), (refl, refl)) line h ∙ extensions_found line.kind line h h.kind)
    (ap (λ (l : List RidLine). option_map (simulcast_value l) (first layer_list_of told)) (all_of layer_of ((λ m. refl), (refl, refl)) line h) ∙ ap (option_map (simulcast_value (all_found layer_of line.kind line h))) (one_of layer_list_of ((λ m. refl), (refl, refl)) line h) ∙ simulcast_found line.kind line h h.kind)
    (one_of said_stream ((λ m. refl), (refl, refl)) line h ∙ stream_found line.kind line h h.kind)
    (one_of cname_of ((λ m. refl), (refl, refl)) line h ∙ cname_is_found line.kind line h h.kind)
    (ap (λ (l : List ℕ). sources l (filter_map source_pair_of told)) (all_of said_source ((λ m. refl), (refl, refl)) line h) ∙ ap (sources (all_found said_source line.kind line h)) (all_of source_pair_of ((λ m. refl), (refl, refl)) line h) ∙ ssrcs_found line.kind line h h.kind)
    (one_of message_size_of ((λ m. refl), (refl, refl)) line h ∙ message_size_found line.kind line h h.kind)
    (one_of said_sctp_init ((λ m. refl), (refl, refl)) line h ∙ sctp_init_found line.kind line h h.kind))
