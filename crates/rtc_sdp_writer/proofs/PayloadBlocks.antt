-- What the lines of payload rows say, and the codecs and parameters that they give.
use Rattle.std.proofs.Common.{◌≡◌, ℕ, ◌≤◌, true, List, [], ◌∷◌, ◌++◌, map, Option, Some, None, refl, sym, ap, ◌∙◌, append_assoc, arith, rules}
use Rattle.std.specs.Prelude.{codes}
use Rattle.std.specs.List.{AllByRecursion, filter_map}
use Rattle.std.proofs.lemmas.List.Elements.{filter_map-append}
use Rattle.rtc_wire_text.specs.Cuts.{Lacks}
use Rattle.rtc_sdp_values.specs.declared.payload_row.PayloadRow.{PayloadRow}
use Rattle.rtc_sdp_values.specs.declared.pt.Pt.{Pt}
use Rattle.rtc_sdp_values.specs.declared.line_kind.LineKind.{LineKind}
use Rattle.rtc_sdp_values.specs.declared.line_kind.LineKind.TheVariants.{Audio, Video, Application, Unknown}
use Rattle.rtc_sdp_attributes.specs.declared.fmtp.Fmtp.{Fmtp}
use Rattle.rtc_sdp_attributes.specs.declared.rtpmap.Rtpmap.{Rtpmap}
use Rattle.rtc_sdp_attributes.specs.AttributeTexts.{apt_text, red_text}
use Rattle.rtc_sdp_attributes.proofs.FmtpLemmas.{apt_filled, apt_lacks, red_filled, red_lacks}
use Rattle.rtc_sdp_reader.specs.PlainPayloads.{optional_number as made_of, codec_row, rtx_row, fmtp_row, own_fmtp, codecs_of, fmtps_of, IsPayloadType}
use Rattle.rtc_sdp_grammar.specs.declared.level.Level.TheVariants.{MediaLevel}
use Rattle.rtc_sdp_grammar.specs.declared.attribute.Attribute.TheVariants.{CodecLine, ParametersLine}
use Rattle.rtc_sdp_grammar.specs.declared.item.Item.{Item}
use Rattle.rtc_sdp_grammar.specs.declared.item.Item.TheVariants.{Skipped, Says}
use Rattle.rtc_sdp_grammar.specs.MediaTexts.{codec_line, parameters_line, feedback_line}
use Rattle.rtc_sdp_grammar.proofs.MediaLineLaws.{IsPlainCodec, codec_line_is, IsPlainFmtp, parameters_line_is, feedback_line_is}
use Rattle.rtc_sdp_reader.specs.Said.{codec_of, parameters_of}
use Rattle.rtc_sdp_writer.specs.MediaRows.{feedback_kinds, all_payload_lines}
use Rattle.rtc_sdp_writer.specs.Plain.{IsPlainRow}
use Rattle.rtc_sdp_writer.specs.Rows.{optional}
use Rattle.rtc_sdp_writer.proofs.Blocks.{said, Block, AllTagged, single_block, optional_block, list_block, items_if, all_if, all_each, rows_in, items_in, has_tag, tag_of}

-- ---- each line has its form
pub own_plain : (row : PayloadRow) → IsPlainRow row → IsPlainCodec (codec_row row row.codec row.pt.0)
own_plain row h = record { pt_small = h.numbers.pt; token = h.codec; clock_small = h.clock; channels_small = h.channels }

pub red_plain : (row : PayloadRow) → IsPlainRow row → (pt : Pt) → IsPayloadType pt → IsPlainCodec (codec_row row (codes "red") pt.0)
red_plain row h pt k = record { pt_small = k; token = refl; clock_small = h.clock; channels_small = h.channels }

pub rtx_plain : (row : PayloadRow) → IsPlainRow row → (pt : Pt) → IsPayloadType pt → IsPlainCodec (rtx_row row pt.0)
rtx_plain row h pt k = record { pt_small = k; token = refl; clock_small = h.clock; channels_small = omega arith }

pub own_parameters : (pt : ℕ) (text : List ℕ) → pt ≤ 127 → Lacks 10 text → AllByRecursion IsPlainFmtp (own_fmtp pt text)
own_parameters pt [] small h = tt
own_parameters pt (b ∷ bs) small h = (record { pt = small; some = omega arith; line = h }, tt)

pub red_parameters : (primary : ℕ) → primary ≤ 127 → (pt : Pt) → IsPayloadType pt → IsPlainFmtp (fmtp_row (red_text primary) pt.0)
red_parameters primary small pt k = record { pt = k; some = red_filled primary; line = red_lacks 10 (omega arith) primary small }

pub rtx_parameters : (primary : ℕ) → primary ≤ 127 → (pt : Pt) → IsPayloadType pt → IsPlainFmtp (fmtp_row (apt_text primary) pt.0)
rtx_parameters primary small pt k = record { pt = k; some = apt_filled primary; line = apt_lacks 10 (omega arith) primary small }

pub kinds_lack : (kind : LineKind) → AllByRecursion (Lacks 10) (feedback_kinds kind)
kinds_lack Audio = tt
kinds_lack Video = search rules
kinds_lack Application = tt
kinds_lack Unknown = tt

-- ---- the blocks of rows
abbrev says_codec : Rtpmap → Item
says_codec codec = Says MediaLevel (CodecLine codec)

abbrev says_parameters : Fmtp → Item
says_parameters fmtp = Says MediaLevel (ParametersLine fmtp)

abbrev pub payload_blocks : (kind : LineKind) (rows : List PayloadRow) → AllByRecursion IsPlainRow rows → List Block
payload_blocks kind [] h = []
payload_blocks kind (row ∷ rest) h =
    single_block 12 (codec_line (codec_row row row.codec row.pt.0)) (says_codec (codec_row row row.codec row.pt.0)) (codec_line_is (codec_row row row.codec row.pt.0) (own_plain row h.0)) refl refl
    ∷ (list_block 0 (feedback_line row.pt.0) (λ k. Skipped) (Lacks 10) (λ k lacks. feedback_line_is row.pt.0 k h.0.numbers.pt lacks) (λ k. tt) (λ k. refl) (feedback_kinds kind) (kinds_lack kind)
    ∷ (list_block 13 parameters_line says_parameters IsPlainFmtp parameters_line_is (λ f. refl) (λ f. refl) (own_fmtp row.pt.0 row.fmtp) (own_parameters row.pt.0 row.fmtp h.0.numbers.pt h.0.fmtp)
    ∷ (optional_block 12 (λ (pt : Pt). codec_line (codec_row row (codes "red") pt.0)) (λ pt. says_codec (codec_row row (codes "red") pt.0)) IsPayloadType (λ pt k. codec_line_is (codec_row row (codes "red") pt.0) (red_plain row h.0 pt k)) (λ pt. refl) (λ pt. refl) row.red h.0.numbers.red
    ∷ (optional_block 13 (λ (pt : Pt). parameters_line (fmtp_row (red_text row.pt.0) pt.0)) (λ pt. says_parameters (fmtp_row (red_text row.pt.0) pt.0)) IsPayloadType (λ pt k. parameters_line_is (fmtp_row (red_text row.pt.0) pt.0) (red_parameters row.pt.0 h.0.numbers.pt pt k)) (λ pt. refl) (λ pt. refl) row.red h.0.numbers.red
    ∷ (optional_block 12 (λ (pt : Pt). codec_line (rtx_row row pt.0)) (λ pt. says_codec (rtx_row row pt.0)) IsPayloadType (λ pt k. codec_line_is (rtx_row row pt.0) (rtx_plain row h.0 pt k)) (λ pt. refl) (λ pt. refl) row.rtx h.0.numbers.rtx
    ∷ (optional_block 13 (λ (pt : Pt). parameters_line (fmtp_row (apt_text row.pt.0) pt.0)) (λ pt. says_parameters (fmtp_row (apt_text row.pt.0) pt.0)) IsPayloadType (λ pt k. parameters_line_is (fmtp_row (apt_text row.pt.0) pt.0) (rtx_parameters row.pt.0 h.0.numbers.pt pt k)) (λ pt. refl) (λ pt. refl) row.rtx h.0.numbers.rtx
    ∷ payload_blocks kind rest h.1))))))

regroup : (a b c d e f g rest : List (List ℕ)) → a ++ (b ++ (c ++ (d ++ (e ++ (f ++ (g ++ rest)))))) ≡ (a ++ (b ++ (c ++ ((d ++ e) ++ (f ++ g))))) ++ rest
regroup a b c d e f g rest = simp append_assoc

pub payloads_as_written : (kind : LineKind) (rows : List PayloadRow) (h : AllByRecursion IsPlainRow rows) → rows_in (payload_blocks kind rows h) ≡ all_payload_lines kind rows
payloads_as_written kind [] h = refl
payloads_as_written kind (row ∷ rest) h =
    rw (payloads_as_written kind rest h.1)
    (regroup (codec_line (codec_row row row.codec row.pt.0) ∷ []) (map (feedback_line row.pt.0) (feedback_kinds kind)) (map parameters_line (own_fmtp row.pt.0 row.fmtp))
    (optional (λ (pt : Pt). codec_line (codec_row row (codes "red") pt.0)) row.red) (optional (λ (pt : Pt). parameters_line (fmtp_row (red_text row.pt.0) pt.0)) row.red)
    (optional (λ (pt : Pt). codec_line (rtx_row row pt.0)) row.rtx) (optional (λ (pt : Pt). parameters_line (fmtp_row (apt_text row.pt.0) pt.0)) row.rtx) (all_payload_lines kind rest))

abbrev pub payload_tags : List ℕ
payload_tags = 12 ∷ (13 ∷ (0 ∷ []))

pub payloads_tagged : (kind : LineKind) (rows : List PayloadRow) (h : AllByRecursion IsPlainRow rows) → AllByRecursion (λ block. AllTagged payload_tags block.items) (payload_blocks kind rows h)
payloads_tagged kind [] h = tt
payloads_tagged kind (row ∷ rest) h =
    let P : Item → Type 0 = λ item. has_tag (tag_of item) payload_tags ≡ true in (
      (refl, tt),
      (
        all_each (λ (k : List ℕ). Skipped) P (λ k. refl) (feedback_kinds kind),
        (
          all_each says_parameters P (λ f. refl) (own_fmtp row.pt.0 row.fmtp),
          (
            all_if (λ (pt : Pt). says_codec (codec_row row (codes "red") pt.0)) P (λ pt. refl) row.red,
            (
              all_if (λ (pt : Pt). says_parameters (fmtp_row (red_text row.pt.0) pt.0)) P (λ pt. refl) row.red,
              (
                all_if (λ (pt : Pt). says_codec (rtx_row row pt.0)) P (λ pt. refl) row.rtx,
                (
                  all_if (λ (pt : Pt). says_parameters (fmtp_row (apt_text row.pt.0) pt.0)) P (λ pt. refl) row.rtx,
                  payloads_tagged kind rest h.1,
                ),
              ),
            ),
          ),
        ),
      ),
    )

-- ---- what they give
over : {B : Type 0} (gives : Item → Option B) (xs ys : List Item) (out : List B) → filter_map gives xs ≡ out → filter_map gives (xs ++ ys) ≡ out ++ filter_map gives ys
over {B = B} gives xs ys out e = filter_map-append gives xs ys ∙ ap (λ (l : List B). l ++ filter_map gives ys) e

each_given : {A B : Type 0} (gives : Item → Option B) (item : A → Item) (value : A → B) → ((x : A) → gives (item x) ≡ Some (value x)) → (xs : List A) → filter_map gives (map item xs) ≡ map value xs
each_given gives item value h [] = refl
each_given gives item value h (x ∷ xs) = rw (h x, each_given gives item value h xs) refl

each_silent : {A B : Type 0} (gives : Item → Option B) (item : A → Item) → ((x : A) → gives (item x) ≡ None) → (xs : List A) → filter_map gives (map item xs) ≡ []
each_silent gives item h [] = refl
each_silent gives item h (x ∷ xs) = rw (h x, each_silent gives item h xs) refl

if_given : {B : Type 0} (gives : Item → Option B) (item : Pt → Item) (made : ℕ → B) → ((pt : Pt) → gives (item pt) ≡ Some (made pt.0)) → (pt : Option Pt) → filter_map gives (items_if item pt) ≡ made_of made pt
if_given gives item made h None = refl
if_given gives item made h (Some pt) = rw (h pt) refl

if_silent : {B : Type 0} (gives : Item → Option B) (item : Pt → Item) → ((pt : Pt) → gives (item pt) ≡ None) → (pt : Option Pt) → filter_map gives (items_if item pt) ≡ []
if_silent gives item h None = refl
if_silent gives item h (Some pt) = rw (h pt) refl

map_itself : {A : Type 0} (xs : List A) → map (λ x. x) xs ≡ xs
map_itself [] = refl
map_itself {A = A} (x ∷ xs) = ap (λ (l : List A). x ∷ l) (map_itself xs)

-- the items of a row, from behind
module _ (row : PayloadRow) (behind : List Item) where
  abbrev behind_rtx_codec : List Item
  behind_rtx_codec = items_if (λ (pt : Pt). says_parameters (fmtp_row (apt_text row.pt.0) pt.0)) row.rtx ++ behind

  abbrev behind_red : List Item
  behind_red = items_if (λ (pt : Pt). says_codec (rtx_row row pt.0)) row.rtx ++ behind_rtx_codec

  abbrev behind_red_codec : List Item
  behind_red_codec = items_if (λ (pt : Pt). says_parameters (fmtp_row (red_text row.pt.0) pt.0)) row.red ++ behind_red

  abbrev behind_own : List Item
  behind_own = items_if (λ (pt : Pt). says_codec (codec_row row (codes "red") pt.0)) row.red ++ behind_red_codec

  abbrev behind_feedback : List Item
  behind_feedback = map says_parameters (own_fmtp row.pt.0 row.fmtp) ++ behind_own

pub codecs_found : (kind : LineKind) (rows : List PayloadRow) (h : AllByRecursion IsPlainRow rows) → filter_map (said codec_of) (items_in (payload_blocks kind rows h)) ≡ codecs_of rows
codecs_found kind [] h = refl
codecs_found kind (row ∷ rest) h =
    let gives : Item → Option Rtpmap = said codec_of in
    let last : List Item = items_in (payload_blocks kind rest h.1) in
    let red : List Rtpmap = made_of (codec_row row (codes "red")) row.red in
    let rtx : List Rtpmap = made_of (rtx_row row) row.rtx in
    ap (λ (l : List Rtpmap). codec_row row row.codec row.pt.0 ∷ l)
    (over gives (map (λ (k : List ℕ). Skipped) (feedback_kinds kind)) (behind_feedback row last) [] (each_silent gives (λ (k : List ℕ). Skipped) (λ k. refl) (feedback_kinds kind))
    ∙ over gives (map says_parameters (own_fmtp row.pt.0 row.fmtp)) (behind_own row last) [] (each_silent gives says_parameters (λ f. refl) (own_fmtp row.pt.0 row.fmtp))
    ∙ over gives (items_if (λ (pt : Pt). says_codec (codec_row row (codes "red") pt.0)) row.red) (behind_red_codec row last) red (if_given gives (λ pt. says_codec (codec_row row (codes "red") pt.0)) (codec_row row (codes "red")) (λ pt. refl) row.red)
    ∙ ap (λ (l : List Rtpmap). red ++ l)
    (over gives (items_if (λ (pt : Pt). says_parameters (fmtp_row (red_text row.pt.0) pt.0)) row.red) (behind_red row last) [] (if_silent gives (λ pt. says_parameters (fmtp_row (red_text row.pt.0) pt.0)) (λ pt. refl) row.red)
    ∙ over gives (items_if (λ (pt : Pt). says_codec (rtx_row row pt.0)) row.rtx) (behind_rtx_codec row last) rtx (if_given gives (λ pt. says_codec (rtx_row row pt.0)) (rtx_row row) (λ pt. refl) row.rtx)
    ∙ ap (λ (l : List Rtpmap). rtx ++ l)
    (over gives (items_if (λ (pt : Pt). says_parameters (fmtp_row (apt_text row.pt.0) pt.0)) row.rtx) last [] (if_silent gives (λ pt. says_parameters (fmtp_row (apt_text row.pt.0) pt.0)) (λ pt. refl) row.rtx)
    ∙ codecs_found kind rest h.1))
    ∙ sym (append_assoc red rtx (codecs_of rest)))

pub parameters_found : (kind : LineKind) (rows : List PayloadRow) (h : AllByRecursion IsPlainRow rows) → filter_map (said parameters_of) (items_in (payload_blocks kind rows h)) ≡ fmtps_of rows
parameters_found kind [] h = refl
parameters_found kind (row ∷ rest) h =
    let gives : Item → Option Fmtp = said parameters_of in
    let last : List Item = items_in (payload_blocks kind rest h.1) in
    let own : List Fmtp = own_fmtp row.pt.0 row.fmtp in
    let red : List Fmtp = made_of (fmtp_row (red_text row.pt.0)) row.red in
    let rtx : List Fmtp = made_of (fmtp_row (apt_text row.pt.0)) row.rtx in
    over gives (map (λ (k : List ℕ). Skipped) (feedback_kinds kind)) (behind_feedback row last) [] (each_silent gives (λ (k : List ℕ). Skipped) (λ k. refl) (feedback_kinds kind))
    ∙ over gives (map says_parameters own) (behind_own row last) own (each_given gives says_parameters (λ (f : Fmtp). f) (λ f. refl) own ∙ map_itself own)
    ∙ ap (λ (l : List Fmtp). own ++ l)
    (over gives (items_if (λ (pt : Pt). says_codec (codec_row row (codes "red") pt.0)) row.red) (behind_red_codec row last) [] (if_silent gives (λ pt. says_codec (codec_row row (codes "red") pt.0)) (λ pt. refl) row.red)
    ∙ over gives (items_if (λ (pt : Pt). says_parameters (fmtp_row (red_text row.pt.0) pt.0)) row.red) (behind_red row last) red (if_given gives (λ pt. says_parameters (fmtp_row (red_text row.pt.0) pt.0)) (fmtp_row (red_text row.pt.0)) (λ pt. refl) row.red)
    ∙ ap (λ (l : List Fmtp). red ++ l)
    (over gives (items_if (λ (pt : Pt). says_codec (rtx_row row pt.0)) row.rtx) (behind_rtx_codec row last) [] (if_silent gives (λ pt. says_codec (rtx_row row pt.0)) (λ pt. refl) row.rtx)
    ∙ over gives (items_if (λ (pt : Pt). says_parameters (fmtp_row (apt_text row.pt.0) pt.0)) row.rtx) last rtx (if_given gives (λ pt. says_parameters (fmtp_row (apt_text row.pt.0) pt.0)) (fmtp_row (apt_text row.pt.0)) (λ pt. refl) row.rtx)
    ∙ ap (λ (l : List Fmtp). rtx ++ l) (parameters_found kind rest h.1)))
    ∙ ap (λ (l : List Fmtp). own ++ l) (sym (append_assoc red rtx (fmtps_of rest)))
    ∙ sym (append_assoc own (red ++ rtx) (fmtps_of rest))
