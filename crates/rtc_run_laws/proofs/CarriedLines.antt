-- What formed media a line carries is read again as it is written, but for sources that stand twice.
use Rattle.std.proofs.Common.{◌≡◌, ◌<◌, ◌≤◌, ◌^◌, ltb, ℕ, true, false, List, [], ◌∷◌, ◌++◌, length, Option, Some, None, refl, ap, subst, arith, length-append}
use Rattle.std.proofs.lemmas.List.{length-map}
use Rattle.std.specs.Prelude.{◌==◌, IfSome}
use Rattle.std.specs.List.{AllByRecursion}
use Rattle.std.specs.Str.{bytes_eq}
use borrow.Author.Tests.{ltb-true}
use Rattle.rtc_wire_text.specs.Once.{IsApart}
use Rattle.rtc_wire_text.specs.Tokens.{is_token}
use Rattle.rtc_wire_text.proofs.CutLemmas.{token_lacks, no_token_byte}
use Rattle.rtc_wire_text.proofs.TokenLemmas.{both}
use Rattle.rtc_sdp_values.specs.declared.extension.Extension.{Extension}
use Rattle.rtc_sdp_values.specs.declared.msid.Msid.{Msid}
use Rattle.rtc_sdp_values.specs.declared.payload_row.PayloadRow.{PayloadRow}
use Rattle.rtc_sdp_values.specs.declared.pt.Pt.{Pt}
use Rattle.rtc_sdp_values.specs.declared.simulcast.Simulcast.{Simulcast}
use Rattle.rtc_sdp_values.specs.declared.simulcast_layer.SimulcastLayer.{SimulcastLayer}
use Rattle.rtc_sdp_values.specs.declared.ssrc.Ssrc.{Ssrc}
use Rattle.rtc_sdp_attributes.specs.AttributeTexts.{rids_in}
use Rattle.rtc_sdp_attributes.specs.PlainValues.{IsPlainMsid, IsPlainList, is_listed}
use Rattle.rtc_sdp_reader.specs.PlainPayloads.{AreApart, IsPayloadType, optional_number, itself, row_formats, formats_of}
use Rattle.rtc_sdp_reader.specs.PlainSources.{numbers_of, rtx_number}
use Rattle.rtc_sdp_writer.specs.Plain.{IsPlainRow, IsPlainExtension, IsPairOfLine, IsPlainLayer, IsPlainSimulcast, IsPlainName}
use Rattle.rtc_sdp_codecs.specs.FormedCodecs.{
  repair_numbers,
  payload_numbers,
  all_payload_numbers,
  IsFormedRow,
  AreFormedRows,
  AreFormedExtensions,
}
use Rattle.rtc_sdp_codecs.proofs.AllLemmas.{all_left, all_right}
use Rattle.rtc_peer_core.specs.Formed.{IsFormedPair, IsFormedLayer, AreFormedLayers, is_layer_name, shares_rid, IsFormedSimulcast, IsFormedMsid, IsFormedSource}
use Rattle.rtc_peer_core.proofs.Alls.{all-append}

-- ---- payload rows

repairs_same : (pt : Option Pt) → repair_numbers pt ≡ optional_number itself pt
repairs_same None = refl
repairs_same (Some pt) = refl

row_same : (row : PayloadRow) → payload_numbers row ≡ row_formats row
row_same row = rw (repairs_same row.red, repairs_same row.rtx) refl

pub formats_same : (rows : List PayloadRow) → all_payload_numbers rows ≡ formats_of rows
formats_same [] = refl
formats_same (row ∷ rows) = rw (row_same row, formats_same rows) refl

small_repair : (pt : Option Pt) → AllByRecursion (λ number. number ≤ 127) (repair_numbers pt) → IfSome pt IsPayloadType
small_repair None small = tt
small_repair (Some pt) small = small.0

row_plain : (row : PayloadRow) → IsFormedRow row → AllByRecursion (λ number. number ≤ 127) (payload_numbers row) → IsPlainRow row
row_plain row formed small =
    let behind = all_right (λ (number : ℕ). number ≤ 127) (repair_numbers row.red) (row.pt.0 ∷ repair_numbers row.rtx) small in
    record {
      numbers = record {
        pt = behind.0;
        rtx = small_repair row.rtx behind.1;
        red = small_repair row.red (all_left (λ (number : ℕ). number ≤ 127) (repair_numbers row.red) (row.pt.0 ∷ repair_numbers row.rtx) small);
        not_rtx = formed.not_rtx;
        not_red = formed.not_red;
      };
      codec = formed.codec;
      clock = formed.clock;
      channels = formed.channels;
      fmtp = formed.fmtp;
    }

each_plain : (rows : List PayloadRow) → AllByRecursion IsFormedRow rows → AllByRecursion (λ number. number ≤ 127) (all_payload_numbers rows)
    → AllByRecursion IsPlainRow rows
each_plain [] formed small = tt
each_plain (row ∷ rows) formed small = (
  row_plain row formed.0 (all_left (λ (number : ℕ). number ≤ 127) (payload_numbers row) (all_payload_numbers rows) small),
  each_plain rows formed.1 (all_right (λ (number : ℕ). number ≤ 127) (payload_numbers row) (all_payload_numbers rows) small),
)

pub rows_plain : (rows : List PayloadRow) → AreFormedRows rows → AllByRecursion IsPlainRow rows
rows_plain rows formed = each_plain rows formed.each formed.numbers.small

pub rows_apart : (rows : List PayloadRow) → AreFormedRows rows → AreApart rows
rows_apart rows formed = subst (IsApart (λ x y. x == y)) (formats_same rows) formed.numbers.apart

-- ---- header extensions

pub extensions_plain : (exts : List (ℕ × Extension)) → AreFormedExtensions exts → AllByRecursion IsPlainExtension exts
extensions_plain [] formed = tt
extensions_plain (row ∷ exts) formed = ((let least : 0 < row.0 = omega (arith, formed.0.0) in least, formed.0.1), extensions_plain exts formed.1)

-- ---- layers

pair_plain : (pair : List ℕ × List ℕ) → IsFormedPair pair → IsPairOfLine pair
pair_plain pair formed = (
  record {
    kept = rw formed.kept refl;
    key_semicolon = formed.key_semicolon;
    key_equals = formed.key_equals;
    value_semicolon = formed.value_semicolon;
    value_equals = formed.value_equals;
  },
  formed.key_line,
  formed.value_line,
)

pairs_plain : (pairs : List (List ℕ × List ℕ)) → AllByRecursion IsFormedPair pairs → AllByRecursion IsPairOfLine pairs
pairs_plain [] formed = tt
pairs_plain (pair ∷ pairs) formed = (pair_plain pair formed.0, pairs_plain pairs formed.1)

layers_plain : (layers : List SimulcastLayer) → AllByRecursion IsFormedLayer layers → AllByRecursion IsPlainLayer layers
layers_plain [] formed = tt
layers_plain (layer ∷ layers) formed = (pairs_plain layer.attributes formed.0.pairs, layers_plain layers formed.1)

name_listed : (name : List ℕ) → is_layer_name name ≡ true → is_listed name ≡ true
name_listed [] h = h
name_listed (byte ∷ bytes) h = h

names_listed : (layers : List SimulcastLayer) → AllByRecursion IsFormedLayer layers → AllByRecursion (λ rid. is_listed rid ≡ true) (rids_in layers)
names_listed [] formed = tt
names_listed (layer ∷ layers) formed = (name_listed layer.rid formed.0.name, names_listed layers formed.1)

others_named : (layer : SimulcastLayer) (layers : List SimulcastLayer) → AllByRecursion (λ other. shares_rid other layer ≡ false) layers
    → AllByRecursion (λ rid. bytes_eq rid layer.rid ≡ false) (rids_in layers)
others_named layer [] others = tt
others_named layer (other ∷ layers) others = (others.0, others_named layer layers others.1)

names_apart : (layers : List SimulcastLayer) → IsApart shares_rid layers → IsApart bytes_eq (rids_in layers)
names_apart [] apart = tt
names_apart (layer ∷ layers) apart = (others_named layer layers apart.0, names_apart layers apart.1)

list_plain : (layers : List SimulcastLayer) → AreFormedLayers layers → IsPlainList (rids_in layers)
list_plain layers formed = record { listed = names_listed layers formed.each; apart = names_apart layers formed.apart }

simulcast_plain : (simulcast : Simulcast) → IsFormedSimulcast simulcast → IsPlainSimulcast simulcast
simulcast_plain simulcast formed = record {
  send = list_plain simulcast.send formed.send;
  recv = list_plain simulcast.recv formed.recv;
  some = λ none.
      let none_long : length (rids_in simulcast.send ++ rids_in simulcast.recv) ≡ 0 = ap length none in
      omega (
        arith,
        formed.some,
        none_long,
        length-append (rids_in simulcast.send) (rids_in simulcast.recv),
        length-map simulcast.send (λ (layer : SimulcastLayer). layer.rid),
        length-map simulcast.recv (λ (layer : SimulcastLayer). layer.rid),
      );
  sent = layers_plain simulcast.send formed.send.each;
  received = layers_plain simulcast.recv formed.recv.each;
}

pub layers_of_line : (simulcast : Option Simulcast) → IfSome simulcast IsFormedSimulcast → IfSome simulcast IsPlainSimulcast
layers_of_line None formed = tt
layers_of_line (Some simulcast) formed = simulcast_plain simulcast formed

-- ---- names and sources

pub msid_of_line : (msid : Option Msid) → IfSome msid IsFormedMsid → IfSome msid IsPlainMsid
msid_of_line None formed = tt
msid_of_line (Some msid) formed = record { stream = formed.stream; track = formed.track }

pub name_of_line : (cname : Option (List ℕ)) → IfSome cname (λ name. is_token name ≡ true) → IfSome cname IsPlainName
name_of_line None formed = tt
name_of_line (Some name) formed = record {
  some = ltb-true _ _ (both (ltb 0 (length name)) _ formed).0;
  line = token_lacks 10 (no_token_byte 10 (omega arith)) name formed;
}

small_rtx : (rtx : Option Ssrc) → IfSome rtx (λ ssrc. ssrc.0 < 2 ^ 32) → AllByRecursion (λ ssrc. ssrc ≤ 4294967295) (rtx_number rtx)
small_rtx None small = tt
small_rtx (Some ssrc) small = (omega (arith, small), tt)

pub sources_of_line : (ssrcs : List (Ssrc × Option Ssrc)) → AllByRecursion IsFormedSource ssrcs
    → AllByRecursion (λ ssrc. ssrc ≤ 4294967295) (numbers_of ssrcs)
sources_of_line [] formed = tt
sources_of_line (source ∷ ssrcs) formed = (
  omega (arith, formed.0.own),
  all-append (λ (ssrc : ℕ). ssrc ≤ 4294967295) (rtx_number source.1) (numbers_of ssrcs) (small_rtx source.1 formed.0.rtx) (sources_of_line ssrcs formed.1),
)
