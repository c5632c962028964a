-- What is legible can be taken: payload types that do not repeat, extensions by their numbers, and layers.
use Rattle.std.proofs.Common.{◌≡◌, ◌≢◌, ◌+◌, ◌<◌, ◌≤◌, ℕ, Bool, true, false, not, List, [], ◌∷◌, ◌++◌, length, Option, Some, None, refl, sym, subst, arith}
use Rattle.std.specs.Prelude.{◌==◌, IfSome, codes}
use Rattle.std.specs.List.{AllByRecursion}
use Rattle.std.specs.Str.{bytes_eq}
use Rattle.rtc_wire_text.specs.Once.{IsApart}
use Rattle.rtc_sdp_values.specs.declared.extension.Extension.{Extension}
use Rattle.rtc_sdp_values.specs.declared.media_line.MediaLine.{MediaLine}
use Rattle.rtc_sdp_values.specs.declared.payload_row.PayloadRow.{PayloadRow}
use Rattle.rtc_sdp_values.specs.declared.pt.Pt.{Pt}
use Rattle.rtc_sdp_values.specs.declared.sdp.Sdp.{Sdp}
use Rattle.rtc_sdp_values.specs.declared.simulcast.Simulcast.{Simulcast}
use Rattle.rtc_sdp_values.specs.declared.simulcast_layer.SimulcastLayer.{SimulcastLayer}
use Rattle.rtc_sdp_attributes.specs.AttributeTexts.{rids_in}
use Rattle.rtc_sdp_attributes.specs.PlainValues.{is_listed}
use Rattle.rtc_sdp_reader.specs.PlainPayloads.{IsPayloadType, IsPlainPayload}
use Rattle.rtc_sdp_writer.specs.Plain.{IsLegible, IsLegibleLine, IsPlainRow, IsPlainExtension, IsPairOfLine, IsPlainLayer, IsPlainSimulcast}
use Rattle.rtc_sdp_codecs.specs.FormedCodecs.{repair_numbers, payload_numbers, all_payload_numbers, AreFormedExtensions}
use Rattle.rtc_sdp_codecs.proofs.AllLemmas.{all_joined}
use Rattle.rtc_peer_core.specs.Formed.{IsFormedPair, IsFormedLayer, is_layer_name, shares_rid, IsFormedSimulcast, IsTakenLine}
use Rattle.rtc_run_laws.proofs.CarriedLines.{formats_same}

repair_small : (pt : Option Pt) → IfSome pt IsPayloadType → AllByRecursion (λ number. number ≤ 127) (repair_numbers pt)
repair_small None small = tt
repair_small (Some pt) small = (small, tt)

row_small : (row : PayloadRow) → IsPlainPayload row → AllByRecursion (λ number. number ≤ 127) (payload_numbers row)
row_small row plain =
    all_joined (λ (number : ℕ). number ≤ 127) (repair_numbers row.red) (row.pt.0 ∷ repair_numbers row.rtx) (repair_small row.red plain.red)
    (plain.pt, repair_small row.rtx plain.rtx)

pub rows_small : (rows : List PayloadRow) → AllByRecursion IsPlainPayload rows → AllByRecursion (λ number. number ≤ 127) (all_payload_numbers rows)
rows_small [] plain = tt
rows_small (row ∷ rows) plain =
    all_joined (λ (number : ℕ). number ≤ 127) (payload_numbers row) (all_payload_numbers rows) (row_small row plain.0) (rows_small rows plain.1)

numbers_plain : (rows : List PayloadRow) → AllByRecursion IsPlainRow rows → AllByRecursion IsPlainPayload rows
numbers_plain [] plain = tt
numbers_plain (row ∷ rows) plain = (plain.0.numbers, numbers_plain rows plain.1)

pub extensions_taken : (exts : List (ℕ × Extension)) → AllByRecursion IsPlainExtension exts → AreFormedExtensions exts
extensions_taken [] plain = tt
extensions_taken (row ∷ exts) plain = ((let least : 1 ≤ row.0 = omega (arith, plain.0.0) in least, plain.0.1), extensions_taken exts plain.1)

not_pt : (pair : List ℕ × List ℕ) → not (bytes_eq pair.0 (codes "pt")) ≡ true → bytes_eq pair.0 (codes "pt") ≡ false
not_pt pair kept = by (bytes_eq pair.0 (codes "pt")) kept
  where
    by : (b : Bool) → not b ≡ true → b ≡ false
    by true is = absurd (cc)
    by false is = refl

pair_taken : (pair : List ℕ × List ℕ) → IsPairOfLine pair → IsFormedPair pair
pair_taken pair plain = record {
  kept = not_pt pair plain.0.kept;
  key_line = plain.1;
  key_semicolon = plain.0.key_semicolon;
  key_equals = plain.0.key_equals;
  value_line = plain.2;
  value_semicolon = plain.0.value_semicolon;
  value_equals = plain.0.value_equals;
}

pairs_taken : (pairs : List (List ℕ × List ℕ)) → AllByRecursion IsPairOfLine pairs → AllByRecursion IsFormedPair pairs
pairs_taken [] plain = tt
pairs_taken (pair ∷ pairs) plain = (pair_taken pair plain.0, pairs_taken pairs plain.1)

name_taken : (name : List ℕ) → is_listed name ≡ true → is_layer_name name ≡ true
name_taken [] h = h
name_taken (byte ∷ bytes) h = h

each_taken : (layers : List SimulcastLayer) → AllByRecursion (λ rid. is_listed rid ≡ true) (rids_in layers) → AllByRecursion IsPlainLayer layers
    → AllByRecursion IsFormedLayer layers
each_taken [] listed plain = tt
each_taken (layer ∷ layers) listed plain =
    (record { name = name_taken layer.rid listed.0; pairs = pairs_taken layer.attributes plain.0 }, each_taken layers listed.1 plain.1)

others_taken : (layer : SimulcastLayer) (layers : List SimulcastLayer) → AllByRecursion (λ rid. bytes_eq rid layer.rid ≡ false) (rids_in layers)
    → AllByRecursion (λ other. shares_rid other layer ≡ false) layers
others_taken layer [] others = tt
others_taken layer (other ∷ layers) others = (others.0, others_taken layer layers others.1)

apart_taken : (layers : List SimulcastLayer) → IsApart bytes_eq (rids_in layers) → IsApart shares_rid layers
apart_taken [] apart = tt
apart_taken (layer ∷ layers) apart = (others_taken layer layers apart.0, apart_taken layers apart.1)

some_layers : (send recv : List SimulcastLayer) → rids_in send ++ rids_in recv ≢ [] → 0 < length send + length recv
some_layers [] [] some = absurd (some refl)
some_layers [] (layer ∷ layers) some = omega arith
some_layers (layer ∷ layers) recv some = omega arith

pub layers_taken : (simulcast : Option Simulcast) → IfSome simulcast IsPlainSimulcast → IfSome simulcast IsFormedSimulcast
layers_taken None plain = tt
layers_taken (Some simulcast) plain = record {
  some = some_layers simulcast.send simulcast.recv plain.some;
  send = record { each = each_taken simulcast.send plain.send.listed plain.sent; apart = apart_taken simulcast.send plain.send.apart };
  recv = record { each = each_taken simulcast.recv plain.recv.listed plain.received; apart = apart_taken simulcast.recv plain.recv.apart };
}

line_taken : (line : MediaLine) → IsLegibleLine line → IsTakenLine line
line_taken line legible = record {
  payloads = record {
    small = rows_small line.payloads (numbers_plain line.payloads legible.payloads);
    apart = subst (IsApart (λ x y. x == y)) (sym (formats_same line.payloads)) legible.payloads_apart;
  };
  exts = extensions_taken line.exts legible.exts;
  simulcast = layers_taken line.simulcast legible.simulcast;
}

all_taken : (lines : List MediaLine) → AllByRecursion IsLegibleLine lines → AllByRecursion IsTakenLine lines
all_taken [] legible = tt
all_taken (line ∷ lines) legible = (line_taken line legible.0, all_taken lines legible.1)

-- The lines of a legible session description can be taken.
pub legible_lines_taken : (sdp : Sdp) → IsLegible sdp → AllByRecursion IsTakenLine sdp.lines
legible_lines_taken sdp legible = all_taken sdp.lines legible.lines
