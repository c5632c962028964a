-- The layers of a plain line have lines of their own form.
use Rattle.std.proofs.Common.{◌≡◌, ℕ, Bool, true, false, cond, eqb, List, [], ◌∷◌, ◌++◌, map, Option, Some, None, refl, ap}
use Rattle.std.specs.Prelude.{IfSome, option_map}
use Rattle.std.specs.List.{AllByRecursion}
use Rattle.rtc_wire_text.specs.Tokens.{is_short_token}
use Rattle.rtc_sdp_values.specs.declared.simulcast.Simulcast.{Simulcast}
use Rattle.rtc_sdp_values.specs.declared.simulcast_layer.SimulcastLayer.{SimulcastLayer}
use Rattle.rtc_sdp_attributes.specs.declared.rid_direction.RidDirection.{RidDirection}
use Rattle.rtc_sdp_attributes.specs.declared.rid_direction.RidDirection.TheVariants.{Send, Recv}
use Rattle.rtc_sdp_attributes.specs.declared.rid_line.RidLine.{RidLine}
use Rattle.rtc_sdp_attributes.specs.PlainValues.{IsPlainPair}
use Rattle.rtc_sdp_attributes.specs.AttributeTexts.{rids_in}
use Rattle.rtc_sdp_attributes.specs.PlainValues.{is_listed}
use Rattle.rtc_sdp_attributes.proofs.RidLemmas.{ArePairsFree}
use Rattle.rtc_sdp_reader.specs.Layers.{simulcast_value}
use Rattle.rtc_sdp_reader.specs.PlainLayers.{rid_line, listed}
use Rattle.rtc_sdp_reader.proofs.LayerLaw.{simulcast_value_again}
use Rattle.rtc_sdp_grammar.proofs.MediaLineLaws.{IsPlainLayerList}
use Rattle.rtc_sdp_grammar.proofs.MediaLineLaws.{IsPlainLayer as IsPlainLayerLine}
use Rattle.rtc_sdp_writer.specs.MediaRows.{layers_in}
use Rattle.rtc_sdp_writer.specs.Plain.{IsPairOfLine, IsPlainLayer, IsPlainSimulcast}

pairs_form : (pairs : List (List ℕ × List ℕ)) → AllByRecursion IsPairOfLine pairs → AllByRecursion IsPlainPair pairs
pairs_form [] h = tt
pairs_form (p ∷ ps) h = (h.0.0, pairs_form ps h.1)

pairs_line : (pairs : List (List ℕ × List ℕ)) → AllByRecursion IsPairOfLine pairs → ArePairsFree 10 pairs
pairs_line [] h = tt
pairs_line (p ∷ ps) h = ((h.0.1, h.0.2), pairs_line ps h.1)

token_of : (rid : List ℕ) → is_listed rid ≡ true → is_short_token rid ≡ true
token_of [] h = absurd cc
token_of (b ∷ bs) h = go (eqb b 126) refl h
  where
    go : (t : Bool) → eqb b 126 ≡ t → cond t false (is_short_token (b ∷ bs)) ≡ true → is_short_token (b ∷ bs) ≡ true
    go true e k = absurd cc
    go false e k = k

one_way : (direction : RidDirection) (layers : List SimulcastLayer) → AllByRecursion (λ rid. is_listed rid ≡ true) (rids_in layers) → AllByRecursion IsPlainLayer layers → AllByRecursion IsPlainLayerLine (map (rid_line direction) layers)
one_way direction [] h k = tt
one_way direction (l ∷ ls) h k =
    (record { form = record { token = token_of l.rid h.0; pairs = pairs_form l.attributes k.0 }; line = pairs_line l.attributes k.0 }, one_way direction ls h.1 k.1)

all_append : (xs ys : List RidLine) → AllByRecursion IsPlainLayerLine xs → AllByRecursion IsPlainLayerLine ys → AllByRecursion IsPlainLayerLine (xs ++ ys)
all_append [] ys h k = k
all_append (x ∷ xs) ys h k = (h.0, all_append xs ys h.1 k)

pub layers_plain : (simulcast : Option Simulcast) → IfSome simulcast IsPlainSimulcast → AllByRecursion IsPlainLayerLine (layers_in simulcast)
layers_plain None h = tt
layers_plain (Some s) h = all_append (map (rid_line Recv) s.recv) (map (rid_line Send) s.send) (one_way Recv s.recv h.recv.listed h.received) (one_way Send s.send h.send.listed h.sent)

pub list_plain : (simulcast : Option Simulcast) → IfSome simulcast IsPlainSimulcast → IfSome simulcast IsPlainLayerList
list_plain None h = tt
list_plain (Some s) h = record { send = h.send; recv = h.recv; some = h.some }

-- the layers and their list give the simulcast
pub simulcast_again : (simulcast : Option Simulcast) → IfSome simulcast IsPlainSimulcast → option_map (simulcast_value (layers_in simulcast)) (option_map listed simulcast) ≡ simulcast
simulcast_again None h = refl
simulcast_again (Some s) h = ap (λ (x : Simulcast). Some x) (simulcast_value_again s (record { send = h.send.apart; recv = h.recv.apart }))
