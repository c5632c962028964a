-- The layers of a media line, from its first `simulcast` attribute and its `rid` attributes.
use Rattle.std.specs.Prelude.{ℕ, Bool, true, false, ◌&&◌, List, [], map, Option, Some, None, if◌then◌else◌}
use Rattle.std.specs.Str.{bytes_eq}
use Rattle.rtc_wire_text.specs.Fields.{first}
use Rattle.rtc_sdp_values.specs.declared.simulcast.Simulcast.{Simulcast}
use Rattle.rtc_sdp_values.specs.declared.simulcast_layer.SimulcastLayer.{SimulcastLayer}
use Rattle.rtc_sdp_attributes.specs.declared.rid_direction.RidDirection.{RidDirection}
use Rattle.rtc_sdp_attributes.specs.declared.rid_direction.RidDirection.TheVariants.{Send, Recv}
use Rattle.rtc_sdp_attributes.specs.declared.rid_line.RidLine.{RidLine}
use Rattle.rtc_sdp_attributes.specs.declared.simulcast_line.SimulcastLine.{SimulcastLine}

abbrev pub Pairs : Type 0
Pairs = List (List ℕ × List ℕ)

abbrev pub same_rid_direction : RidDirection → RidDirection → Bool
same_rid_direction Send Send = true
same_rid_direction Send Recv = false
same_rid_direction Recv Send = false
same_rid_direction Recv Recv = true

-- a `rid` attribute of a name and a direction
abbrev pub is_rid_for : RidDirection → List ℕ → RidLine → Bool
is_rid_for direction rid line = same_rid_direction line.direction direction && bytes_eq line.rid rid

abbrev pub pairs_in : RidDirection → List ℕ → RidLine → Option Pairs
pairs_in direction rid line = if is_rid_for direction rid line then Some line.attributes else None

abbrev pub or_no_pairs : Option Pairs → Pairs
or_no_pairs None = []
or_no_pairs (Some pairs) = pairs

-- a layer has the pairs of the first `rid` attribute of its name and direction, and none if there is no such attribute
abbrev pub pairs_for : List RidLine → RidDirection → List ℕ → Pairs
pairs_for lines direction rid = or_no_pairs (first (pairs_in direction rid) lines)

abbrev pub layer : List RidLine → RidDirection → List ℕ → SimulcastLayer
layer lines direction rid = record { rid = rid; attributes = pairs_for lines direction rid }

abbrev pub layers : List RidLine → RidDirection → List (List ℕ) → List SimulcastLayer
layers lines direction rids = map (layer lines direction) rids

unfoldable pub simulcast_value : List RidLine → SimulcastLine → Simulcast
simulcast_value lines line = record { send = layers lines Send line.send; recv = layers lines Recv line.recv }
