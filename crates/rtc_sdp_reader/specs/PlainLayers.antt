-- The `rid` attributes that are written for layers, and the layers that are read back.
use Rattle.std.specs.Prelude.{List, ◌++◌, map}
use Rattle.std.specs.Str.{bytes_eq}
use Rattle.rtc_wire_text.specs.Once.{IsApart}
use Rattle.rtc_sdp_values.specs.declared.simulcast.Simulcast.{Simulcast}
use Rattle.rtc_sdp_values.specs.declared.simulcast_layer.SimulcastLayer.{SimulcastLayer}
use Rattle.rtc_sdp_attributes.specs.declared.rid_direction.RidDirection.{RidDirection}
use Rattle.rtc_sdp_attributes.specs.declared.rid_direction.RidDirection.TheVariants.{Send, Recv}
use Rattle.rtc_sdp_attributes.specs.declared.rid_line.RidLine.{RidLine}
use Rattle.rtc_sdp_attributes.specs.declared.simulcast_line.SimulcastLine.{SimulcastLine}
use Rattle.rtc_sdp_attributes.specs.AttributeTexts.{rids_in}

abbrev pub rid_line : RidDirection → SimulcastLayer → RidLine
rid_line direction layer = record { rid = layer.rid; direction = direction; attributes = layer.attributes }

-- the attributes of the layers, in the order of their lines: those that are received, then those that are sent
abbrev pub rid_lines : Simulcast → List RidLine
rid_lines simulcast = map (rid_line Recv) simulcast.recv ++ map (rid_line Send) simulcast.send

-- the lists of the layers
abbrev pub listed : Simulcast → SimulcastLine
listed simulcast = record { send = rids_in simulcast.send; recv = rids_in simulcast.recv }

-- no name is repeated in a direction
pub record AreNamesApart (simulcast : Simulcast) : Type 0 where
  pub send : IsApart bytes_eq (rids_in simulcast.send)
  pub recv : IsApart bytes_eq (rids_in simulcast.recv)
