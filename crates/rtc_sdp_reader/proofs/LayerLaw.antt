-- Layers whose `rid` attributes are written are read back.
use Rattle.std.proofs.Common.{◌≡◌, ℕ, true, false, List, [], ◌∷◌, ◌++◌, map, Some, refl, sym, ap, ◌∙◌, subst, inl, inr}
use Rattle.std.specs.List.{AllByRecursion}
use Rattle.std.specs.Str.{bytes_eq}
use Rattle.std.proofs.lemmas.List.{append-nil}
use Rattle.rtc_wire_text.specs.Fields.{first}
use Rattle.rtc_wire_text.specs.Once.{IsApart}
use Rattle.rtc_wire_text.proofs.OnceLemmas.{bytes_tell}
use Rattle.rtc_sdp_values.specs.declared.simulcast.Simulcast.{Simulcast}
use Rattle.rtc_sdp_values.specs.declared.simulcast_layer.SimulcastLayer.{SimulcastLayer}
use Rattle.rtc_sdp_attributes.specs.declared.rid_direction.RidDirection.{RidDirection}
use Rattle.rtc_sdp_attributes.specs.declared.rid_direction.RidDirection.TheVariants.{Send, Recv}
use Rattle.rtc_sdp_attributes.specs.declared.rid_line.RidLine.{RidLine}
use Rattle.rtc_sdp_reader.specs.Layers.{same_rid_direction}
use Rattle.rtc_sdp_attributes.specs.AttributeTexts.{rids_in}
use Rattle.rtc_sdp_reader.specs.Layers.{pairs_in, layers, simulcast_value}
use Rattle.rtc_sdp_reader.specs.PlainLayers.{rid_line, rid_lines, listed, AreNamesApart}

same_itself : (direction : RidDirection) → same_rid_direction direction direction ≡ true
same_itself Send = refl
same_itself Recv = refl

bytes_itself : (x : List ℕ) → bytes_eq x x ≡ true
bytes_itself x = elim (bytes_tell x x) [ inl (t, e) ↦ t | inr (f, ne) ↦ absurd (ne refl) ]

bytes_flip : (x y : List ℕ) → bytes_eq x y ≡ false → bytes_eq y x ≡ false
bytes_flip x y h = elim (bytes_tell y x) [
  | inl (t, e) ↦ absurd (let bad : true ≡ false = sym (bytes_itself x) ∙ ap (bytes_eq x) (sym e) ∙ h in cc)
  | inr (f, ne) ↦ f
]

-- the layers of the other direction are passed over
over_received : (rid : List ℕ) (ls : List SimulcastLayer) (rest : List RidLine) → first (pairs_in Send rid) (map (rid_line Recv) ls ++ rest) ≡ first (pairs_in Send rid) rest
over_received rid [] rest = refl
over_received rid (l ∷ ls) rest = over_received rid ls rest

abbrev Found : RidDirection → List RidLine → SimulcastLayer → Type 0
Found direction lines l = first (pairs_in direction l.rid) lines ≡ Some l.attributes

found_past : (direction : RidDirection) (l : SimulcastLayer) (lines : List RidLine) (ms : List SimulcastLayer) → AllByRecursion (λ rid. bytes_eq rid l.rid ≡ false) (rids_in ms) → AllByRecursion (Found direction lines) ms → AllByRecursion (Found direction (rid_line direction l ∷ lines)) ms
found_past direction l lines [] h k = tt
found_past direction l lines (m ∷ ms) h k =
    (rw (same_itself direction, bytes_flip m.rid l.rid h.0) k.0, found_past direction l lines ms h.1 k.1)

all_found : (direction : RidDirection) (ls : List SimulcastLayer) (rest : List RidLine) → IsApart bytes_eq (rids_in ls) → AllByRecursion (Found direction (map (rid_line direction) ls ++ rest)) ls
all_found direction [] rest h = tt
all_found direction (l ∷ ls) rest h =
    (rw (same_itself direction, bytes_itself l.rid) refl, found_past direction l (map (rid_line direction) ls ++ rest) ls h.0 (all_found direction ls rest h.1))

layers_again : (direction : RidDirection) (lines : List RidLine) (ls : List SimulcastLayer) → AllByRecursion (Found direction lines) ls → layers lines direction (rids_in ls) ≡ ls
layers_again direction lines [] h = refl
layers_again direction lines (l ∷ ls) h = rw (h.0, layers_again direction lines ls h.1) refl

found_behind : (received : List SimulcastLayer) (lines : List RidLine) (ls : List SimulcastLayer) → AllByRecursion (Found Send lines) ls → AllByRecursion (Found Send (map (rid_line Recv) received ++ lines)) ls
found_behind received lines [] h = tt
found_behind received lines (l ∷ ls) h = (over_received l.rid received lines ∙ h.0, found_behind received lines ls h.1)

sent_found : (simulcast : Simulcast) → IsApart bytes_eq (rids_in simulcast.send) → AllByRecursion (Found Send (map (rid_line Send) simulcast.send)) simulcast.send
sent_found simulcast h =
    let P : List RidLine → Type 0 = λ lines. AllByRecursion (Found Send lines) simulcast.send in
    subst P (append-nil (map (rid_line Send) simulcast.send)) (all_found Send simulcast.send [] h)

pub simulcast_value_again : (simulcast : Simulcast) → AreNamesApart simulcast → simulcast_value (rid_lines simulcast) (listed simulcast) ≡ simulcast
unfolding simulcast_value
simulcast_value_again simulcast h =
    let sent = layers_again Send (rid_lines simulcast) simulcast.send (found_behind simulcast.recv (map (rid_line Send) simulcast.send) simulcast.send (sent_found simulcast h.send)) in
    let received = layers_again Recv (rid_lines simulcast) simulcast.recv (all_found Recv simulcast.recv (map (rid_line Send) simulcast.send) h.recv) in
    let made : List SimulcastLayer → List SimulcastLayer → Simulcast = λ send recv. record { send = send; recv = recv } in
    ap (λ (send : List SimulcastLayer). made send (layers (rid_lines simulcast) Recv (rids_in simulcast.recv))) sent
    ∙ ap (made simulcast.send) received
