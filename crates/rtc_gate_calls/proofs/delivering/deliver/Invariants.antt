use Rattle.std.proofs.Common.{◌≡◌, map, length}
use Rattle.rtc_gate_calls.specs.Delivering.{parcel_of, after_parcels, ArePlaced}
use Rattle.rtc_gate_calls.proofs.delivering.deliver.Given as goal

-- what is left, put into the queues as they are, gives what all of it gives
abbrev pub invariant-loop-delivery : goal.invariant-loop-delivery
invariant-loop-delivery l =
    (map (after_parcels (map parcel_of l.deliveries.items)) l.connections ≡ map (after_parcels (map parcel_of l.initial.deliveries.items)) l.initial.connections)
    × ArePlaced l.connections l.deliveries.items

abbrev pub decreases-loop-delivery : goal.decreases-loop-delivery
decreases-loop-delivery l = length l.deliveries.items
