-- A stream that is sorted frame by frame.
use Rattle.std.proofs.Common.{◌≡◌, ℕ, ◌+◌, ◌-◌, ◌<◌, ◌≤◌, ◌^◌, ◌∙◌, List, [], ◌∷◌, ◌++◌, length, map, take, drop, ap, sym, subst, arith, length-append, length-drop, append_assoc, append-nil}
use Rattle.std.proofs.lemmas.List.{map-append, drop-drop, take_all}
use Rattle.rtc_gate_calls.specs.Signal.{Signal}
use Rattle.rtc_gate_calls.specs.SignalStream.{SignalFront, Arrived, SignalSplit, signal_front, is_malformed_front, split_with, split_of, signals_in, tail_of}
use Rattle.rtc_gate_calls.proofs.SplitLemmas.{split_step, split_goes_on}
use Rattle.rtc_gate_calls.specs.GateState.{ConnectionState, roster_of}
use Rattle.rtc_gate_calls.specs.Routing.{letter_of}
use Rattle.rtc_gate_calls.specs.Delivering.{parcel_of, parcel_with, IsPlaced, EachPlaced, Sorts}
use Rattle.rtc_gate_calls.specs.declared.delivering.Delivery.{Delivery}
use Rattle.rtc_gate_calls.specs.declared.posting.Sender.{Sender}
use Rattle.rtc_gate_calls.specs.declared.sorting.Sorted.{Sorted}

-- what bytes send out
abbrev pub sent : List ConnectionState → Sender → List ℕ → List (ℕ × List (List ℕ))
sent cs sender bytes = map parcel_with (map (letter_of (roster_of cs) sender.number sender.name) (signals_in bytes))

-- what is sorted so far, and what is left of the stream
abbrev pub SortsSoFar : List ConnectionState → Sender → List ℕ → List Delivery → ℕ → Type 0
SortsSoFar cs sender bytes ds at =
    (map parcel_of ds ++ sent cs sender (drop at bytes) ≡ sent cs sender bytes)
    × (tail_of (drop at bytes) ≡ tail_of bytes)
    × EachPlaced cs (2 ^ 62) ds
    × (length ds < 2 ^ 32)
    × (at ≤ length bytes)

-- a range to the end
pub to_end : (xs : List ℕ) (n : ℕ) → take (length xs - n) (drop n xs) ≡ drop n xs
to_end xs n = take_all (length xs - n) (drop n xs) (simp length-drop (omega arith))

stops : (x : List ℕ) (front : SignalFront) → signal_front x ≡ front → (split_with front x split_of ≡ record { signals = []; tail = x }) → split_of x ≡ record { signals = []; tail = x }
stops x front is none = split_step x ∙ ap (λ (f : SignalFront). split_with f x split_of) is ∙ none

-- behind the last whole frame
pub sorted_all : (cs : List ConnectionState) (sender : Sender) (bytes : List ℕ) (sorted : Sorted) (front : SignalFront) → SortsSoFar cs sender bytes sorted.deliveries.items sorted.size → signal_front (drop sorted.size bytes) ≡ front → split_with front (drop sorted.size bytes) split_of ≡ record { signals = []; tail = drop sorted.size bytes } → sorted.stuck ≡ is_malformed_front front → Sorts cs sender bytes sorted
sorted_all cs sender bytes sorted front so_far is none stuck =
    let rest : List ℕ = drop sorted.size bytes in
    let split = stops rest front is none in
    let tails : tail_of rest ≡ rest = ap (λ (s : SignalSplit). s.tail) split in
    let left : rest ≡ tail_of bytes = sym tails ∙ so_far.1 in
    let nothing : sent cs sender rest ≡ [] = ap (λ (s : SignalSplit). map parcel_with (map (letter_of (roster_of cs) sender.number sender.name) s.signals)) split in
    record {
      parcels = sym (append-nil (map parcel_of sorted.deliveries.items)) ∙ ap (λ (ps : List (ℕ × List (List ℕ))). map parcel_of sorted.deliveries.items ++ ps) (sym nothing) ∙ so_far.0;
      each = so_far.2;
      few = so_far.3;
      within = so_far.4;
      left = left;
      stuck = stuck ∙ ap is_malformed_front (sym is) ∙ ap (λ (z : List ℕ). is_malformed_front (signal_front z)) left;
    }

each_push : (cs : List ConnectionState) (more : ℕ) (ds : List Delivery) (d : Delivery) → EachPlaced cs more ds → IsPlaced cs more d → EachPlaced cs more (ds ++ d ∷ [])
each_push cs more [] d each placed = (placed, tt)
each_push cs more (e ∷ ds) d each placed = (each.0, each_push cs more ds d each.1 placed)

-- one frame more
pub sorts_more : (cs : List ConnectionState) (sender : Sender) (bytes : List ℕ) (ds ds' : List Delivery) (at : ℕ) (d : Delivery) (s : Signal) (size : ℕ) → SortsSoFar cs sender bytes ds at → signal_front (drop at bytes) ≡ Arrived s size → size ≤ length (drop at bytes) → length ds + 1 < 2 ^ 32 → ds' ≡ ds ++ d ∷ [] → parcel_of d ≡ parcel_with (letter_of (roster_of cs) sender.number sender.name s) → IsPlaced cs (2 ^ 62) d → SortsSoFar cs sender bytes ds' (at + size)
sorts_more cs sender bytes ds ds' at d s size so_far is within few grown parcel placed =
    let rest : List ℕ = drop at bytes in
    let split = split_goes_on rest s size is in
    let left : drop size rest ≡ drop (at + size) bytes = drop-drop size at bytes in
    let letters : List Signal → List (ℕ × List (List ℕ)) = λ (ss : List Signal). map parcel_with (map (letter_of (roster_of cs) sender.number sender.name) ss) in
    let heads : sent cs sender rest ≡ parcel_of d ∷ sent cs sender (drop (at + size) bytes) =
    ap (λ (t : SignalSplit). letters t.signals) split
    ∙ ap (λ (z : List ℕ). parcel_with (letter_of (roster_of cs) sender.number sender.name s) ∷ sent cs sender z) left
    ∙ ap (λ (p : ℕ × List (List ℕ)). p ∷ sent cs sender (drop (at + size) bytes)) (sym parcel) in
    let tails : tail_of rest ≡ tail_of (drop (at + size) bytes) = ap (λ (t : SignalSplit). t.tail) split ∙ ap (λ (z : List ℕ). tail_of z) left in
    let room : length rest ≡ length bytes - at = length-drop at bytes in
    let count : length ds' ≡ length ds + 1 = ap length grown ∙ length-append ds (d ∷ []) in (
      ap (λ (es : List Delivery). map parcel_of es ++ sent cs sender (drop (at + size) bytes)) grown
          ∙ ap (λ (ps : List (ℕ × List (List ℕ))). ps ++ sent cs sender (drop (at + size) bytes)) (map-append parcel_of ds (d ∷ []))
          ∙ append_assoc (map parcel_of ds) (parcel_of d ∷ []) (sent cs sender (drop (at + size) bytes))
          ∙ ap (λ (ps : List (ℕ × List (List ℕ))). map parcel_of ds ++ ps) (sym heads)
          ∙ so_far.0,
      sym tails ∙ so_far.1,
      subst (λ (es : List Delivery). EachPlaced cs (2 ^ 62) es) (sym grown) (each_push cs (2 ^ 62) ds d so_far.2 placed),
      omega arith,
      omega (arith, so_far.4),
    )
