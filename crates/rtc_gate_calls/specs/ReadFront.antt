-- What is read at the front of a stream.
use Rattle.std.specs.Prelude.{◌≡◌, ◌<◌, ◌≤◌, ◌^◌, ℕ, List, length}
use Rattle.rtc_gate_calls.specs.declared.stream_front.StreamFront.{StreamFront}
use Rattle.rtc_gate_calls.specs.declared.stream_front.StreamFront.TheVariants as fronts
use Rattle.rtc_gate_calls.specs.Signal.{signal_of}
use Rattle.rtc_gate_calls.specs.SignalStream.{Unfinished, Malformed, Arrived, signal_front}

abbrev pub IsReadFront : StreamFront → List ℕ → Type 0
IsReadFront fronts.Unfinished bytes = signal_front bytes ≡ Unfinished
IsReadFront fronts.Malformed bytes = signal_front bytes ≡ Malformed
IsReadFront (fronts.Arrived frame size) bytes =
    (signal_front bytes ≡ Arrived (signal_of frame) size) × (size ≤ length bytes) × (7 ≤ size) × (length frame.text.now < 2 ^ 31)
