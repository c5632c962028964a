-- A stream of bytes, split into the frames at its front and what follows them.
use Rattle.std.specs.Prelude.{◌≡◌, ℕ, zero, suc, Bool, true, false, List, [], ◌∷◌, ◌++◌, length, drop, slice_range, Option, Some, None}
use Rattle.rtc_gate_calls.specs.declared.extent.FrameExtent.{FrameExtent}
use Rattle.rtc_gate_calls.specs.declared.extent.FrameExtent.TheVariants.{Partial, OutOfRange, Whole}
use Rattle.rtc_gate_calls.specs.Signal.{Signal, signal_in, frame_extent}

-- what is at the front of a stream: less than a whole frame, no incoming frame, or a frame of so many bytes
pub data SignalFront : Type 0 where
  Unfinished : SignalFront
  Malformed : SignalFront
  Arrived : (signal : Signal) (size : ℕ) → SignalFront

abbrev pub front_with : Option Signal → ℕ → SignalFront
front_with None size = Malformed
front_with (Some signal) size = Arrived signal size

abbrev pub front_within : FrameExtent → List ℕ → SignalFront
front_within Partial bytes = Unfinished
front_within OutOfRange bytes = Malformed
front_within (Whole size) bytes = front_with (signal_in (slice_range bytes 4 size)) size

unfoldable pub signal_front : List ℕ → SignalFront
signal_front bytes = front_within (frame_extent bytes) bytes

abbrev pub is_malformed_front : SignalFront → Bool
is_malformed_front Unfinished = false
is_malformed_front Malformed = true
is_malformed_front (Arrived signal size) = false

-- the whole frames at the front of a stream, in order, and the bytes behind them
pub record SignalSplit : Type 0 where
  pub signals : List Signal
  pub tail : List ℕ

-- a frame, and then what the bytes behind it are split into
abbrev pub split_with : SignalFront → List ℕ → (List ℕ → SignalSplit) → SignalSplit
split_with Unfinished bytes next = record { signals = []; tail = bytes }
split_with Malformed bytes next = record { signals = []; tail = bytes }
split_with (Arrived signal size) bytes next = record {
  signals = signal
      ∷ (next (drop size bytes)).signals;
  tail = (next (drop size bytes)).tail;
}

-- the same of at most so many frames
unfoldable pub split_up_to : ℕ → List ℕ → SignalSplit
split_up_to zero bytes = record { signals = []; tail = bytes }
split_up_to (suc most) bytes = split_with (signal_front bytes) bytes (split_up_to most)

-- a stream has fewer frames than bytes
abbrev pub split_of : List ℕ → SignalSplit
split_of bytes = split_up_to (length bytes) bytes

-- the whole frames at the front of a stream
abbrev pub signals_in : List ℕ → List Signal
signals_in bytes = (split_of bytes).signals

-- what follows them
abbrev pub tail_of : List ℕ → List ℕ
tail_of bytes = (split_of bytes).tail

-- what follows them is no incoming frame
abbrev pub is_malformed : List ℕ → Bool
is_malformed bytes = is_malformed_front (signal_front (tail_of bytes))

-- a stream may be cut anywhere: what is left of its front is before what follows later
pub record IsCutAnywhere (front later : List ℕ) : Type 0 where
  pub signals : signals_in (front ++ later) ≡ signals_in front ++ signals_in (tail_of front ++ later)
  pub tail : tail_of (front ++ later) ≡ tail_of (tail_of front ++ later)
