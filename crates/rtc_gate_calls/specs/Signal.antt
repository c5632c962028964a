-- Frames of the signalling gateway: the length of a body in four bytes, and the body: a kind, a name and a text.
use Rattle.std.specs.Prelude.{ℕ, ◌+◌, ◌==◌, not, List, [], ◌∷◌, ◌++◌, length, take, drop, nat_lt, nat_le, Option, Some, None, if◌then◌else◌}
use Rattle.std.specs.Int.{w32, to_be_bytes, from_be_bytes, is_in_range}
use Rattle.std.specs.Str.{is_utf8}
use Rattle.rtc_wire_text.specs.Tokens.{is_short_token}
use Rattle.rtc_gate_calls.specs.declared.signal_kind.SignalKind.{SignalKind}
use Rattle.rtc_gate_calls.specs.declared.signal_kind.SignalKind.TheVariants.{Offer, Answer, Candidate, NobodyThere, NotInGrammar}
use Rattle.rtc_gate_calls.specs.declared.extent.FrameExtent.{FrameExtent}
use Rattle.rtc_gate_calls.specs.declared.extent.FrameExtent.TheVariants.{Partial, OutOfRange, Whole}
use Rattle.rtc_gate_calls.specs.declared.signal_frame.SignalFrame.{SignalFrame}

-- the byte of a kind
abbrev pub kind_byte : SignalKind → ℕ
kind_byte Offer = 1
kind_byte Answer = 2
kind_byte Candidate = 3
kind_byte NobodyThere = 4
kind_byte NotInGrammar = 5

-- the kind of an incoming frame
abbrev pub incoming_kind : ℕ → Option SignalKind
incoming_kind byte =
    if byte == 1 then Some Offer
    else if byte == 2 then Some Answer
    else if byte == 3 then Some Candidate
    else None

-- what a frame says
pub record Signal : Type 0 where
  pub kind : SignalKind
  pub name : List ℕ
  pub text : List ℕ

abbrev pub signal_of : SignalFrame → Signal
signal_of frame = record { kind = frame.kind; name = frame.name; text = frame.text.now }

-- a body: the kind, the length of the name, the name, and the text behind it
abbrev pub signal_body : Signal → List ℕ
signal_body signal = (kind_byte signal.kind ∷ length signal.name ∷ []) ++ signal.name ++ signal.text

-- a frame: the length of the body, and the body
abbrev pub signal_bytes : Signal → List ℕ
signal_bytes signal = to_be_bytes w32 (length (signal_body signal)) ++ signal_body signal

-- bytes as a text
abbrev pub utf8_text_in : List ℕ → Option (List ℕ)
utf8_text_in bytes = if is_utf8 bytes then Some bytes else None

-- bytes as the name of a connection
abbrev pub signal_name_in : List ℕ → Option (List ℕ)
signal_name_in bytes = if is_short_token bytes then Some bytes else None

-- a kind of incoming frames, a name of 1 to 32 token characters, and a text in UTF-8
abbrev pub signal_with : Option SignalKind → Option (List ℕ) → Option (List ℕ) → Option Signal
signal_with (Some kind) (Some name) (Some text) = Some (record { kind = kind; name = name; text = text })
signal_with _ _ _ = None

-- what a body says, if it is that of an incoming frame
abbrev pub signal_in : List ℕ → Option Signal
signal_in [] = None
signal_in (kind ∷ []) = None
signal_in (kind ∷ count ∷ rest) =
    if nat_le count (length rest) then signal_with (incoming_kind kind) (signal_name_in (take count rest)) (utf8_text_in
    (drop count rest)) else None

-- how much of a frame is there, by the number of bytes and the length that they begin with: a body has 3 to 65536 bytes
abbrev pub extent_of : ℕ → ℕ → FrameExtent
extent_of count body =
    if nat_lt count 4 then Partial
    else if not (is_in_range 3 65536 body) then OutOfRange
    else if nat_lt count (4 + body) then Partial
    else Whole (4 + body)

-- how much of the first frame of a stream is there
abbrev pub frame_extent : List ℕ → FrameExtent
frame_extent bytes = extent_of (length bytes) (from_be_bytes w32 (take 4 bytes))

abbrev pub IfWhole : FrameExtent → (ℕ → Type 0) → Type 0
IfWhole Partial P = Unit {0}
IfWhole OutOfRange P = Unit {0}
IfWhole (Whole size) P = P size
