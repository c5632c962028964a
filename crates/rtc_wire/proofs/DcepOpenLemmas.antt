-- What was written of an open message is read as that message.
use Rattle.std.proofs.Common.{ℕ, ◌≡◌, ◌+◌, ◌-◌, ◌≤◌, ◌<◌, ◌^◌, Bool, true, false, List, ◌++◌, length, slice_index, slice_range, None, refl, ◌∙◌, ap, arith, append_assoc, length-append, length-drop, drop}
use Rattle.std.specs.Int.{w16, w32, from_be_bytes}
use Rattle.std.specs.Str.{is_utf8}
use Rattle.std.proofs.lemmas.Bool.{le-ltb}
use Rattle.std.proofs.lemmas.Nat.{from_be_bytes-to_be_bytes_2, from_be_bytes-to_be_bytes_4}
use Rattle.std.proofs.Math.Seq.{drop-append_seam, take-append_seam}
use Rattle.std.proofs.Math.ListN.{get_or-append}
use Rattle.std.proofs.lemmas.List.{drop-append-le, take-append-le}
use Rattle.rtc_wire.specs.declared.reliability_type.ReliabilityType.{ReliabilityType}
use Rattle.rtc_wire.specs.declared.reliability_type.ReliabilityType.TheVariants.{Reliable, Rexmit, Timed}
use Rattle.rtc_wire.specs.declared.dcep_open.DcepOpen.{DcepOpen}
use Rattle.rtc_wire.specs.DcepOpen.{type_byte, type_in, is_unordered, header_bytes, open_bytes, label_len, protocol_len, label_in, protocol_in, message_in, refusal_of, ReadsAs}

-- the part between two others
between : (front part back : List ℕ) → slice_range (front ++ (part ++ back)) (length front) (length front + length part) ≡ part
between front part back =
    let count : length front + length part - length front ≡ length part = omega arith in
    rw (count, drop-append_seam front (part ++ back)) (take-append_seam part back)

-- a channel type and its order are in their byte
type_in-type_byte : (t : ReliabilityType) (unordered : Bool) → type_in (type_byte t unordered) ≡ t
type_in-type_byte Reliable false = refl
type_in-type_byte Reliable true = refl
type_in-type_byte Rexmit false = refl
type_in-type_byte Rexmit true = refl
type_in-type_byte Timed false = refl
type_in-type_byte Timed true = refl

is_unordered-type_byte : (t : ReliabilityType) (unordered : Bool) → is_unordered (type_byte t unordered) ≡ unordered
is_unordered-type_byte Reliable false = refl
is_unordered-type_byte Reliable true = refl
is_unordered-type_byte Rexmit false = refl
is_unordered-type_byte Rexmit true = refl
is_unordered-type_byte Timed false = refl
is_unordered-type_byte Timed true = refl

-- what passes each test of `refusal_of` is not refused
accepted : (bytes : List ℕ) → 12 ≤ length bytes → slice_index bytes 0 ≡ 0x03
    → 12 + label_len bytes + protocol_len bytes ≤ length bytes
    → is_utf8 (label_in bytes) ≡ true → is_utf8 (protocol_in bytes) ≡ true → refusal_of bytes ≡ None
accepted bytes long kind whole label protocol =
    rw (le-ltb (length bytes) 12 long, kind, le-ltb (length bytes) (12 + label_len bytes + protocol_len bytes) whole, label, protocol) refl

-- a message is its fields
fields : (m : DcepOpen) (u : Bool) (t : ReliabilityType) (p r : ℕ) (l q : List ℕ)
    → u ≡ m.unordered → t ≡ m.channel_type → p ≡ m.priority → r ≡ m.reliability_parameter → l ≡ m.label → q ≡ m.protocol
    → (let made : DcepOpen = record { unordered = u; channel_type = t; priority = p; reliability_parameter = r; label = l; protocol = q } in made) ≡ m
fields m u t p r l q u_is t_is p_is r_is l_is q_is = rw (u_is, t_is, p_is, r_is, l_is, q_is) refl

-- what can be written of a message
pub record CanBeWritten (m : DcepOpen) : Type 0 where
  pub priority : m.priority < 2 ^ 16
  pub parameter : m.reliability_parameter < 2 ^ 32
  pub label : length m.label ≤ 65535
  pub protocol : length m.protocol ≤ 65535
  pub label_text : is_utf8 m.label ≡ true
  pub protocol_text : is_utf8 m.protocol ≡ true

label_len-open_bytes : (m : DcepOpen) (more : List ℕ) → length m.label ≤ 65535 → label_len (open_bytes m ++ more) ≡ length m.label
unfolding header_bytes
label_len-open_bytes m more few = from_be_bytes-to_be_bytes_2 (length m.label) (omega arith)

protocol_len-open_bytes : (m : DcepOpen) (more : List ℕ) → length m.protocol ≤ 65535 → protocol_len (open_bytes m ++ more) ≡ length m.protocol
unfolding header_bytes
protocol_len-open_bytes m more few = from_be_bytes-to_be_bytes_2 (length m.protocol) (omega arith)

length-header_bytes : (m : DcepOpen) → length (header_bytes m) ≡ 12
unfolding header_bytes
length-header_bytes m = refl

label_in-open_bytes : (m : DcepOpen) (more : List ℕ) → length m.label ≤ 65535 → label_in (open_bytes m ++ more) ≡ m.label
label_in-open_bytes m more few =
    rw (label_len-open_bytes m more few, ← length-header_bytes m, append_assoc (header_bytes m ++ m.label) m.protocol more, append_assoc (header_bytes m) m.label (m.protocol ++ more))
    (between (header_bytes m) m.label (m.protocol ++ more))

protocol_in-open_bytes : (m : DcepOpen) (more : List ℕ) → length m.label ≤ 65535 → length m.protocol ≤ 65535 → protocol_in (open_bytes m ++ more) ≡ m.protocol
protocol_in-open_bytes m more few_in_label few =
    let before : length (header_bytes m ++ m.label) ≡ 12 + length m.label = omega (arith, length-header_bytes m, length-append (header_bytes m) m.label) in
    rw (label_len-open_bytes m more few_in_label, protocol_len-open_bytes m more few, ← before, append_assoc (header_bytes m ++ m.label) m.protocol more)
    (between (header_bytes m ++ m.label) m.protocol more)

-- a message is as long as its header and its texts
length-open_bytes : (m : DcepOpen) (more : List ℕ) → length (open_bytes m ++ more) ≡ 12 + length m.label + length m.protocol + length more
length-open_bytes m more =
    omega (arith, length-header_bytes m, length-append (header_bytes m) m.label, length-append (header_bytes m ++ m.label) m.protocol, length-append (open_bytes m) more)

first_byte : (m : DcepOpen) (more : List ℕ) → slice_index (open_bytes m ++ more) 0 ≡ 0x03
unfolding header_bytes
first_byte m more = refl

open_bytes-accepted : (m : DcepOpen) (more : List ℕ) → CanBeWritten m → refusal_of (open_bytes m ++ more) ≡ None
open_bytes-accepted m more can =
    let count = length-open_bytes m more in
    let label = label_len-open_bytes m more can.label in
    let protocol = protocol_len-open_bytes m more can.protocol in
    accepted (open_bytes m ++ more)
    (omega (arith, count))
    (first_byte m more)
    (rw (label, protocol) (omega (arith, count)))
    (rw (label_in-open_bytes m more can.label) can.label_text)
    (rw (protocol_in-open_bytes m more can.label can.protocol) can.protocol_text)

message_in-open_bytes : (m : DcepOpen) (more : List ℕ) → CanBeWritten m → message_in (open_bytes m ++ more) ≡ m
unfolding header_bytes
message_in-open_bytes m more can =
    fields m _ _ _ _ _ _
    (is_unordered-type_byte m.channel_type m.unordered)
    (type_in-type_byte m.channel_type m.unordered)
    (from_be_bytes-to_be_bytes_2 m.priority can.priority)
    (from_be_bytes-to_be_bytes_4 m.reliability_parameter can.parameter)
    (label_in-open_bytes m more can.label)
    (protocol_in-open_bytes m more can.label can.protocol)

-- what was written, with more bytes behind it, is read as the message
pub written_message_reads_back : (m : DcepOpen) (more : List ℕ) → CanBeWritten m → ReadsAs (open_bytes m ++ more) m
written_message_reads_back m more can = record { accepted = open_bytes-accepted m more can; is = message_in-open_bytes m more can }

-- a part that ends within a list does not see what follows
slice_range-append : (a b : ℕ) (bytes more : List ℕ) → a ≤ b → b ≤ length bytes → slice_range (bytes ++ more) a b ≡ slice_range bytes a b
slice_range-append a b bytes more ordered within =
    rw (drop-append-le a bytes more (omega arith))
    (take-append-le (b - a) (drop a bytes) more (omega (arith, length-drop a bytes)))

-- bytes that are read as a message are read so whatever follows
pub read_whatever_follows : (bytes more : List ℕ) → 12 ≤ length bytes → slice_index bytes 0 ≡ 0x03
    → 12 + label_len bytes + protocol_len bytes ≤ length bytes
    → is_utf8 (label_in bytes) ≡ true → is_utf8 (protocol_in bytes) ≡ true
    → ReadsAs (bytes ++ more) (message_in bytes)
read_whatever_follows bytes more long kind whole label_text protocol_text =
    let longer : length bytes ≤ length (bytes ++ more) = omega (arith, length-append bytes more) in
    let label_is : label_len (bytes ++ more) ≡ label_len bytes = ap (from_be_bytes w16) (slice_range-append 8 10 bytes more (omega arith) (omega arith)) in
    let protocol_is : protocol_len (bytes ++ more) ≡ protocol_len bytes = ap (from_be_bytes w16) (slice_range-append 10 12 bytes more (omega arith) (omega arith)) in
    let label : label_in (bytes ++ more) ≡ label_in bytes =
    rw label_is (slice_range-append 12 (12 + label_len bytes) bytes more (omega arith) (omega arith)) in
    let protocol : protocol_in (bytes ++ more) ≡ protocol_in bytes =
    rw (label_is, protocol_is) (slice_range-append (12 + label_len bytes) (12 + label_len bytes + protocol_len bytes) bytes more (omega arith) whole) in
    let type_is : slice_index (bytes ++ more) 1 ≡ slice_index bytes 1 = get_or-append bytes more 0 1 (omega arith) in
    record {
      accepted = accepted (bytes ++ more) (omega arith)
          (get_or-append bytes more 0 0 (omega arith) ∙ kind)
          (rw (label_is, protocol_is) (omega arith))
          (rw label label_text)
          (rw protocol protocol_text);
      is = fields (message_in bytes) _ _ _ _ _ _
          (ap is_unordered type_is)
          (ap type_in type_is)
          (ap (from_be_bytes w16) (slice_range-append 2 4 bytes more (omega arith) (omega arith)))
          (ap (from_be_bytes w32) (slice_range-append 4 8 bytes more (omega arith) (omega arith)))
          label
          protocol;
    }
