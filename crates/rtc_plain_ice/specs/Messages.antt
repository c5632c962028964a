-- The messages of the plain agent: a STUN header (RFC 8489, section 5) and two user name fragments.
use Rattle.std.specs.Prelude.{
  ℕ,
  ◌+◌,
  ◌==◌,
  ◌&&◌,
  nat_lt,
  nat_le,
  if◌then◌else◌,
  Bool,
  List,
  [],
  ◌∷◌,
  ◌++◌,
  length,
  drop,
  slice_index,
  slice_range,
  Option,
  Some,
  None,
}
use Rattle.std.specs.Int.{w16, w64, to_be_bytes, from_be_bytes}

-- a message: its type, the number of its check, the fragment of who gets it, the fragment of who sends it
pub record IceMessage : Type 0 where
  pub kind : ℕ
  pub number : List ℕ
  pub receiver : List ℕ
  pub sender : List ℕ

abbrev pub CHECK : ℕ
CHECK = 1

abbrev pub RESPONSE : ℕ
RESPONSE = 257

-- the number of a check, in 12 bytes
abbrev pub check_number : ℕ → List ℕ
check_number n = 0 ∷ 0 ∷ 0 ∷ 0 ∷ to_be_bytes w64 n

-- the bytes of a message whose type has this first byte, 0 for a check and 1 for a response
unfoldable pub message_bytes : ℕ → (number receiver sender : List ℕ) → List ℕ
message_bytes first number receiver sender =
    first ∷ 1 ∷ to_be_bytes w16 (2 + length receiver + length sender) ++ 33 ∷ 18 ∷ 164 ∷ 66 ∷ [] ++ number
    ++ length receiver ∷ receiver ++ length sender ∷ sender

-- whether bytes are a STUN message: the length in the header is that of what follows, the first two bits are 0, and the cookie is in its
-- place
unfoldable pub is_ice_message : List ℕ → Bool
is_ice_message bytes =
    nat_le 20 (length bytes) && nat_lt (slice_index bytes 0) 64
    && (slice_index bytes 4 == 33) && (slice_index bytes 5 == 18) && (slice_index bytes 6 == 164) && (slice_index bytes 7 == 66)
    && (length bytes == 20 + from_be_bytes w16 (slice_range bytes 2 4))

-- the two fragments that fill a body, each behind its length
unfoldable pub body_in : (kind : ℕ) → (number body : List ℕ) → Option IceMessage
body_in kind number body =
    let first = slice_index body 0 in
    let second = slice_index body (1 + first) in
    if length body == 2 + first + second
    then Some (record { kind = kind; number = number; receiver = slice_range body 1 (1 + first); sender = drop (2 + first) body })
    else None

-- what bytes say as a message
unfoldable pub ice_message_in : List ℕ → Option IceMessage
ice_message_in bytes =
    if is_ice_message bytes
    then body_in (from_be_bytes w16 (slice_range bytes 0 2)) (slice_range bytes 8 20) (drop 20 bytes)
    else None
