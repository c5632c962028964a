-- The datagrams that the plain media part sends: RTCP headers (RFC 3550, section 6.4.1) whose length field is 0.
use Rattle.std.specs.Prelude.{ℕ, ◌≡◌, List, [], ◌∷◌, Some, slice_get, ⊤}

abbrev pub datagram_of : ℕ → List ℕ → List ℕ
datagram_of packet_type payload = 128 ∷ packet_type ∷ 0 ∷ 0 ∷ payload

-- goodbye (RFC 3550, section 6.6)
abbrev pub goodbye : List ℕ
goodbye = datagram_of 203 []

-- feedback that the application defines
abbrev pub app_feedback : List ℕ → List ℕ
app_feedback payload = datagram_of 204 payload

-- a picture is asked for (RFC 4585, section 6.3.1)
abbrev pub picture_asked : List ℕ
picture_asked = datagram_of 206 []

-- a datagram begins with 80, the version of RTP without padding
abbrev pub IsMarked : List ℕ → Type 0
IsMarked datagram = slice_get datagram 0 ≡ Some 128

abbrev pub EachBegins : List (List ℕ) → Type 0
EachBegins [] = ⊤
EachBegins (d ∷ ds) = IsMarked d × EachBegins ds
