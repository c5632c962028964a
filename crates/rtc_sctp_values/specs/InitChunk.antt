-- The chunk that starts an association, drawn once, and its text in a session description (RFC 9260, section 3.3.2;
-- draft-hancke-tsvwg-snap).
use Rattle.std.specs.Prelude.{ℕ, ◌%◌, ◌^◌, ◌==◌, max, if◌then◌else◌, List, ◌∷◌, ◌++◌, Option}
use Rattle.std.specs.Int.{w32, to_be_bytes}
use Rattle.base64.specs.Engines.{standard}
use Rattle.base64.specs.GeneralPurpose.{encode_of, decoded_of}
use Rattle.rtc_parts.specs.Draws.{Draws}

-- how many unacknowledged bytes an end holds (section 3.3.2, the advertised window): at least 1 MiB (ours), and at least its longest
-- message, of which 0 means any
abbrev pub receive_budget : (limit : ℕ) → ℕ
receive_budget limit = if limit == 0 then 4_294_967_295 else max 1_048_576 limit

-- a tag is not 0 (section 3.3.2)
abbrev pub nonzero_tag : ℕ → ℕ
nonzero_tag n = if n == 0 then 1 else n

-- an INIT chunk without parameters: its type, flags and length, its tag, the window, 65535 streams each way, its first number
unfoldable pub init_chunk : (tag budget first : ℕ) → List ℕ
init_chunk tag budget first =
    1 ∷ 0 ∷ 0 ∷ 20 ∷ to_be_bytes w32 tag ++ to_be_bytes w32 budget ++ 255 ∷ 255 ∷ 255 ∷ 255 ∷ to_be_bytes w32 first

-- the text of a chunk: base64 with padding (RFC 4648, section 4)
unfoldable pub chunk_text : List ℕ → List ℕ
chunk_text chunk = encode_of standard chunk

-- the chunk of a text, if it is base64 with the padding that belongs there and no bit left over
unfoldable pub chunk_of_text : List ℕ → Option (List ℕ)
chunk_of_text text = decoded_of standard text

module _ {N : Type 0} (draws : Draws N) where
  -- the next number, in 32 bits
  abbrev pub drawn_word : N → ℕ
  drawn_word ids = draws.drawn ids % 2 ^ 32

  -- the chunk of an end with this limit: the tag is drawn, and then the first number
  abbrev pub drawn_chunk : (limit : ℕ) → N → List ℕ
  drawn_chunk limit ids = init_chunk (nonzero_tag (drawn_word ids)) (receive_budget limit) (drawn_word (draws.after ids))

  abbrev pub after_chunk : N → N
  after_chunk ids = draws.after (draws.after ids)
