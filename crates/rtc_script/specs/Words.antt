-- The words that scripts and reports share.
use Rattle.std.specs.Prelude.{ℕ, Bool, true, false, List, [], ◌∷◌, codes}
use Rattle.hex.specs.Hex.{encode_lower}
use Rattle.rtc_sdp_values.specs.declared.direction.Direction.{Direction}
use Rattle.rtc_sdp_values.specs.declared.direction.Direction.TheVariants.{SendRecv, SendOnly, RecvOnly, Inactive}
use Rattle.rtc_sdp_values.specs.declared.media_kind.MediaKind.{MediaKind}
use Rattle.rtc_sdp_values.specs.declared.media_kind.MediaKind.TheVariants.{Audio, Video}
use Rattle.rtc_run_history.specs.declared.side.Side.{Side}
use Rattle.rtc_run_history.specs.declared.side.Side.TheVariants.{Left, Right}

-- the letter of a side
abbrev pub side_text : Side → List ℕ
side_text Left = codes "L"
side_text Right = codes "R"

-- the attribute's word (RFC 8866, section 6.7)
abbrev pub direction_text : Direction → List ℕ
direction_text SendRecv = codes "sendrecv"
direction_text SendOnly = codes "sendonly"
direction_text RecvOnly = codes "recvonly"
direction_text Inactive = codes "inactive"

-- the media type's word (RFC 8866, section 5.14)
abbrev pub kind_text : MediaKind → List ℕ
kind_text Audio = codes "audio"
kind_text Video = codes "video"

-- bytes as lower-case hex digits, two each; a dash for no bytes
abbrev pub hex_word : List ℕ → List ℕ
hex_word [] = codes "-"
hex_word (byte ∷ bytes) = encode_lower (byte ∷ bytes)

-- the kind of a message of a channel (RFC 8831, section 6.6)
abbrev pub message_kind_text : Bool → List ℕ
message_kind_text true = codes "binary"
message_kind_text false = codes "text"

-- whether a restart of ICE keeps the local candidates
abbrev pub keep_text : Bool → List ℕ
keep_text true = codes "keep"
keep_text false = codes "new"

-- the role of a side on glare
abbrev pub role_text : Bool → List ℕ
role_text true = codes "polite"
role_text false = codes "impolite"
