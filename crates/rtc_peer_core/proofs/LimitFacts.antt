-- The longest message that the other side takes, worked (RFC 8841, section 6.1).
use Rattle.std.proofs.Common.{◌≡◌, ℕ, [], ◌∷◌, Option, Some, None, refl}
use Rattle.std.specs.Prelude.{codes, false}
use Rattle.rtc_sdp_values.specs.MediaLine.{bare_line}
use Rattle.rtc_sdp_values.specs.Sdp.{max_message_size_of}
use Rattle.rtc_sdp_values.specs.declared.direction.Direction.TheVariants.{SendRecv}
use Rattle.rtc_sdp_values.specs.declared.line_kind.LineKind.TheVariants.{Application}
use Rattle.rtc_sdp_values.specs.declared.sdp.Sdp.{Sdp}
use Rattle.rtc_peer_core.specs.PartMoves.{remote_limit}

-- a session description with one line, for data channels, that tells this size or none
says_size : Option ℕ → Sdp
says_size size = record {
  id = 1;
  groups = (codes "d" ∷ []) ∷ [];
  ice_lite = false;
  creds = None;
  fingerprint = None;
  setup = None;
  lines = record (bare_line Application (codes "d") SendRecv) { max_message_size = size } ∷ [];
}

no_size : remote_limit (max_message_size_of (says_size None)) ≡ 65536
unfolding says_size
no_size = refl

size_of_any : remote_limit (max_message_size_of (says_size (Some 0))) ≡ 4294967295
unfolding says_size
size_of_any = refl

size_past_32_bits : remote_limit (max_message_size_of (says_size (Some 4294967296))) ≡ 4294967295
unfolding says_size
size_past_32_bits = refl

size_told : remote_limit (max_message_size_of (says_size (Some 98304))) ≡ 98304
unfolding says_size
size_told = refl
