-- Directions of media lines (RFC 8866, section 6.7).
use Rattle.std.specs.Prelude.{Bool, true, false, ◌&&◌, not, ◌≡◌, refl}
use Rattle.rtc_sdp_values.specs.declared.direction.Direction.{Direction}
use Rattle.rtc_sdp_values.specs.declared.direction.Direction.TheVariants.{SendRecv, SendOnly, RecvOnly, Inactive}

-- the direction as the other end sees it: sending and receiving change places
abbrev pub inverse_of : Direction → Direction
inverse_of SendRecv = SendRecv
inverse_of SendOnly = RecvOnly
inverse_of RecvOnly = SendOnly
inverse_of Inactive = Inactive

abbrev pub does_send : Direction → Bool
does_send SendRecv = true
does_send SendOnly = true
does_send RecvOnly = false
does_send Inactive = false

abbrev pub does_receive : Direction → Bool
does_receive SendRecv = true
does_receive SendOnly = false
does_receive RecvOnly = true
does_receive Inactive = false

abbrev pub same_direction : Direction → Direction → Bool
same_direction SendRecv other = does_send other && does_receive other
same_direction SendOnly other = does_send other && not (does_receive other)
same_direction RecvOnly other = not (does_send other) && does_receive other
same_direction Inactive other = not (does_send other) && not (does_receive other)

-- inverting twice is the identity
pub inverse_of-inverse_of : (dir : Direction) → inverse_of (inverse_of dir) ≡ dir
inverse_of-inverse_of SendRecv = refl
inverse_of-inverse_of SendOnly = refl
inverse_of-inverse_of RecvOnly = refl
inverse_of-inverse_of Inactive = refl

-- one end sends exactly if the other receives
pub does_send-inverse_of : (dir : Direction) → does_send (inverse_of dir) ≡ does_receive dir
does_send-inverse_of SendRecv = refl
does_send-inverse_of SendOnly = refl
does_send-inverse_of RecvOnly = refl
does_send-inverse_of Inactive = refl
