-- What a reader of STUN returns.
use Rattle.std.specs.Prelude.{Bool, true, false, Result, Ok, Err}
use Rattle.rtc_wire.specs.declared.stun_error.StunError.{StunError}
use Rattle.rtc_wire.specs.declared.stun_error.StunError.TheVariants.{NotStun}

-- a message is taken exactly if it passes the reader's test
abbrev pub answer_of : Bool → Result Unit StunError
answer_of true = Ok tt
answer_of false = Err NotStun
