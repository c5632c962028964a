-- What calls of an association return, with the bytes as a list.
use Rattle.std.specs.Prelude.{ℕ, List, Option, Some, None, Result, Ok, Err, Vec, option_map}
use Rattle.std.specs.declared.alloc.Global.{Global}
use Rattle.rtc_parts.specs.declared.assoc_error.AssocError.{AssocError}
use Rattle.rtc_parts.specs.declared.ppi.Ppi.{Ppi}

-- what a reading returned
abbrev pub returned_message : Result (Option (Ppi × Vec ℕ Global)) AssocError → Result (Option (Ppi × List ℕ)) AssocError
returned_message (Ok None) = Ok None
returned_message (Ok (Some message)) = Ok (Some (message.0, message.1.items))
returned_message (Err e) = Err e

-- the packet, if there was one
abbrev pub returned_packet : Option (Vec ℕ Global) → Option (List ℕ)
returned_packet packet = option_map (λ bytes. bytes.items) packet
