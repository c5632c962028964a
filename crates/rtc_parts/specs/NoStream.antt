-- A result that lends a stream, and the same with None in place of the reason.
use Rattle.std.specs.Prelude.{◌≡◌, Bool, true, false, Option, Some, None, Result, Ok, Err, ⊤}
use Rattle.std.specs.declared.alloc.AllocError.{AllocError}
use Rattle.rtc_parts.specs.declared.no_stream.NoStream.{NoStream}
use Rattle.rtc_parts.specs.declared.no_stream.NoStream.TheVariants.{Declined, Alloc}

-- a stream is lent only if the part has one to give, and Declined is returned only if it has none
abbrev pub StreamAnswers : {X : Type 0} → Bool → Result X NoStream → Type 0
StreamAnswers none (Ok x) = none ≡ false
StreamAnswers none (Err Declined) = none ≡ true
StreamAnswers none (Err Alloc) = ⊤

-- a result with None in place of Declined
abbrev pub none_where_declined : {X : Type 0} → Result X NoStream → Result (Option X) AllocError
none_where_declined (Ok x) = Ok (Some x)
none_where_declined (Err Declined) = Ok None
none_where_declined (Err Alloc) = Err (record {})
