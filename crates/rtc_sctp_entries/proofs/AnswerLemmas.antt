-- The answers of an association that streams tell apart.
use Rattle.std.proofs.Common.{◌≡◌, ℕ, List, Option, Some, None, Result, Ok, Err, refl}
use Rattle.rtc_parts.specs.declared.assoc_error.AssocError.{AssocError}
use Rattle.rtc_parts.specs.declared.assoc_error.AssocError.TheVariants.{NoStream, TooLong, Closing, Alloc, Fault, StreamExists, ResetPending}
use Rattle.rtc_parts.specs.declared.ppi.Ppi.{Ppi}
use Rattle.rtc_sctp_entries.specs.declared.heard.Heard.TheVariants as heard
use Rattle.rtc_sctp_entries.specs.declared.opening.Opening.TheVariants as opened
use Rattle.rtc_sctp_entries.specs.Answers.{opening_of, heard_of}

-- an opening that was refused for the stream that is there, or for its outstanding reset
pub exists_is : (r : Result (Unit {0}) AssocError) → opening_of r ≡ opened.Exists → r ≡ Err StreamExists
exists_is (Ok x) e = cc (e)
exists_is (Err NoStream) e = cc (e)
exists_is (Err TooLong) e = cc (e)
exists_is (Err Closing) e = cc (e)
exists_is (Err Alloc) e = cc (e)
exists_is (Err Fault) e = cc (e)
exists_is (Err StreamExists) e = refl
exists_is (Err ResetPending) e = cc (e)

pub pending_is : (r : Result (Unit {0}) AssocError) → opening_of r ≡ opened.Pending → r ≡ Err ResetPending
pending_is (Ok x) e = cc (e)
pending_is (Err NoStream) e = cc (e)
pending_is (Err TooLong) e = cc (e)
pending_is (Err Closing) e = cc (e)
pending_is (Err Alloc) e = cc (e)
pending_is (Err Fault) e = cc (e)
pending_is (Err StreamExists) e = cc (e)
pending_is (Err ResetPending) e = refl

-- a reading that gave nothing
pub nothing_is : (r : Result (Option (Ppi × List ℕ)) AssocError) → heard_of r ≡ heard.Nothing → r ≡ Ok None
nothing_is (Ok None) e = refl
nothing_is (Ok (Some x)) e = cc (e)
nothing_is (Err NoStream) e = cc (e)
nothing_is (Err TooLong) e = cc (e)
nothing_is (Err Closing) e = cc (e)
nothing_is (Err Alloc) e = cc (e)
nothing_is (Err Fault) e = cc (e)
nothing_is (Err StreamExists) e = cc (e)
nothing_is (Err ResetPending) e = cc (e)
