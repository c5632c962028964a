-- When an association refuses a call: exactly if one of the call's needs holds, with the first that does.
use Rattle.std.specs.Prelude.{ℕ, ◌≡◌, ◌≤◌, Bool, true, false, not, ◌||◌, nat_lt, List, length, Option, Some, None, Result, Ok, Err}
use Rattle.rtc_io.specs.Faults.{Rose}
use Rattle.rtc_parts.specs.declared.assoc_error.AssocError.{AssocError}
use Rattle.rtc_parts.specs.declared.assoc_error.AssocError.TheVariants.{StreamExists, ResetPending, NoStream}
use Rattle.rtc_parts.specs.declared.assoc_error.AssocError.TheVariants.{TooLong, Closing, Fault, Alloc}
use Rattle.rtc_parts.specs.AssociationMeaning.{AssociationMeaning}

-- a cause, if it holds, and else what follows
abbrev pub need : Bool → AssocError → Option AssocError → Option AssocError
need true cause next = Some cause
need false cause next = next

module _ {S : Type 0} (m : AssociationMeaning S) where
  abbrev pub closing_need : S → Option AssocError
  closing_need p = need (m.closing p || m.closed p) Closing None

  abbrev pub open_need : S → ℕ → Option AssocError
  open_need p id = need (m.has_stream p id) StreamExists (need (m.resetting p id) ResetPending (closing_need p))

  abbrev pub write_need : S → ℕ → List ℕ → Option AssocError
  write_need p id bytes =
      need (not (m.has_stream p id) || m.closed_here p id) NoStream
      (need (nat_lt (m.max_send p) (length bytes)) TooLong (closing_need p))

  abbrev pub end_need : S → ℕ → Option AssocError
  end_need p id = need (not (m.has_stream p id) || m.closed_here p id) NoStream (closing_need p)

  abbrev pub stream_need : S → ℕ → Option AssocError
  stream_need p id = need (not (m.has_stream p id)) NoStream None

-- a result if the causes to refuse are these and the count of faults went from one number to another: any call may return `Alloc`, and a
-- fault is returned only if the count rose or has its last value
abbrev pub Answered : {T : Type 0} → Option AssocError → (before after : ℕ) → Result T AssocError → Type 0
Answered cause before after (Ok _) = (cause ≡ None) × (before ≤ after)
Answered cause before after (Err Fault) = Rose before after
Answered cause before after (Err Alloc) = before ≤ after
Answered cause before after (Err e) = (cause ≡ Some e) × (before ≤ after)
