-- What an association is: what each of its calls does, and what it holds.
use Rattle.std.specs.Prelude.{ℕ, Bool, List, Option, Result}
use Rattle.std.specs.declared.alloc.AllocError.{AllocError}
use Rattle.rtc_wire.specs.declared.reliability_type.ReliabilityType.{ReliabilityType}
use Rattle.rtc_parts.specs.declared.assoc_error.AssocError.{AssocError}
use Rattle.rtc_parts.specs.declared.assoc_event.AssocEvent.{AssocEvent}
use Rattle.rtc_parts.specs.declared.ppi.Ppi.{Ppi}

pub record AssociationMeaning (S : Type 0) : Type 1 where
  -- a part that is as it was made
  pub fresh : S → Type 0
  -- what each call does: the part before, the arguments, the result, the part after
  pub limits_set : S → (max_payload local_max_message : ℕ) → S → Type 0
  pub connected : S → (now max_send : ℕ) → Result (Unit {0}) AssocError → S → Type 0
  pub accepted : S → (now max_send : ℕ) → Result (Unit {0}) AssocError → S → Type 0
  pub connected_snap : S → (now max_send : ℕ) → (local remote : List ℕ) → Result (Unit {0}) AssocError → S → Type 0
  pub opened : S → (id : ℕ) → Result (Unit {0}) AssocError → S → Type 0
  pub wrote : S → (id : ℕ) → Ppi → (bytes : List ℕ) → Result ℕ AssocError → S → Type 0
  pub read : S → (id : ℕ) → Result (Option (Ppi × List ℕ)) AssocError → S → Type 0
  pub ended : S → (id : ℕ) → Result (Unit {0}) AssocError → S → Type 0
  pub threshold_set : S → (id n : ℕ) → Result (Unit {0}) AssocError → S → Type 0
  pub reliability_set : S → (id : ℕ) → (unordered : Bool) → ReliabilityType → (p : ℕ) → Result (Unit {0}) AssocError → S → Type 0
  pub given : S → (now : ℕ) → (bytes : List ℕ) → Result (Unit {0}) AllocError → S → Type 0
  pub timed : S → (now : ℕ) → Result (Unit {0}) AllocError → S → Type 0
  pub polled : S → Option AssocEvent → S → Type 0
  pub gave : S → Option (List ℕ) → S → Type 0
  pub shut : S → Result (Unit {0}) AssocError → S → Type 0
  -- what the readings return
  pub started : S → Bool
  pub closing : S → Bool
  pub closed : S → Bool
  pub has_stream : S → (id : ℕ) → Bool
  pub stale : S → (id : ℕ) → Bool
  pub generation : S → (id : ℕ) → ℕ
  pub buffered : S → (id : ℕ) → ℕ
  pub wake : S → Option ℕ
  -- what refusals read: the longest message that the other end takes; whether a reset of a stream is outstanding;
  -- whether this end closed a stream
  pub max_send : S → ℕ
  pub resetting : S → (id : ℕ) → Bool
  pub closed_here : S → (id : ℕ) → Bool
  -- how many outputs polling still gives, how much work is held, and how often the device failed
  pub held : S → ℕ
  pub units : S → ℕ
  pub faults : S → ℕ
  -- whether a threshold is set at a stream
  pub has_threshold : S → Bool
  -- the events that are to be polled, in order
  pub due : S → List AssocEvent
  -- whether the other end closed the generation that a stream has
  pub finished : S → (id : ℕ) → Bool
  -- whether a whole message of a generation of a stream is unread
  pub has_unread : S → (id generation : ℕ) → Bool
  -- how many written bytes of a stream are not acknowledged, whether it is there or not
  pub unacknowledged : S → (id : ℕ) → ℕ
