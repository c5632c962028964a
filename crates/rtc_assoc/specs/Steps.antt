-- Steps of two ends, and what each returns.
use Rattle.std.specs.Prelude.{ℕ, ◌≡◌, ◌⊎◌, ◌&&◌, not, Bool, true, false, List, [], ◌∷◌, ◌++◌}
use Rattle.std.specs.Prelude.{length, Option, Some, None, Ok, Err, slice_get}
use Rattle.rtc_parts.specs.declared.assoc_error.AssocError.{AssocError}
use Rattle.rtc_parts.specs.declared.assoc_error.AssocError.TheVariants.{StreamExists, ResetPending, NoStream}
use Rattle.rtc_parts.specs.declared.assoc_error.AssocError.TheVariants.{TooLong, Closing, Fault, Alloc}
use Rattle.rtc_parts.specs.declared.ppi.Ppi.{Ppi}
use Rattle.rtc_assoc_state.specs.Contents.{Contents, fresh_contents, is_started, generation_of}
use Rattle.rtc_assoc_state.specs.Calls.{limited}
use Rattle.rtc_assoc_state.specs.PlainMeaning.{plain_meaning}
use Rattle.rtc_assoc.specs.declared.sent.Sent.{Sent}
use Rattle.rtc_assoc.specs.declared.assoc_step.AssocStep.{AssocStep}
use Rattle.rtc_assoc.specs.declared.assoc_step.AssocStep.TheVariants.{Connect, Accept, Open, Write, CloseStream, Time}
use Rattle.rtc_assoc.specs.declared.assoc_step.AssocStep.TheVariants.{Transmit, Deliver, Poll, Read}
use Rattle.rtc_assoc.specs.declared.assoc_reply.AssocReply.{AssocReply}
use Rattle.rtc_assoc.specs.declared.assoc_reply.AssocReply.TheVariants.{Done, Refused, Wrote, Packet, Event, Message, NoSuch}

-- the end of a step
abbrev pub at_left : AssocStep → Bool
at_left (Connect left) = left
at_left (Accept left) = left
at_left (Open left id) = left
at_left (Write left id ppi bytes) = left
at_left (CloseStream left id) = left
at_left (Time left now) = left
at_left (Transmit left) = left
at_left (Deliver left packet now) = left
at_left (Poll left) = left
at_left (Read left id) = left

-- whether a refusal is shown: neither a fault nor `Alloc`
abbrev pub is_refusal : AssocError → Bool
is_refusal StreamExists = true
is_refusal ResetPending = true
is_refusal NoStream = true
is_refusal TooLong = true
is_refusal Closing = true
is_refusal Fault = false
is_refusal Alloc = false

-- if a call is not to be made nothing is done, and else what the call does
abbrev pub Tried : Bool → Type 0 → AssocReply → Contents → Contents → Type 0
Tried test Called reply p q = ((test ≡ false) × (reply ≡ NoSuch) × (q ≡ p)) ⊎ ((test ≡ true) × Called)

-- what each call returns and does, from the meaning of the part
abbrev pub Connects : AssocReply → Contents → Contents → Type 0
Connects Done p q = plain_meaning.connected p 0 4294967295 (Ok tt) q
Connects (Refused e) p q = (is_refusal e ≡ true) × plain_meaning.connected p 0 4294967295 (Err e) q
Connects _ p q = ⊥

abbrev pub Accepts : AssocReply → Contents → Contents → Type 0
Accepts Done p q = plain_meaning.accepted p 0 4294967295 (Ok tt) q
Accepts (Refused e) p q = (is_refusal e ≡ true) × plain_meaning.accepted p 0 4294967295 (Err e) q
Accepts _ p q = ⊥

abbrev pub Opens : ℕ → AssocReply → Contents → Contents → Type 0
Opens id Done p q = plain_meaning.opened p id (Ok tt) q
Opens id (Refused e) p q = (is_refusal e ≡ true) × plain_meaning.opened p id (Err e) q
Opens id _ p q = ⊥

abbrev pub Writes : ℕ → Ppi → List ℕ → AssocReply → Contents → Contents → Type 0
Writes id ppi bytes (Wrote generation) p q = (generation ≡ generation_of p id) × plain_meaning.wrote p id ppi bytes (Ok (length bytes)) q
Writes id ppi bytes (Refused e) p q = (is_refusal e ≡ true) × plain_meaning.wrote p id ppi bytes (Err e) q
Writes id ppi bytes _ p q = ⊥

abbrev pub ClosesStream : ℕ → AssocReply → Contents → Contents → Type 0
ClosesStream id Done p q = plain_meaning.ended p id (Ok tt) q
ClosesStream id (Refused e) p q = (is_refusal e ≡ true) × plain_meaning.ended p id (Err e) q
ClosesStream id _ p q = ⊥

abbrev pub StepTimes : ℕ → AssocReply → Contents → Contents → Type 0
StepTimes now Done p q = plain_meaning.timed p now (Ok tt) q
StepTimes now _ p q = ⊥

abbrev pub Delivers : List ℕ → ℕ → AssocReply → Contents → Contents → Type 0
Delivers bytes now Done p q = plain_meaning.given p now bytes (Ok tt) q
Delivers bytes now _ p q = ⊥

abbrev pub StepPolls : AssocReply → Contents → Contents → Type 0
StepPolls (Event event) p q = plain_meaning.polled p event q
StepPolls _ p q = ⊥

abbrev pub StepReads : ℕ → AssocReply → Contents → Contents → Type 0
StepReads id (Message generation message) p q = (generation ≡ generation_of p id) × plain_meaning.read p id (Ok message) q
StepReads id (Refused e) p q = (is_refusal e ≡ true) × plain_meaning.read p id (Err e) q
StepReads id _ p q = ⊥

-- a packet that is taken is put at the end of all, and its number is returned
pub record Numbers (left : Bool) (number : ℕ) (p q : Contents) (packets after : List Sent) : Type 0 where
  pub bytes : List ℕ
  pub gave : plain_meaning.gave p (Some bytes) q
  pub number_is : number ≡ length packets
  pub after_is : after ≡ packets ++ (record { from_left = left; bytes = bytes }) ∷ []

abbrev pub StepTransmits : Bool → AssocReply → Contents → Contents → (packets after : List Sent) → Type 0
StepTransmits left (Packet None) p q packets after = plain_meaning.gave p None q × (after ≡ packets)
StepTransmits left (Packet (Some number)) p q packets after = Numbers left number p q packets after
StepTransmits left _ p q packets after = ⊥

-- whether a packet is one for an end: one that the other end transmitted
abbrev pub is_packet_for : Bool → Option Sent → Bool
is_packet_for left None = false
is_packet_for true (Some sent) = not sent.from_left
is_packet_for false (Some sent) = sent.from_left

abbrev pub bytes_of : Option Sent → List ℕ
bytes_of None = []
bytes_of (Some sent) = sent.bytes

-- a step at an end, with the packets of both ends before and after
abbrev pub PerformsAssocStep : AssocStep → AssocReply → (p q : Contents) → (packets after : List Sent) → Type 0
PerformsAssocStep (Connect left) reply p q packets after = Tried (not (is_started p)) (Connects reply p q) reply p q × (after ≡ packets)
PerformsAssocStep (Accept left) reply p q packets after = Tried (not (is_started p)) (Accepts reply p q) reply p q × (after ≡ packets)
PerformsAssocStep (Open left id) reply p q packets after = Tried (is_started p) (Opens id reply p q) reply p q × (after ≡ packets)
PerformsAssocStep (Write left id ppi bytes) reply p q packets after =
    Tried (is_started p) (Writes id ppi bytes reply p q) reply p q × (after ≡ packets)
PerformsAssocStep (CloseStream left id) reply p q packets after =
    Tried (is_started p) (ClosesStream id reply p q) reply p q × (after ≡ packets)
PerformsAssocStep (Time left now) reply p q packets after = Tried (is_started p) (StepTimes now reply p q) reply p q × (after ≡ packets)
PerformsAssocStep (Transmit left) reply p q packets after =
    ((is_started p ≡ false) × (reply ≡ NoSuch) × (q ≡ p) × (after ≡ packets))
    ⊎ ((is_started p ≡ true) × StepTransmits left reply p q packets after)
PerformsAssocStep (Deliver left packet now) reply p q packets after =
    let sent = slice_get packets packet in
    Tried (is_started p && is_packet_for left sent) (Delivers (bytes_of sent) now reply p q) reply p q × (after ≡ packets)
PerformsAssocStep (Poll left) reply p q packets after = Tried (is_started p) (StepPolls reply p q) reply p q × (after ≡ packets)
PerformsAssocStep (Read left id) reply p q packets after = Tried (is_started p) (StepReads id reply p q) reply p q × (after ≡ packets)

-- two ends, and the packets that both have transmitted
pub record World : Type 0 where
  pub left : Contents
  pub right : Contents
  pub packets : List Sent

abbrev pub world : (left right : Contents) → List Sent → World
world left right packets = record { left = left; right = right; packets = packets }

abbrev pub Steps : Bool → AssocStep → AssocReply → World → World → Type 0
Steps true step reply w v = PerformsAssocStep step reply w.left v.left w.packets v.packets × (v.right ≡ w.right)
Steps false step reply w v = PerformsAssocStep step reply w.right v.right w.packets v.packets × (v.left ≡ w.left)

-- one step after the other, each at the ends that those before left
abbrev pub Ran : List AssocStep → List AssocReply → World → World → Type 0
Ran [] [] w v = v ≡ w
Ran [] (reply ∷ replies) w v = ⊥
Ran (step ∷ steps) [] w v = ⊥
Ran (step ∷ steps) (reply ∷ replies) w v = (u : World) × (Steps (at_left step) step reply w u × Ran steps replies u v)

-- two fresh ends with packets of at most this size
abbrev pub first_world : ℕ → World
first_world max_payload = world (limited max_payload 262144 fresh_contents) (limited max_payload 262144 fresh_contents) []

-- the steps gave these replies, and left these ends
pub record RunsEnds (max_payload : ℕ) (steps : List AssocStep) (replies : List AssocReply) (left right : Contents) : Type 0 where
  pub packets : List Sent
  pub ran : Ran steps replies (first_world max_payload) (record { left = left; right = right; packets = packets })
