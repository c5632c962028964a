-- The plain association as a part: what each call does, exactly.
use Rattle.std.specs.Prelude.{ℕ, ◌≡◌, ◌≤◌, ◌⊎◌, ◌||◌, not, nat_lt, List, [], ◌∷◌, length, Option, Some, None, Result, Ok, Err}
use Rattle.std.specs.declared.alloc.AllocError.{AllocError}
use Rattle.rtc_parts.specs.declared.assoc_error.AssocError.{AssocError}
use Rattle.rtc_parts.specs.declared.assoc_error.AssocError.TheVariants.{StreamExists, ResetPending, NoStream}
use Rattle.rtc_parts.specs.declared.assoc_error.AssocError.TheVariants.{TooLong, Closing, Fault, Alloc}
use Rattle.rtc_parts.specs.declared.assoc_event.AssocEvent.{AssocEvent}
use Rattle.rtc_parts.specs.declared.ppi.Ppi.{Ppi}
use Rattle.rtc_parts.specs.Ppi.{ppi_number, ppi_of}
use Rattle.rtc_parts.specs.AssociationMeaning.{AssociationMeaning}
use Rattle.rtc_parts.specs.AssociationNeeds.{need}
use Rattle.rtc_assoc_state.specs.Packets.{frame_in}
use Rattle.rtc_assoc_state.specs.declared.message.Message.{Message}
use Rattle.rtc_assoc_state.specs.Contents.{Contents, fresh_contents, is_started, is_closing, is_closed, is_ending}
use Rattle.rtc_assoc_state.specs.Contents.{has_stream, closed_here, is_stale, generation_of, buffered_of, wake_of}
use Rattle.rtc_assoc_state.specs.Contents.{is_finished, has_unread, held_outputs, work}
use Rattle.rtc_assoc_state.specs.Outbox.{buffered}
use Rattle.rtc_assoc_state.specs.Streams.{any_threshold}
use Rattle.rtc_assoc_state.specs.Says.{Queues}
use Rattle.rtc_assoc_state.specs.Calls.{limited, connected, accepted, snapped, opened, message_written}
use Rattle.rtc_assoc_state.specs.Calls.{next_message, taken_out, stream_ended, thresholded, shut_down, half_taken}
use Rattle.rtc_assoc_state.specs.Calls.{input_taken, timed, event_given, packet_given}

abbrev pub ending_cause : Contents → Option AssocError
ending_cause p = need (is_ending p) Closing None

abbrev pub open_cause : Contents → ℕ → Option AssocError
open_cause p id = need (has_stream p id) StreamExists (need (closed_here p id) ResetPending (ending_cause p))

abbrev pub write_cause : Contents → ℕ → List ℕ → Option AssocError
write_cause p id bytes =
    need (not (has_stream p id) || closed_here p id) NoStream
    (need (nat_lt p.limits.max_send (length bytes)) TooLong (ending_cause p))

abbrev pub end_cause : Contents → ℕ → Option AssocError
end_cause p id = need (not (has_stream p id) || closed_here p id) NoStream (ending_cause p)

abbrev pub stream_cause : Contents → ℕ → Option AssocError
stream_cause p id = need (not (has_stream p id)) NoStream None

-- a call with one cause to refuse at most: refused for it, or if memory ran out, it changes nothing, and else it does what it is to do. A
-- plain end has no faults
abbrev pub Does : {T : Type 0} → Option AssocError → Contents → (T → Contents → Type 0) → Result T AssocError → Contents → Type 0
Does cause p done (Ok x) q = (cause ≡ None) × done x q
Does cause p done (Err Fault) q = ⊥
Does cause p done (Err Alloc) q = q ≡ p
Does cause p done (Err e) q = (cause ≡ Some e) × (q ≡ p)

abbrev pub Leaves : Contents → Unit {0} → Contents → Type 0
Leaves r _ q = q ≡ r

-- it leaves these contents, and the packets that it queues say what is true then
abbrev pub Sends : Contents → Contents → Contents → Type 0
Sends p r q = (q ≡ r) × Queues p q

abbrev pub message_shown : Message → Ppi × List ℕ
message_shown m = (ppi_of m.identifier, m.bytes)

-- what a reading returns and leaves, by the next message of the stream
abbrev pub Reads : Option Message → ℕ → Contents → Option (Ppi × List ℕ) → Contents → Type 0
Reads None id p None q = q ≡ p
Reads None id p (Some shown) q = ⊥
Reads (Some m) id p None q = ⊥
Reads (Some m) id p (Some shown) q = (shown ≡ message_shown m) × (q ≡ taken_out id p)

-- a packet that was given. If memory ran out, the end is unchanged, or has taken the acknowledgement of the packet
abbrev pub Gives : Contents → ℕ → List ℕ → Result (Unit {0}) AllocError → Contents → Type 0
Gives p now bytes (Ok _) q = Sends p (input_taken now bytes p) q
Gives p now bytes (Err _) q = (q ≡ p) ⊎ (q ≡ half_taken (frame_in bytes) p)

abbrev pub Times : Contents → ℕ → Result (Unit {0}) AllocError → Contents → Type 0
Times p now (Ok _) q = Sends p (timed now p) q
Times p now (Err _) q = q ≡ p

abbrev pub Polls : List AssocEvent → Contents → Option AssocEvent → Contents → Type 0
Polls [] p None q = q ≡ p
Polls [] p (Some event) q = ⊥
Polls (e ∷ events) p None q = ⊥
Polls (e ∷ events) p (Some event) q = (event ≡ e) × (q ≡ event_given events p)

abbrev pub Transmits : List (List ℕ) → Contents → Option (List ℕ) → Contents → Type 0
Transmits [] p None q = q ≡ p
Transmits [] p (Some packet) q = ⊥
Transmits (b ∷ packets) p None q = ⊥
Transmits (b ∷ packets) p (Some packet) q = (packet ≡ b) × (length packet ≤ 1900) × (q ≡ packet_given packets p)

abbrev pub plain_meaning : AssociationMeaning Contents
plain_meaning = record {
  fresh = λ p. p ≡ fresh_contents;
  limits_set = λ p max_payload local_max_message q. q ≡ limited max_payload local_max_message p;
  connected = λ p now max_send r q. Does None p (Leaves (connected now max_send p)) r q;
  accepted = λ p now max_send r q. Does None p (Leaves (accepted now max_send p)) r q;
  connected_snap = λ p now max_send local remote r q. Does None p (Leaves (snapped now max_send p)) r q;
  opened = λ p id r q. Does (open_cause p id) p (Leaves (opened id p)) r q;
  wrote = λ p id ppi bytes r q. Does (write_cause p id bytes) p
      (λ n o. (n ≡ length bytes) × Sends p (message_written id (ppi_number ppi) bytes p) o) r q;
  read = λ p id r q. Does (stream_cause p id) p (λ m o. Reads (next_message id p) id p m o) r q;
  ended = λ p id r q. Does (end_cause p id) p (λ _ o. Sends p (stream_ended p.clock.now id p) o) r q;
  threshold_set = λ p id n r q. Does (stream_cause p id) p (Leaves (thresholded id n p)) r q;
  reliability_set = λ p id unordered t n r q. Does (stream_cause p id) p (Leaves p) r q;
  given = Gives;
  timed = Times;
  polled = λ p r q. Polls p.events p r q;
  gave = λ p r q. Transmits p.packets p r q;
  shut = λ p r q. Does (ending_cause p) p (Leaves (shut_down p)) r q;
  started = is_started;
  closing = is_closing;
  closed = is_closed;
  has_stream = has_stream;
  stale = is_stale;
  generation = generation_of;
  buffered = buffered_of;
  wake = wake_of;
  max_send = λ p. p.limits.max_send;
  resetting = closed_here;
  closed_here = closed_here;
  held = held_outputs;
  units = work;
  faults = λ p. 0;
  has_threshold = λ p. any_threshold p.streams;
  due = λ p. p.events;
  finished = is_finished;
  has_unread = has_unread;
  unacknowledged = λ p id. buffered id p.outbox.items;
}
