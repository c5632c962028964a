-- What a timeout of streams leaves that cleared the events mark of its wake.
use Rattle.std.specs.Prelude.{◌≡◌, false, Option, Some, None, Result, Ok, Err}
use Rattle.std.specs.declared.alloc.AllocError.{AllocError}
use Rattle.rtc_parts.specs.AssociationMeaning.{AssociationMeaning}
use Rattle.rtc_sctp_entries.specs.declared.sctp_event.SctpEvent.{SctpEvent}
use Rattle.rtc_sctp.specs.Streams.{SctpStreams, is_established}
use Rattle.rtc_sctp.specs.Polls.{PollsStreams}

-- a poll gives nothing, unless memory runs out
abbrev pub GivesNothing : Result (Option SctpEvent) AllocError → Type 0
GivesNothing (Ok None) = Unit {0}
GivesNothing (Ok (Some event)) = ⊥
GivesNothing (Err error) = Unit {0}

-- Streams that do not rest are polled after the call as before it, as long as the association is not established: each poll gives
-- the same, and leaves the same but for the moment that is kept.
pub record LeavesUnestablishedPolls {S : Type 0} (m : AssociationMeaning S) (p p' : SctpStreams S) : Type 0 where
  pub after : p.rests ≡ false → (r : Result (Option SctpEvent) AllocError) (q : SctpStreams S) → is_established q.state ≡ false
      → PollsStreams m p' r q → PollsStreams m p r (record q { last = p.last })
  pub before : p.rests ≡ false → (r : Result (Option SctpEvent) AllocError) (q : SctpStreams S) → is_established q.state ≡ false
      → PollsStreams m p r q → PollsStreams m p' r (record q { last = p'.last })
