-- What holds of every association.
use Rattle.std.specs.Prelude.{ℕ, ◌≡◌, ◌≢◌, ◌+◌, ◌*◌, ◌<◌, ◌≤◌, ◌⊎◌, Bool, true, false, List, [], ◌∷◌, length, Some, None, Result, Ok, Err}
use Rattle.rtc_wire.specs.declared.reliability_type.ReliabilityType.{ReliabilityType}
use Rattle.rtc_parts.specs.declared.assoc_error.AssocError.{AssocError}
use Rattle.rtc_parts.specs.declared.assoc_error.AssocError.TheVariants.{StreamExists, ResetPending, Alloc}
use Rattle.rtc_parts.specs.declared.assoc_event.AssocEvent.{AssocEvent}
use Rattle.rtc_parts.specs.declared.ppi.Ppi.{Ppi}
use Rattle.rtc_parts.specs.AssociationMeaning.{AssociationMeaning}
use Rattle.rtc_parts.specs.AssociationNeeds.{Answered, closing_need, open_need, write_need, end_need, stream_need}
use Rattle.rtc_parts.specs.AssociationActs.{AssociationAct, starts, writes_to, Acted, brings_threshold}
use Rattle.rtc_parts.specs.AssociationEvents.{AddsEvents}

-- what a result of a starting call leaves: a started part with this limit, or one that is not started
abbrev pub LeavesStarted : {S : Type 0} → AssociationMeaning S → ℕ → Result (Unit {0}) AssocError → S → Type 0
LeavesStarted m max_send (Ok _) q = (m.started q ≡ true) × (m.max_send q ≡ max_send)
LeavesStarted m max_send (Err _) q = m.started q ≡ false

-- what an Ok write of so many bytes does to the buffered amounts
pub record Buffers {S : Type 0} (m : AssociationMeaning S) (p : S) (id count : ℕ) (q : S) : Type 0 where
  pub rises : m.buffered p id ≤ m.buffered q id
  pub bound : m.buffered q id ≤ m.buffered p id + count
  pub others : (other : ℕ) → other ≢ id → m.buffered q other ≡ m.buffered p other

-- no message of the generation of a stream that this end closed is unread
abbrev pub IsSilent : {S : Type 0} → AssociationMeaning S → S → Type 0
IsSilent m p = (id : ℕ) → m.closed_here p id ≡ true → m.has_unread p id (m.generation p id) ≡ false

pub record AssociationLaws {S : Type 0} (m : AssociationMeaning S) : Type 0 where
  -- a fresh part is not started and has no threshold, its streams are at generation 0 and not closed, and it has no
  -- event that is due and no message
  pub fresh_not_started : (p : S) → m.fresh p → m.started p ≡ false
  pub fresh_no_threshold : (p : S) → m.fresh p → m.has_threshold p ≡ false
  pub fresh_due : (p : S) → m.fresh p → m.due p ≡ []
  pub fresh_generation : (p : S) (id : ℕ) → m.fresh p → m.generation p id ≡ 0
  pub fresh_finished : (p : S) (id : ℕ) → m.fresh p → m.finished p id ≡ false
  pub fresh_unread : (p : S) (id g : ℕ) → m.fresh p → m.has_unread p id g ≡ false
  -- each call refuses exactly if one of its needs holds, with the first that does
  pub connect_answer : (p q : S) (now max_send : ℕ) (r : _) → m.connected p now max_send r q → Answered None (m.faults p) (m.faults q) r
  pub accept_answer : (p q : S) (now max_send : ℕ) (r : _) → m.accepted p now max_send r q → Answered None (m.faults p) (m.faults q) r
  pub snap_answer : (p q : S) (now max_send : ℕ) (local remote : List ℕ) (r : _)
      → m.connected_snap p now max_send local remote r q → Answered None (m.faults p) (m.faults q) r
  pub open_answer : (p q : S) (id : ℕ) (r : _) → m.opened p id r q → Answered (open_need m p id) (m.faults p) (m.faults q) r
  pub write_answer : (p q : S) (id : ℕ) (ppi : Ppi) (bytes : List ℕ) (r : _) → m.wrote p id ppi bytes r q
      → Answered (write_need m p id bytes) (m.faults p) (m.faults q) r
  pub read_answer : (p q : S) (id : ℕ) (r : _) → m.read p id r q → Answered (stream_need m p id) (m.faults p) (m.faults q) r
  pub end_answer : (p q : S) (id : ℕ) (r : _) → m.ended p id r q → Answered (end_need m p id) (m.faults p) (m.faults q) r
  pub threshold_answer : (p q : S) (id n : ℕ) (r : _) → m.threshold_set p id n r q
      → Answered (stream_need m p id) (m.faults p) (m.faults q) r
  pub reliability_answer : (p q : S) (id : ℕ) (unordered : Bool) (t : ReliabilityType) (n : ℕ) (r : _)
      → m.reliability_set p id unordered t n r q → Answered (stream_need m p id) (m.faults p) (m.faults q) r
  pub shut_answer : (p q : S) (r : _) → m.shut p r q → Answered (closing_need m p) (m.faults p) (m.faults q) r
  -- an Ok starting call leaves the part started with its limit, a refused one leaves it not started, and no other
  -- call changes either
  pub connect_starts : (p q : S) (now max_send : ℕ) (r : _) → m.started p ≡ false → m.connected p now max_send r q
      → LeavesStarted m max_send r q
  pub accept_starts : (p q : S) (now max_send : ℕ) (r : _) → m.started p ≡ false → m.accepted p now max_send r q
      → LeavesStarted m max_send r q
  pub snap_starts : (p q : S) (now max_send : ℕ) (local remote : List ℕ) (r : _) → m.started p ≡ false
      → m.connected_snap p now max_send local remote r q → LeavesStarted m max_send r q
  pub same_start : (p q : S) (act : AssociationAct) → starts act ≡ false → Acted m p act q
      → (m.started q ≡ m.started p) × (m.max_send q ≡ m.max_send p)
  -- a starting call, Ok or refused, leaves the generation of every stream
  pub connect_generation : (p q : S) (now max_send id : ℕ) (r : _) → m.connected p now max_send r q → m.generation q id ≡ m.generation p id
  pub accept_generation : (p q : S) (now max_send id : ℕ) (r : _) → m.accepted p now max_send r q → m.generation q id ≡ m.generation p id
  pub snap_generation : (p q : S) (now max_send id : ℕ) (local remote : List ℕ) (r : _) → m.connected_snap p now max_send local remote r q
      → m.generation q id ≡ m.generation p id
  -- a message is written whole
  pub write_count : (p q : S) (id : ℕ) (ppi : Ppi) (bytes : List ℕ) (n : ℕ) → m.wrote p id ppi bytes (Ok n) q → n ≡ length bytes
  pub write_buffers : (p q : S) (id : ℕ) (ppi : Ppi) (bytes : List ℕ) (n : ℕ) → m.wrote p id ppi bytes (Ok n) q
      → Buffers m p id (length bytes) q
  -- a reading that gives nothing, and an opening refused for the stream that is there or its outstanding reset, change nothing and, `Alloc`
  -- aside, return the same again
  pub read_none : (p q : S) (id : ℕ) → m.read p id (Ok None) q → q ≡ p
  pub read_none_again : (p q o : S) (id : ℕ) (r : _) → m.read p id (Ok None) q → m.read p id r o → (r ≡ Ok None) ⊎ (r ≡ Err Alloc)
  pub open_refused : (p q : S) (id : ℕ) (e : AssocError) → (e ≡ StreamExists) ⊎ (e ≡ ResetPending) → m.opened p id (Err e) q → q ≡ p
  pub open_refused_again : (p q o : S) (id : ℕ) (e : AssocError) (r : _) → (e ≡ StreamExists) ⊎ (e ≡ ResetPending)
      → m.opened p id (Err e) q → m.opened p id r o → (r ≡ Err e) ⊎ (r ≡ Err Alloc)
  -- a reading gives a message exactly if one of the stream's generation is unread
  pub read_unread : (p q : S) (id : ℕ) (message : Ppi × List ℕ) → m.read p id (Ok (Some message)) q
      → m.has_unread p id (m.generation p id) ≡ true
  pub none_unread : (p q : S) (id : ℕ) → m.read p id (Ok None) q → m.has_unread p id (m.generation p id) ≡ false
  -- a stream that is stale is there and was closed by this end, and one that is not there has no unacknowledged bytes
  pub stale_there : (p : S) (id : ℕ) → m.stale p id ≡ true → m.has_stream p id ≡ true
  pub stale_closed : (p : S) (id : ℕ) → m.stale p id ≡ true → m.closed_here p id ≡ true
  pub none_buffered : (p : S) (id : ℕ) → m.has_stream p id ≡ false → m.buffered p id ≡ 0
  -- the buffered amount of a stream that is there is what is not acknowledged of it, which no act but an Ok write to it raises
  pub there_buffered : (p : S) (id : ℕ) → m.has_stream p id ≡ true → m.buffered p id ≡ m.unacknowledged p id
  pub unacknowledged_falls : (p q : S) (act : AssociationAct) (id : ℕ) → writes_to id act ≡ false → Acted m p act q
      → m.unacknowledged q id ≤ m.unacknowledged p id
  -- an act adds events behind those that are due, and a poll takes the first of these and adds none
  pub adds : (p q : S) (act : AssociationAct) → Acted m p act q → AddsEvents m p (act ∷ []) q
  pub poll_head : (p q : S) (event : AssocEvent) → m.polled p (Some event) q → m.due p ≡ event ∷ m.due q
  pub poll_none : (p q : S) → m.polled p None q → m.due p ≡ []
  -- if no stream that this end closed has a message of its generation unread, none has after an act
  pub closed_silent : (p q : S) (act : AssociationAct) → Acted m p act q → IsSilent m p → IsSilent m q
  -- the count of faults never falls
  pub faults_rise : (p q : S) (act : AssociationAct) → Acted m p act q → m.faults p ≤ m.faults q
  -- a poll that gives nothing changes nothing, and the polls all give nothing exactly if nothing is held
  pub event_none : (p q : S) → m.polled p None q → q ≡ p
  pub packet_none : (p q : S) → m.gave p None q → q ≡ p
  pub event_falls : (p q : S) (event : AssocEvent) → m.polled p (Some event) q → m.held q < m.held p
  pub packet_falls : (p q : S) (packet : List ℕ) → m.gave p (Some packet) q → m.held q < m.held p
  pub quiet_event : (p : S) → m.held p ≡ 0 → m.polled p None p
  pub quiet_packet : (p : S) → m.held p ≡ 0 → m.gave p None p
  pub silent : (p q o : S) → m.polled p None q → m.gave p None o → m.held p ≡ 0
  -- a packet has at most 1900 bytes
  pub packet_short : (p q : S) (packet : List ℕ) → m.gave p (Some packet) q → length packet ≤ 1900
  -- the units of work: what takes some away, and how many each call adds at most
  pub event_units : (p q : S) (event : AssocEvent) → m.polled p (Some event) q → m.units q + 8 ≤ m.units p
  pub packet_units : (p q : S) (packet : List ℕ) → m.gave p (Some packet) q → m.units q + 1 ≤ m.units p
  pub read_units : (p q : S) (id : ℕ) (message : Ppi × List ℕ) → m.read p id (Ok (Some message)) q → m.units q + 1 ≤ m.units p
  pub read_refused_units : (p q : S) (id : ℕ) (e : AssocError) → m.read p id (Err e) q → m.units q ≤ m.units p
  pub open_units : (p q : S) (id : ℕ) (r : _) → m.opened p id r q → m.units q ≤ m.units p
  pub threshold_units : (p q : S) (id n : ℕ) (r : _) → m.threshold_set p id n r q → m.units q ≤ m.units p
  pub reliability_units : (p q : S) (id : ℕ) (unordered : Bool) (t : ReliabilityType) (n : ℕ) (r : _)
      → m.reliability_set p id unordered t n r q → m.units q ≤ m.units p
  pub write_units : (p q : S) (id : ℕ) (ppi : Ppi) (bytes : List ℕ) (r : _) → m.wrote p id ppi bytes r q
      → m.units q ≤ m.units p + length bytes + 2
  pub end_units : (p q : S) (id : ℕ) (r : _) → m.ended p id r q → m.units q ≤ m.units p + 2
  pub shut_units : (p q : S) (r : _) → m.shut p r q → m.units q ≤ m.units p + 2
  pub given_units : (p q : S) (now : ℕ) (bytes : List ℕ) (r : _) → m.has_threshold p ≡ false → m.given p now bytes r q
      → m.units q ≤ m.units p + 16 * (1 + length bytes)
  -- no act but an Ok of setting one brings a threshold
  pub no_threshold : (p q : S) (act : AssociationAct) (h : Acted m p act q) → brings_threshold m p q act h ≡ false
      → m.has_threshold p ≡ false → m.has_threshold q ≡ false
