-- What the calls of streams do, but for polls.
use Rattle.std.specs.Prelude.{ℕ, ◌≡◌, ◌+◌, ◌-◌, ◌^◌, ◌&&◌, ◌||◌, not, min, Bool, true, false, List, [], ◌∷◌, length}
use Rattle.std.specs.Prelude.{Option, Some, None, if◌then◌else◌, Result, Ok, Err}
use Rattle.std.specs.List.{list_any}
use Rattle.std.specs.declared.alloc.AllocError.{AllocError}
use Rattle.rtc_parts.specs.declared.assoc_error.AssocError.{AssocError}
use Rattle.rtc_parts.specs.declared.assoc_error.AssocError.TheVariants as assoc
use Rattle.rtc_parts.specs.declared.ppi.Ppi.{Ppi}
use Rattle.rtc_parts.specs.declared.ppi.Ppi.TheVariants as ppi
use Rattle.rtc_parts.specs.AssociationMeaning.{AssociationMeaning}
use Rattle.rtc_ready.specs.Signals.{Signals}
use Rattle.rtc_sctp_entries.specs.declared.asked.Asked.TheVariants as did
use Rattle.rtc_sctp_values.specs.declared.proto_error.ProtoError.TheVariants as proto
use Rattle.rtc_sctp_values.specs.declared.sctp_error.SctpError.{SctpError}
use Rattle.rtc_sctp_values.specs.declared.sctp_error.SctpError.TheVariants as sctp
use Rattle.rtc_sctp.specs.declared.rtc_sctp_state.RtcSctpState.{RtcSctpState}
use Rattle.rtc_sctp.specs.declared.rtc_sctp_state.RtcSctpState.TheVariants.{Uninited, AwaitRemoteAssociation}
use Rattle.rtc_sctp.specs.declared.rtc_sctp_state.RtcSctpState.TheVariants.{AwaitAssociationEstablished, Established}
use Rattle.rtc_sctp_entries.specs.declared.stream_entry.StreamEntry.{StreamEntry}
use Rattle.rtc_sctp_entries.specs.Answers.{asked_of}
use Rattle.rtc_sctp_entries.specs.Part.{AsksStart, AsksShutdown}
use Rattle.rtc_sctp_entries.specs.declared.asked.Asked.{Asked}
use Rattle.rtc_sctp_values.specs.InitHalves.{InitHalves, is_whole, half_bytes}
use Rattle.rtc_sctp_values.specs.SnapHalves.{begun_halves}
use Rattle.rtc_sctp_entries.specs.Entries.{has_open, is_retrying, unclosed, stream_generation, fits_generation}
use Rattle.rtc_sctp.specs.Streams.{SctpStreams, is_attached, is_established}

-- the state of an association that was started as client or as server
abbrev pub started_state : Bool → RtcSctpState
started_state true = AwaitAssociationEstablished
started_state false = AwaitRemoteAssociation

-- the state of an association that was started: by both SNAP INIT chunks it is established at once
abbrev pub begun_state : Option InitHalves → Bool → RtcSctpState
begun_state None client = started_state client
begun_state (Some halves) client = Established

-- no chunks are given, or both of them
abbrev pub are_whole : Option InitHalves → Bool
are_whole None = true
are_whole (Some halves) = is_whole halves

-- the limit of the other end, which is 65536 if it announced none (RFC 8841, section 6.1)
abbrev pub limit_or_default : Option ℕ → ℕ
limit_or_default None = 65536
limit_or_default (Some max) = max

-- the identifier of a message to be written (RFC 8831, section 8)
abbrev pub written_ppi : (binary empty : Bool) → Ppi
written_ppi true true = ppi.EmptyBinary
written_ppi true false = ppi.Binary
written_ppi false true = ppi.EmptyText
written_ppi false false = ppi.Text

abbrev pub is_nil : List ℕ → Bool
is_nil [] = true
is_nil (x ∷ xs) = false

-- why a write is refused, by what the association returns
abbrev pub write_refusal : (id len max : ℕ) → AssocError → SctpError
write_refusal id len max assoc.NoStream = sctp.Proto (proto.NoStream id)
write_refusal id len max assoc.TooLong = sctp.Proto (proto.TooLong len max)
write_refusal id len max assoc.Closing = sctp.WriteBeforeEstablished
write_refusal id len max assoc.Alloc = sctp.Alloc
write_refusal id len max assoc.Fault = sctp.Proto proto.Fault
write_refusal id len max assoc.StreamExists = sctp.Proto proto.Fault
write_refusal id len max assoc.ResetPending = sctp.Proto proto.Fault

abbrev pub write_answer : (id len max : ℕ) → Result ℕ AssocError → Result ℕ SctpError
write_answer id len max (Ok n) = Ok len
write_answer id len max (Err e) = Err (write_refusal id len max e)

-- the earlier of two moments, if there are any
abbrev pub earlier_of : Option ℕ → Option ℕ → Option ℕ
earlier_of None b = b
earlier_of (Some a) None = Some a
earlier_of (Some a) (Some b) = Some (min a b)

-- the state once a packet of the other end is received: a server's first one is what it waits for
abbrev pub state_on_input : RtcSctpState → RtcSctpState
state_on_input AwaitRemoteAssociation = AwaitAssociationEstablished
state_on_input Uninited = Uninited
state_on_input AwaitAssociationEstablished = AwaitAssociationEstablished
state_on_input Established = Established

-- a moment is kept, and closed entries are dropped
abbrev pub timed_streams : {S : Type 0} → ℕ → SctpStreams S → SctpStreams S
timed_streams now p = record p { last = now; entries = unclosed p.entries; rests = false }

-- when an opening is tried again: half a second after the last moment
abbrev pub retry_wake : List StreamEntry → ℕ → Option ℕ
retry_wake entries last =
    if list_any is_retrying entries then Some (min (last + 500_000_000) (2 ^ 64 - 1)) else None

-- a stream is open: the association is established, and so is the stream
abbrev pub is_open_stream : {S : Type 0} → ℕ → SctpStreams S → Bool
is_open_stream id p = is_established p.state && has_open id p.entries

module _ {S : Type 0} (m : AssociationMeaning S) where
  -- a start with the chunks of both ends
  pub record AsksSnap (halves : InitHalves) (p : S) (now max_send : ℕ) (answer : Asked) (q : S) : Type 0 where
    pub result : Result (Unit {0}) AssocError
    pub called : m.connected_snap p now max_send (half_bytes halves.local) (half_bytes halves.remote) result q
    pub is : asked_of result ≡ answer

  -- a start with both SNAP INIT chunks, if they are given, or else as the client or as the server
  abbrev pub AsksInit : Option InitHalves → Bool → S → (now max : ℕ) → Asked → S → Type 0
  AsksInit None client p now max answer q = AsksStart m client p now max answer q
  AsksInit (Some halves) client p now max answer q = (is_whole halves ≡ true) × AsksSnap halves p now max answer q

  -- the association is started; a second start is refused, and so is one with one chunk alone; a refusal leaves everything but the
  -- association
  abbrev pub Inits : Bool → (now max : ℕ) → Option InitHalves → SctpStreams S → Result (Unit {0}) SctpError → SctpStreams S → Type 0
  Inits client now max snap p (Ok x) q =
      (m.started p.association ≡ false)
      × AsksInit snap client p.association now max did.Done q.association
      × (q ≡ record p {
        association = q.association;
        client = client;
        remote_max = max;
        state = begun_state snap client;
        snap = begun_halves snap p.snap;
        rests = false;
      })
  Inits client now max snap p (Err (sctp.Proto proto.Started)) q = (m.started p.association ≡ true) × (q ≡ p)
  Inits client now max snap p (Err (sctp.Proto proto.SnapHalf)) q =
      (m.started p.association ≡ false) × (are_whole snap ≡ false) × (q ≡ p)
  Inits client now max snap p (Err (sctp.Proto proto.Fault)) q =
      (m.started p.association ≡ false)
      × AsksInit snap client p.association now max did.Refused q.association
      × (q ≡ record p { association = q.association; rests = false })
  Inits client now max snap p (Err sctp.Alloc) q =
      (m.started p.association ≡ false)
      × AsksInit snap client p.association now max did.OutOfMemory q.association
      × (q ≡ record p { association = q.association; rests = false })
  Inits client now max snap p (Err e) q = ⊥

  -- whether there is nothing to shut down: the association is not started, closing or closed
  abbrev pub is_ended : S → Bool
  is_ended p = not (m.started p) || (m.closing p || m.closed p)

  -- the association is shut down, if it is not yet
  abbrev pub ShutBy : Bool → SctpStreams S → Result (Unit {0}) SctpError → SctpStreams S → Type 0
  ShutBy true p r q = (r ≡ Ok tt) × (q ≡ p)
  ShutBy false p (Ok x) q =
      AsksShutdown m p.association did.Done q.association × (q ≡ record p { association = q.association; rests = false })
  ShutBy false p (Err (sctp.Proto proto.Fault)) q =
      AsksShutdown m p.association did.Refused q.association × (q ≡ record p { association = q.association; rests = false })
  ShutBy false p (Err sctp.Alloc) q =
      AsksShutdown m p.association did.OutOfMemory q.association × (q ≡ record p { association = q.association; rests = false })
  ShutBy false p (Err e) q = ⊥

  abbrev pub Shuts : SctpStreams S → Result (Unit {0}) SctpError → SctpStreams S → Type 0
  Shuts p r q = ShutBy (is_ended p.association) p r q

  -- a stream takes messages: it is open, and the association neither closing nor closed
  abbrev pub can_write : ℕ → SctpStreams S → Bool
  can_write id p = is_open_stream id p && not (is_ended p.association)

  -- whether a stream has the generation that its entry keeps, if it keeps one
  abbrev pub is_current : ℕ → SctpStreams S → Bool
  is_current id p = fits_generation (stream_generation id p.entries) (m.generation p.association id)

  -- a message is written, to the generation of the channel alone: not to a later one of the stream
  abbrev pub WrittenIf : (can current : Bool) → (id : ℕ) → Bool → List ℕ → SctpStreams S → Result ℕ SctpError → SctpStreams S → Type 0
  WrittenIf false current id binary bytes p r q = (r ≡ Err sctp.WriteBeforeEstablished) × (q ≡ p)
  WrittenIf true false id binary bytes p r q = (r ≡ Err (sctp.Proto (proto.NoStream id))) × (q ≡ p)
  WrittenIf true true id binary bytes p r q =
      (answer : Result ℕ AssocError)
      × m.wrote p.association id (written_ppi binary (is_nil bytes)) bytes answer q.association
      × (r ≡ write_answer id (length bytes) p.remote_max answer)
      × (q ≡ record p { association = q.association; rests = false })

  abbrev pub WritesStream : (id : ℕ) → Bool → List ℕ → SctpStreams S → Result ℕ SctpError → SctpStreams S → Type 0
  WritesStream id binary bytes p r q = WrittenIf (can_write id p) (is_current id p) id binary bytes p r q

  -- how many bytes of the streams in use are not acknowledged
  abbrev pub buffered_sum : S → List StreamEntry → ℕ
  buffered_sum p [] = 0
  buffered_sum p (own ∷ entries) = m.buffered p own.id + buffered_sum p entries

  -- a packet of the other end is received; before a start it changes nothing
  abbrev pub InputIf : Bool → ℕ → List ℕ → SctpStreams S → Result (Unit {0}) AllocError → SctpStreams S → Type 0
  InputIf false now bytes p r q = (r ≡ Ok tt) × (q ≡ p)
  InputIf true now bytes p r q =
      m.given p.association now bytes r q.association
      × (q ≡ record p { association = q.association; state = state_on_input p.state; rests = false })

  abbrev pub TakesInput : ℕ → List ℕ → SctpStreams S → Result (Unit {0}) AllocError → SctpStreams S → Type 0
  TakesInput now bytes p r q = InputIf (m.started p.association) now bytes p r q

  -- a moment is given: if the association has had a packet or was to send one, it is given the moment
  abbrev pub TimedBy : RtcSctpState → ℕ → SctpStreams S → Signals → Result (Unit {0}) AllocError → SctpStreams S → Signals → Type 0
  TimedBy Uninited now p wake r q wake' =
      (r ≡ Ok tt) × (q ≡ p) × (wake' ≡ record { events = false; timeout = false })
  TimedBy AwaitRemoteAssociation now p wake r q wake' =
      (r ≡ Ok tt) × (q ≡ timed_streams now p) × (wake' ≡ record wake { events = false })
  TimedBy AwaitAssociationEstablished now p wake r q wake' =
      m.timed p.association now r q.association
      × (q ≡ record (timed_streams now p) { association = q.association }) × (wake' ≡ wake)
  TimedBy Established now p wake r q wake' =
      m.timed p.association now r q.association
      × (q ≡ record (timed_streams now p) { association = q.association }) × (wake' ≡ wake)

  abbrev pub TakesTimeout : ℕ → SctpStreams S → Signals → Result (Unit {0}) AllocError → SctpStreams S → Signals → Type 0
  TakesTimeout now p wake r q wake' = TimedBy p.state now p wake r q wake'

  -- when the association wants a moment, if its wake is read
  abbrev pub attached_wake : Bool → S → Option ℕ
  attached_wake true p = m.wake p
  attached_wake false p = None

  abbrev pub streams_wake : SctpStreams S → Option ℕ
  streams_wake p = earlier_of (attached_wake (is_attached p.state) p.association) (retry_wake p.entries p.last)
