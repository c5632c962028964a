-- Calls on streams in turn, with what their polls return, and the order of a Close and the completed resets.
use Rattle.std.specs.Prelude.{ℕ, ◌≡◌, ◌++◌, ◌==◌, ◌&&◌, ◌||◌, Bool, true, false, List, [], ◌∷◌, Option, Some, None, Result, Ok, Err}
use Rattle.std.specs.List.{list_any}
use Rattle.std.specs.declared.alloc.AllocError.{AllocError}
use Rattle.rtc_ready.specs.Signals.{Signals}
use Rattle.rtc_wire.specs.declared.channel_config.ChannelConfig.{ChannelConfig}
use Rattle.rtc_parts.specs.AssociationMeaning.{AssociationMeaning}
use Rattle.rtc_sctp_entries.specs.declared.stream_entry_state.StreamEntryState.{StreamEntryState}
use Rattle.rtc_sctp_entries.specs.declared.stream_entry_state.StreamEntryState.TheVariants.{AwaitOpen, AwaitConfig}
use Rattle.rtc_sctp_entries.specs.declared.stream_entry_state.StreamEntryState.TheVariants.{AwaitDcepAck, Open, Closed}
use Rattle.rtc_sctp_entries.specs.declared.stream_entry.StreamEntry.{StreamEntry}
use Rattle.rtc_sctp_entries.specs.declared.sctp_event.SctpEvent.{SctpEvent}
use Rattle.rtc_sctp_entries.specs.declared.sctp_event.SctpEvent.TheVariants as event
use Rattle.rtc_sctp_entries.specs.Entries.{entry_place}
use Rattle.rtc_sctp_values.specs.declared.sctp_error.SctpError.{SctpError}
use Rattle.rtc_sctp_values.specs.InitHalves.{InitHalves}
use Rattle.rtc_sctp.specs.Streams.{SctpStreams}
use Rattle.rtc_sctp.specs.Calls.{Inits, Shuts, WritesStream, TakesInput, TakesTimeout}
use Rattle.rtc_sctp.specs.StreamCalls.{OpensStream, ClosesDataStream, SetsThreshold}
use Rattle.rtc_sctp.specs.Polls.{PollsStreams}

-- the event of a poll, if there is one
abbrev pub event_of : Result (Option SctpEvent) AllocError → List SctpEvent
event_of (Ok None) = []
event_of (Ok (Some e)) = e ∷ []
event_of (Err x) = []

-- one call on streams, and the events that it returns
pub data CallsStreams {S : Type 0} (m : AssociationMeaning S) (p : SctpStreams S) (events : List SctpEvent) (q : SctpStreams S)
    : Type 0 where
  Inited : (client : Bool) (now max : ℕ) (snap : Option InitHalves) (r : Result (Unit {0}) SctpError) → Inits m client now max snap p r q
      → events ≡ [] → CallsStreams m p events q
  HalvesKept : q ≡ record p { snap = q.snap } → events ≡ [] → CallsStreams m p events q
  ShutDown : (r : Result (Unit {0}) SctpError) → Shuts m p r q → events ≡ [] → CallsStreams m p events q
  Wrote : (id : ℕ) (binary : Bool) (bytes : List ℕ) (r : Result ℕ SctpError) → WritesStream m id binary bytes p r q → events ≡ []
      → CallsStreams m p events q
  StreamOpened : (id : ℕ) (config : ChannelConfig) (r : Result (Unit {0}) AllocError) → OpensStream m id config p r q → events ≡ []
      → CallsStreams m p events q
  StreamClosed : (id : ℕ) (r : Result (Unit {0}) AllocError) → ClosesDataStream m id p r q → events ≡ []
      → CallsStreams m p events q
  ThresholdSet : (id n : ℕ) → SetsThreshold S n (entry_place id p.entries) p q → events ≡ [] → CallsStreams m p events q
  LimitSet : (n : ℕ) → q ≡ record p { max_buffered = n } → events ≡ [] → CallsStreams m p events q
  InputTaken : (now : ℕ) (bytes : List ℕ) (r : Result (Unit {0}) AllocError) → TakesInput m now bytes p r q → events ≡ []
      → CallsStreams m p events q
  TimeoutTaken : (now : ℕ) (wake wake' : Signals) (r : Result (Unit {0}) AllocError) → TakesTimeout m now p wake r q wake'
      → events ≡ [] → CallsStreams m p events q
  PushedBack : (packets : List (List ℕ)) → q ≡ record p { pushed = Some packets } → events ≡ [] → CallsStreams m p events q
  Polled : (r : Result (Option SctpEvent) AllocError) → PollsStreams m p r q → events ≡ event_of r → CallsStreams m p events q

-- calls in turn, by what each returns
abbrev pub CallsInTurn : {S : Type 0} → AssociationMeaning S → List (List SctpEvent) → SctpStreams S → SctpStreams S → Type 0
CallsInTurn m [] p q = q ≡ p
CallsInTurn {S} m (events ∷ more) p q = (r : SctpStreams S) × CallsStreams m p events r × CallsInTurn m more r q

-- what calls return, in order
abbrev pub all_events : List (List SctpEvent) → List SctpEvent
all_events [] = []
all_events (events ∷ more) = events ++ all_events more

-- whether an entry is past its opening and not closed yet
abbrev pub is_past_opening : StreamEntryState → Bool
is_past_opening AwaitOpen = false
is_past_opening AwaitConfig = true
is_past_opening AwaitDcepAck = true
is_past_opening Open = true
is_past_opening Closed = false

-- an entry of a stream is to be closed: it is marked, and past its opening
abbrev pub is_closing_entry : ℕ → StreamEntry → Bool
is_closing_entry id entry = (entry.id == id) && (entry.marked && is_past_opening entry.state)

abbrev pub has_closing_entry : ℕ → List StreamEntry → Bool
has_closing_entry id entries = list_any (is_closing_entry id) entries

-- of these events the Close of a stream is before any completed reset
abbrev pub closes_first : ℕ → List SctpEvent → Bool
closes_first id [] = true
closes_first id (event.Close other pending ∷ events) = (other == id) || closes_first id events
closes_first id (event.StreamResetComplete other ∷ events) = false
closes_first id (_ ∷ events) = closes_first id events
