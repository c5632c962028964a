-- How calls and polls change the channels of a peer and the entries of their streams, one change after the other.
use Rattle.std.specs.Prelude.{ℕ, zero, suc, ◌≡◌, ◌⊎◌, Bool, true, false, List, [], Option, Some, None, Result, Ok, Err}
use Rattle.std.specs.declared.alloc.AllocError.{AllocError}
use Rattle.rtc_ready.specs.Signals.{Signals}
use Rattle.rtc_wire.specs.declared.channel_config.ChannelConfig.{ChannelConfig}
use Rattle.rtc_parts.specs.AssociationActs.{AssociationAct, Moved}
use Rattle.rtc_parts.specs.AssociationMeaning.{AssociationMeaning}
use Rattle.rtc_parts.specs.AssociationWords.{given, told}
use Rattle.rtc_sctp.specs.declared.rtc_sctp_state.RtcSctpState.{RtcSctpState}
use Rattle.rtc_sctp.specs.declared.rtc_sctp_state.RtcSctpState.TheVariants.{Uninited}
use Rattle.rtc_sctp_entries.specs.declared.sctp_event.SctpEvent.{SctpEvent}
use Rattle.rtc_sctp_entries.specs.declared.sctp_event.SctpEvent.TheVariants as event
use Rattle.rtc_sctp.specs.Streams.{SctpStreams, is_established}
use Rattle.rtc_sctp.specs.Calls.{TakesTimeout}
use Rattle.rtc_sctp.specs.StreamCalls.{ClosesDataStream, SetsThreshold}
use Rattle.rtc_sctp.specs.Polls.{PollsStreams}
use Rattle.rtc_sctp_laws.specs.GenerationLaws.{OpenAndReadNone}
use Rattle.rtc_channels.specs.Allocation.{channel_ensured}
use Rattle.rtc_channels.specs.Channels.{Channels, all_confirmed, with_channel}
use Rattle.rtc_channels.specs.Holds.{removed_channel}
use Rattle.rtc_channels.specs.Openings.{MeetsMoment}
use Rattle.rtc_peer_polling.specs.StreamStages.{channel_over}

-- rows are unchanged, and no number is given
abbrev pub SameRows : Channels → Channels → Type 0
SameRows held held' = (held'.rows ≡ held.rows) × (held'.given ≡ held.given)

-- the row of a channel is removed whose stream was closed; a stream without a channel is passed over
abbrev pub ClosesRow : Option ℕ → (pending : Bool) → Channels → Channels → Type 0
ClosesRow (Some id) pending held held' = held' ≡ removed_channel id pending held
ClosesRow None pending held held' = SameRows held held'

-- what becomes of channels by an event of their streams, and by the result of a poll that had memory
abbrev pub RowsTold : SctpEvent → Channels → Channels → Type 0
RowsTold (event.Open stream label) held held' = held' ≡ channel_ensured stream held
RowsTold (event.Close stream pending) held held' = ClosesRow (channel_over stream held) pending held held'
RowsTold e held held' = SameRows held held'

abbrev pub RowsAnswered : Result (Option SctpEvent) AllocError → Channels → Channels → Type 0
RowsAnswered (Ok (Some e)) held held' = RowsTold e held held'
RowsAnswered (Ok None) held held' = SameRows held held'
RowsAnswered (Err error) held held' = ⊥

-- the progress of the start of an association, and whether this side is its client
abbrev pub begun_as : {S : Type 0} → SctpStreams S → RtcSctpState × Bool
begun_as p = (p.state, p.client)

-- an association that was begun, as client or as server, stays so
abbrev pub KeepsBegun : {S : Type 0} → SctpStreams S → SctpStreams S → Type 0
KeepsBegun a b = b.state ≡ Uninited → a.state ≡ Uninited

module _ {S : Type 0} (m : AssociationMeaning S) where
  -- one that is established was so before, or it is started by this
  abbrev pub StartsEstablished : SctpStreams S → SctpStreams S → Type 0
  StartsEstablished a b =
      is_established b.state ≡ true
      → (is_established a.state ≡ true) ⊎ ((m.started a.association ≡ false) × (m.started b.association ≡ true))

  -- acts that give no packet lead from one to the other
  pub record MovedUngiven (a b : S) : Type 0 where
    pub acts : List AssociationAct
    pub went : Moved m a acts b
    pub none : given acts ≡ []

  -- one that is not started is started, or is given no packet
  abbrev pub StartsUngiven : SctpStreams S → SctpStreams S → Type 0
  StartsUngiven a b =
      m.started a.association ≡ false → (m.started b.association ≡ true) ⊎ MovedUngiven a.association b.association

  -- one that is started keeps its side
  abbrev pub KeepsSide : SctpStreams S → SctpStreams S → Type 0
  KeepsSide a b = m.started a.association ≡ true → b.client ≡ a.client

  -- acts were done to the association that open and read no stream, and by which no event was reported; the entries are unchanged
  pub record OnlyActs (a b : SctpStreams S) : Type 0 where
    pub acts : List AssociationAct
    pub went : Moved m a.association acts b.association
    pub untold : told acts ≡ []
    pub aside : OpenAndReadNone acts
    pub entries : b.entries ≡ a.entries
    pub begun : KeepsBegun a b
    pub lasts : StartsEstablished a b
    pub side : KeepsSide a b
    pub ungiven : StartsUngiven a b

  -- One change of channels and of the entries of their streams: none; a poll of the streams, with what becomes of their channels; a moment
  -- that the streams take, and one that the channels take after them; a threshold that is set; a stream that is closed from here; channels
  -- that are confirmed, and one that is added.
  pub data RowsChange (held : Channels) (a : SctpStreams S) (held' : Channels) (b : SctpStreams S) : Type 0 where
    Stayed : SameRows held held' → OnlyActs a b → RowsChange held a held' b
    Polled : (answer : Result (Option SctpEvent) AllocError) (streams : SctpStreams S) → PollsStreams m a answer streams
        → RowsAnswered answer held held' → b.association ≡ streams.association → b.entries ≡ streams.entries → b.state ≡ streams.state
        → b.client ≡ streams.client
        → RowsChange held a held' b
    Timed : (now : ℕ) (wake wake' : Signals) (r : Result (Unit {0}) AllocError) → TakesTimeout m now a wake r b wake' → held' ≡ held
        → RowsChange held a held' b
    Progressed : (now : ℕ) (wake wake' : Signals) (between : SctpStreams S) → TakesTimeout m now a wake (Ok tt) between wake' → (due : Bool)
        → (due ≡ true → m.started between.association ≡ true) → (signals signals' : Signals)
        → MeetsMoment m due held between signals (Ok tt) held' b signals' → RowsChange held a held' b
    ThresholdSet : (n : ℕ) (place : Option ℕ) → SetsThreshold S n place a b → held' ≡ held → RowsChange held a held' b
    StreamClosed : (stream : ℕ) (r : Result (Unit {0}) AllocError) → ClosesDataStream m stream a r b → held' ≡ held
        → RowsChange held a held' b
    Confirmed : (channels : List (ℕ × ChannelConfig)) → held' ≡ all_confirmed channels held → OnlyActs a b → RowsChange held a held' b
    Made : (config : ChannelConfig) → held' ≡ with_channel held config → OnlyActs a b → RowsChange held a held' b

  -- so many changes, one after the other
  abbrev pub ChangeRows : ℕ → Channels → SctpStreams S → Channels → SctpStreams S → Type 0
  ChangeRows zero held a held' b = (held' ≡ held) × (b ≡ a)
  ChangeRows (suc n) held a held' b =
      (between : Channels) × ((c : SctpStreams S) × (ChangeRows n held a between c × RowsChange between c held' b))

  pub record RowsChanged (held : Channels) (a : SctpStreams S) (held' : Channels) (b : SctpStreams S) : Type 0 where
    pub changes : ℕ
    pub changed : ChangeRows changes held a held' b

  -- a change confirms no channel, and adds none
  abbrev pub ConfirmsNone : (held : Channels) (a : SctpStreams S) (held' : Channels) (b : SctpStreams S)
      → RowsChange held a held' b → Type 0
  ConfirmsNone held a held' b (Confirmed channels is h) = ⊥
  ConfirmsNone held a held' b (Made config is h) = ⊥
  ConfirmsNone held a held' b change = Unit {0}

  -- so many such changes, one after the other
  abbrev pub PollRows : ℕ → Channels → SctpStreams S → Channels → SctpStreams S → Type 0
  PollRows zero held a held' b = (held' ≡ held) × (b ≡ a)
  PollRows (suc n) held a held' b =
      (between : Channels)
      × (c : SctpStreams S)
      × PollRows n held a between c
      × (change : RowsChange between c held' b)
      × ConfirmsNone between c held' b change

  -- the changes by a poll
  pub record RowsPolled (held : Channels) (a : SctpStreams S) (held' : Channels) (b : SctpStreams S) : Type 0 where
    pub changes : ℕ
    pub changed : PollRows changes held a held' b
