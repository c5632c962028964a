-- Channels over the streams of an association: they are given streams, and the streams of those that are confirmed are opened.
use Rattle.std.specs.Prelude.{
  ◌≡◌,
  ◌&&◌,
  ◌||◌,
  ℕ,
  Bool,
  true,
  false,
  List,
  [],
  ◌∷◌,
  if◌then◌else◌,
  Option,
  Some,
  None,
  is_some,
  Result,
  Ok,
  Err,
}
use Rattle.std.specs.List.{list_any}
use Rattle.std.specs.declared.alloc.AllocError.{AllocError}
use Rattle.rtc_wire.specs.declared.channel_config.ChannelConfig.{ChannelConfig}
use Rattle.rtc_parts.specs.AssociationMeaning.{AssociationMeaning}
use Rattle.rtc_ready.specs.Signals.{Signals, neither}
use Rattle.rtc_sctp.specs.Streams.{SctpStreams}
use Rattle.rtc_sctp.specs.StreamCalls.{OpensStream, ClosesDataStream}
use Rattle.rtc_channels.specs.Ids.{parity_of}
use Rattle.rtc_channels.specs.Channels.{Channel, Channels, has_channel_id}
use Rattle.rtc_channels.specs.Allocation.{Allocates, can_allocate}

-- whether a channel has a stream and is confirmed, so that its stream can be opened
abbrev pub can_be_opened : Channel → Bool
can_be_opened channel = is_some channel.stream && is_some channel.config

abbrev pub can_open : List Channel → Bool
can_open channels = list_any can_be_opened channels

-- whether a channel can be given a stream or opened
abbrev pub can_progress : Bool → Channels → Bool
can_progress client held = can_open held.rows || can_allocate (parity_of client) held

-- the channels once the config of that of a number was passed on
abbrev pub rows_opened : ℕ → List Channel → List Channel
rows_opened id [] = []
rows_opened id (channel ∷ rest) =
    if has_channel_id id channel then record channel { config = None } ∷ rest else channel ∷ rows_opened id rest

abbrev pub config_handed : ℕ → Channels → Channels
config_handed id held = record held { rows = rows_opened id held.rows }

-- what follows a call, or what is left if it ran out of memory
abbrev pub Following : Result (Unit {0}) AllocError → Type 0 → Type 0 → Type 0
Following (Ok done) next stopped = next
Following (Err error) next stopped = stopped

-- whether streams are opened, by how channels were given theirs: not if memory ran out
abbrev pub opens_streams : Result (Unit {0}) AllocError → Channels → Bool
opens_streams (Ok done) given = can_open given.rows
opens_streams (Err error) given = false

-- the events mark is kept only if streams are opened
abbrev pub opening_wake : Bool → Signals → Signals
opening_wake true wake = wake
opening_wake false wake = record wake { events = false }

module _ {S : Type 0} (m : AssociationMeaning S) where
  -- the stream of a channel is opened with its config, if it has both; the config is passed on, also if memory runs out
  abbrev pub OpensChannel : Option ℕ → Option ChannelConfig → ℕ → Channels → SctpStreams S
      → Result (Unit {0}) AllocError → Channels → SctpStreams S → Type 0
  OpensChannel (Some stream) (Some config) id held p r held' p' = OpensStream m stream config p r p' × (held' ≡ config_handed id held)
  OpensChannel (Some stream) None id held p r held' p' = (r ≡ Ok tt) × (held' ≡ held) × (p' ≡ p)
  OpensChannel None config id held p r held' p' = (r ≡ Ok tt) × (held' ≡ held) × (p' ≡ p)

  -- each of these channels in turn
  abbrev pub OpensAll : List Channel → Channels → SctpStreams S → Result (Unit {0}) AllocError → Channels → SctpStreams S → Type 0
  OpensAll [] held p r held' p' = (r ≡ Ok tt) × (held' ≡ held) × (p' ≡ p)
  OpensAll (channel ∷ rest) held p r held' p' =
      (did : Result (Unit {0}) AllocError)
      × (between : Channels)
      × (q : SctpStreams S)
      × OpensChannel channel.stream channel.config channel.id held p did between q
      × Following did (OpensAll rest between q r held' p') ((r ≡ did) × (held' ≡ between) × (p' ≡ q))

  -- whether there is something to do: the association was started, and a channel can be given a stream or opened
  abbrev pub is_progress_due : Channels → SctpStreams S → Bool
  is_progress_due held p = m.started p.association && can_progress p.client held

  -- streams are given to channels, and then those that are confirmed are opened
  abbrev pub Progresses : Channels → SctpStreams S → Result (Unit {0}) AllocError → Channels → SctpStreams S → Type 0
  Progresses held p r held' p' =
      (did : Result (Unit {0}) AllocError)
      × (between : Channels)
      × Allocates (parity_of p.client) held did between
      × Following did (OpensAll between.rows between p r held' p') ((r ≡ did) × (held' ≡ between) × (p' ≡ p))

  -- a moment is given: if nothing is due, nothing changes, no walk meets more than before, and no timer moved; if no stream is opened,
  -- no walk meets more than before
  abbrev pub MeetsMoment : Bool → Channels → SctpStreams S → Signals
      → Result (Unit {0}) AllocError → Channels → SctpStreams S → Signals → Type 0
  MeetsMoment false held p wake r held' p' wake' = (r ≡ Ok tt) × (held' ≡ held) × (p' ≡ p) × (wake' ≡ neither)
  MeetsMoment true held p wake r held' p' wake' =
      (did : Progresses held p r held' p') × (wake' ≡ opening_wake (opens_streams did.0 did.1) wake)

  -- when a moment is wanted: at once if something is due
  abbrev pub channels_wake : Channels → SctpStreams S → Option ℕ
  channels_wake held p = if is_progress_due held p then Some 0 else None

  -- a channel is closed: its stream is, if it has one
  abbrev pub ClosesChannel : Option ℕ → SctpStreams S → Result (Unit {0}) AllocError → SctpStreams S → Type 0
  ClosesChannel None p r p' = (r ≡ Ok tt) × (p' ≡ p)
  ClosesChannel (Some stream) p r p' = ClosesDataStream m stream p r p'

  -- the channel at a place, if there is one, is opened
  abbrev pub OpensChannelAt : Option Channel → Channels → SctpStreams S → Result (Unit {0}) AllocError → Channels → SctpStreams S → Type 0
  OpensChannelAt None held p r held' p' = (r ≡ Ok tt) × (held' ≡ held) × (p' ≡ p)
  OpensChannelAt (Some channel) held p r held' p' = OpensChannel channel.stream channel.config channel.id held p r held' p'
