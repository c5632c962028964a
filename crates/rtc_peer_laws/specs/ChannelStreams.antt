-- What polls leave of the streams of channels: of what was written and read of them, and of those whose entry is open in a generation.
use Rattle.std.specs.Prelude.{ℕ, ◌≡◌, ◌<◌, ◌≤◌, ◌-◌, ◌^◌, ◌⊎◌, ◌++◌, Bool, true, List, [], ◌∷◌, map, Option, Some, Result, Ok, Err}
use Rattle.rtc_parts.specs.AssociationLaws.{AssociationLaws}
use Rattle.rtc_sctp_laws.specs.StreamMessages.{StreamMessage}
use Rattle.rtc_sctp_laws.specs.GenerationLaws.{GenerationLaws}
use Rattle.rtc_sctp_laws.specs.StreamUses.{HasOpenInBand, IsLive, IsShutDown, WereOpened, are_of_generation, entries_of, messages_of}
use Rattle.rtc_sctp_laws.specs.MuteGenerations.{IsMute, StaysMute}
use Rattle.rtc_sctp_laws.specs.UsedCalls.{IsUsedOver}
use Rattle.rtc_sctp_laws.specs.Contents.{contents_of}
use Rattle.rtc_sctp_laws.specs.RunningStreams.{AreRunning}
use Rattle.rtc_channels.specs.Allocation.{AreUnshared}
use Rattle.rtc_channels.specs.Channels.{AreBelow, AreRising, Channel, Channels, numbered_stream}
use Rattle.rtc_peer_core.specs.declared.rtc_error.RtcError.{RtcError}
use Rattle.rtc_peer_core.specs.declared.rtc_error.RtcError.TheVariants.{Alloc}
use Rattle.rtc_peer_core.specs.Meanings.{Meanings}
use Rattle.rtc_peer_transport.specs.declared.channel_data.ChannelData.{ChannelData as ChannelMessage}
use Rattle.rtc_peer_transport.specs.declared.event.Event.{Event}
use Rattle.rtc_peer_transport.specs.declared.event.Event.TheVariants.{ChannelOpen, ChannelData, ChannelClose}
use Rattle.rtc_peer_transport.specs.declared.output.Output.{Output}
use Rattle.rtc_peer_transport.specs.declared.output.Output.TheVariants as outputs
use Rattle.rtc_peer_transport.specs.declared.polled_peer.PolledPeer.{PolledPeer}
use Rattle.rtc_peer_polling.specs.StreamStages.{channel_over}
use Rattle.rtc_peer_laws.specs.RowsChanged.{RowsPolled}

-- the numbers of channels rise, each was given, and no two channels have one stream
abbrev pub AreNumberedChannels : Channels → Type 0
AreNumberedChannels held = AreRising 0 held.rows × AreBelow held.given held.rows × AreUnshared (map numbered_stream held.rows)

-- no row is of a channel
abbrev pub HasNoRow : (channel : ℕ) → List Channel → Type 0
HasNoRow c [] = Unit {0}
HasNoRow c (row ∷ rows) = (row.id ≡ c → ⊥) × HasNoRow c rows

-- a channel that was given its number has no row any more
abbrev pub IsGone : (channel : ℕ) → Channels → Type 0
IsGone c held = (c < held.given) × HasNoRow c held.rows

-- a channel is live on a stream in a generation: it has the stream, and the one entry of this is open and keeps the generation
abbrev pub IsLiveChannel : {I D S M N : Type 0} → (channel stream generation : ℕ) → PolledPeer I D S M N → Type 0
IsLiveChannel c s g p = (channel_over s p.core.channels ≡ Some c) × IsLive s g p.core.sctp.entries

-- an event leaves it live, unless it reports that the channel is closed: then this has no row, and the stream no entry but a closed one
abbrev pub LeavesLiveBy : {I D S M E N : Type 0} → Event E → (channel stream generation : ℕ) → PolledPeer I D S M N → Type 0
LeavesLiveBy (ChannelClose id) c s g q =
    IsLiveChannel c s g q ⊎ ((id ≡ c) × IsShutDown s q.core.sctp.entries × HasNoRow c q.core.channels.rows)
LeavesLiveBy event c s g q = IsLiveChannel c s g q

-- of a poll that found no memory nothing is said
abbrev pub LeavesLiveChannel : {I D S M E N : Type 0} → Result (Output E) RtcError → (channel stream generation : ℕ) → PolledPeer I D S M N
    → Type 0
LeavesLiveChannel (Ok (outputs.Event event)) c s g q = LeavesLiveBy event c s g q
LeavesLiveChannel (Ok (outputs.Transmit transmit)) c s g q = IsLiveChannel c s g q
LeavesLiveChannel (Ok (outputs.Timeout moment)) c s g q = IsLiveChannel c s g q
LeavesLiveChannel (Err Alloc) c s g q = Unit {0}
LeavesLiveChannel (Err error) c s g q = IsLiveChannel c s g q

abbrev pub UnlessLacking : {E : Type 0} → Result (Output E) RtcError → Type 0 → Type 0
UnlessLacking (Ok output) left = left
UnlessLacking (Err Alloc) left = Unit {0}
UnlessLacking (Err error) left = left

-- a result announces the channel over a stream
abbrev pub AnnouncesOver : {I D S M E N : Type 0} → Result (Output E) RtcError → (stream : ℕ) → PolledPeer I D S M N → Type 0
AnnouncesOver (Ok (outputs.Event (ChannelOpen id label))) s q = channel_over s q.core.channels ≡ Some id
AnnouncesOver answer s q = ⊥

-- no number is left for a channel
abbrev pub AreNumbersGiven : Channels → Type 0
AreNumbersGiven held = 2 ^ 64 - 1 ≤ held.given

-- A stream that a poll left open in-band was so before; or the channel over it is announced, unless no number was left for one.
pub data WasOpenInBand {I D S M E N : Type 0} (s : ℕ) (own : Option ℕ) (p : PolledPeer I D S M N) (answer : Result (Output E) RtcError)
    (q : PolledPeer I D S M N) : Type 0 where
  Already : HasOpenInBand s own p.core.sctp.entries → WasOpenInBand s own p answer q
  Announced : AnnouncesOver answer s q → WasOpenInBand s own p answer q
  NoNumber : AreNumbersGiven q.core.channels → WasOpenInBand s own p answer q

module _ {I D S M E X T W N : Type 0} (m : Meanings I D S M E X T W N) where
  -- a stream of the association is used so
  abbrev pub IsUsedStream : (stream : ℕ) → (written heard : List StreamMessage) → PolledPeer I D S M N → Type 0
  IsUsedStream s written heard p = IsUsedOver m.association s written heard p.core.sctp

  -- polls write nothing to a stream of the association in this generation
  abbrev pub IsMuteStream : (stream generation : ℕ) → PolledPeer I D S M N → Type 0
  IsMuteStream s g p = IsMute m.association s g p.core.sctp.association p.core.sctp.entries

  abbrev pub StaysMuteStream : (stream generation : ℕ) → (wrote : List StreamMessage) → PolledPeer I D S M N → Type 0
  StaysMuteStream s g wrote q = StaysMute m.association s g wrote q.core.sctp.association q.core.sctp.entries

  -- the stream of a channel that is reported as open was not live before, and was opened, by all that was written and read of it; the
  -- association runs
  pub record OpensStreamOf (id : ℕ) (p : PolledPeer I D S M N) (wrote heard : List StreamMessage) (q : PolledPeer I D S M N) : Type 0 where
    pub stream : ℕ
    pub over : channel_over stream q.core.channels ≡ Some id
    pub running : AreRunning m.association q.core.sctp
    pub anew : (c g : ℕ) → AreRising 0 p.core.channels.rows → IsLiveChannel c stream g p → ⊥
    pub opened : AssociationLaws m.association → GenerationLaws m.association → (written read : List StreamMessage)
        → IsUsedStream stream written read p
        → WereOpened (entries_of stream q.core.sctp.entries) (m.association.generation q.core.sctp.association stream)
        (messages_of stream (m.association.generation q.core.sctp.association stream) (written ++ wrote))
        (messages_of stream (m.association.generation q.core.sctp.association stream) (read ++ heard))

  abbrev pub OpensBy : Event E → PolledPeer I D S M N → (wrote heard : List StreamMessage) → PolledPeer I D S M N → Type 0
  OpensBy (ChannelOpen id label) p wrote heard q = OpensStreamOf id p wrote heard q
  OpensBy event p wrote heard q = Unit {0}

  abbrev pub OpensByAnswer : Result (Output E) RtcError → PolledPeer I D S M N → (wrote heard : List StreamMessage) → PolledPeer I D S M N
      → Type 0
  OpensByAnswer (Ok (outputs.Event event)) p wrote heard q = OpensBy event p wrote heard q
  OpensByAnswer (Ok (outputs.Transmit transmit)) p wrote heard q = Unit {0}
  OpensByAnswer (Ok (outputs.Timeout moment)) p wrote heard q = Unit {0}
  OpensByAnswer (Err error) p wrote heard q = Unit {0}

  -- The message that is reported of a channel is the last that was read of the stream of the channel, in the generation that the stream
  -- has.
  pub record TellsMessage (message : ChannelMessage) (heard : List StreamMessage) (q : PolledPeer I D S M N) : Type 0 where
    pub stream : ℕ
    pub over : channel_over stream q.core.channels ≡ Some message.id
    pub before : List (Bool × List ℕ)
    pub read_is : contents_of (messages_of stream (m.association.generation q.core.sctp.association stream) heard)
        ≡ before ++ (message.binary, message.bytes) ∷ []

  abbrev pub TellsBy : Event E → (heard : List StreamMessage) → PolledPeer I D S M N → Type 0
  TellsBy (ChannelData message) heard q = TellsMessage message heard q
  TellsBy event heard q = Unit {0}

  abbrev pub TellsByAnswer : Result (Output E) RtcError → (heard : List StreamMessage) → PolledPeer I D S M N → Type 0
  TellsByAnswer (Ok (outputs.Event event)) heard q = TellsBy event heard q
  TellsByAnswer (Ok (outputs.Transmit transmit)) heard q = Unit {0}
  TellsByAnswer (Ok (outputs.Timeout moment)) heard q = Unit {0}
  TellsByAnswer (Err error) heard q = Unit {0}

  -- What a poll leaves of streams and live channels by what it wrote and read, and of channels that are gone; which message it reports; and
  -- that an association that runs does so still. What it left open in-band was open before, or is announced. The changes of channels and of
  -- the entries of streams are listed one by one, and none confirms or adds a channel. To a stream that was open it wrote nothing in the
  -- generation that this had.
  pub record StreamsWent (p : PolledPeer I D S M N) (answer : Result (Output E) RtcError) (wrote heard : List StreamMessage)
      (q : PolledPeer I D S M N) : Type 0 where
    pub uses : AssociationLaws m.association → GenerationLaws m.association → (s : ℕ) (written read : List StreamMessage)
        → IsUsedStream s written read p → UnlessLacking answer (IsUsedStream s (written ++ wrote) (read ++ heard) q)
    pub lives : (c s g : ℕ) → AreRising 0 p.core.channels.rows → IsLiveChannel c s g p → LeavesLiveChannel answer c s g q
    pub live_heard : (c s g : ℕ) → AreRising 0 p.core.channels.rows → IsLiveChannel c s g p → are_of_generation s g heard ≡ true
    pub gone : (c : ℕ) → IsGone c p.core.channels → IsGone c q.core.channels
    pub apart : AreUnshared (map numbered_stream p.core.channels.rows) → AreUnshared (map numbered_stream q.core.channels.rows)
    pub opens : OpensByAnswer answer p wrote heard q
    pub tells : GenerationLaws m.association → TellsByAnswer answer heard q
    pub running : AssociationLaws m.association → AreRunning m.association p.core.sctp → AreRunning m.association q.core.sctp
    pub given : p.core.channels.given ≤ q.core.channels.given
    pub fresh : UnlessLacking answer ((s : ℕ) (own : Option ℕ) → HasOpenInBand s own q.core.sctp.entries → WasOpenInBand s own p answer q)
    pub changed : UnlessLacking answer (RowsPolled m.association p.core.channels p.core.sctp q.core.channels q.core.sctp)
    pub mute : AssociationLaws m.association → GenerationLaws m.association → (s g : ℕ) → IsMuteStream s g p → StaysMuteStream s g wrote q
