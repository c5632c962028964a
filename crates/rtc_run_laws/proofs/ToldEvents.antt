-- The poll of the streams that a poll ends with which announces a channel, or tells a message of one.
use Rattle.std.proofs.Common.{◌≡◌, ◌∙◌, ℕ, Bool, List, Option, Some, None, Ok, refl, sym, ap}
use Rattle.rtc_sctp_entries.specs.declared.sctp_event.SctpEvent.{SctpEvent}
use Rattle.rtc_sctp_entries.specs.declared.sctp_event.SctpEvent.TheVariants as event
use Rattle.rtc_sctp.specs.Streams.{SctpStreams}
use Rattle.rtc_sctp.specs.Polls.{PollsStreams}
use Rattle.rtc_channels.specs.Allocation.{channel_ensured}
use Rattle.rtc_peer_core.specs.Meanings.{Meanings}
use Rattle.rtc_peer_transport.specs.Connection.{with_channels, with_sctp}
use Rattle.rtc_peer_transport.specs.declared.channel_data.ChannelData.{ChannelData as ChannelMessage}
use Rattle.rtc_peer_transport.specs.declared.event.Event.{Event}
use Rattle.rtc_peer_transport.specs.declared.event.Event.TheVariants.{ChannelClose, ChannelBufferedAmountLow, ChannelOpen, ChannelData}
use Rattle.rtc_peer_transport.specs.declared.met.Met.{Met}
use Rattle.rtc_peer_transport.specs.declared.met.Met.TheVariants.{Nothing, Again, Event as MetEvent}
use Rattle.rtc_peer_transport.specs.declared.polled_peer.PolledPeer.{PolledPeer}
use Rattle.rtc_peer_polling.specs.StreamStages.{ClosesChannelOver, FallsChannelOver, HearsChannelOver, LosesAssociation, OpensChannelOver, TakesStreamEvent, channel_over}

module _ {I D S M E X T W N : Type 0} (m : Meanings I D S M E X T W N) where
  no_nothing : (e : Event E) → ◌≡◌ {A = Met E} (MetEvent e) Nothing → ⊥
  no_nothing e h = cc

  no_again : (e : Event E) → ◌≡◌ {A = Met E} (MetEvent e) Again → ⊥
  no_again e h = cc

  -- a message is told
  pub record TellsData (message : ChannelMessage) (b : PolledPeer I D S M N) (streams : SctpStreams S) (q : PolledPeer I D S M N) : Type 0 where
    pub stream : ℕ
    pub binary : Bool
    pub bytes : List ℕ
    pub polled : PollsStreams m.association b.core.sctp (Ok (Some (event.Data stream binary bytes))) streams
    pub over : channel_over stream b.core.channels ≡ Some message.id
    pub left : q ≡ with_sctp streams b

  -- a channel is announced
  pub record TellsOpen (id : ℕ) (b : PolledPeer I D S M N) (streams : SctpStreams S) (q : PolledPeer I D S M N) : Type 0 where
    pub stream : ℕ
    pub label : List ℕ
    pub polled : PollsStreams m.association b.core.sctp (Ok (Some (event.Open stream label))) streams
    pub over : channel_over stream (channel_ensured stream b.core.channels) ≡ Some id
    pub left : q ≡ with_channels (channel_ensured stream b.core.channels) (with_sctp streams b)

  abbrev Opens : (stream : ℕ) → List ℕ → PolledPeer I D S M N → Met E → PolledPeer I D S M N → Type 0
  Opens stream label p r q = OpensChannelOver {I = I} {D = D} {S = S} {M = M} {E = E} {N = N} stream label p r q

  opens_data : (stream : ℕ) (label : List ℕ) (message : ChannelMessage) (p q : PolledPeer I D S M N) → Opens stream label p (MetEvent (ChannelData message)) q → ⊥
  unfolding OpensChannelOver
  opens_data stream label message p q h = h

  lost_data : (message : ChannelMessage) (p q : PolledPeer I D S M N) → LosesAssociation m p (MetEvent (ChannelData message)) q → ⊥
  unfolding LosesAssociation
  lost_data message p q h = h

  lost_open : (id : ℕ) (label : List ℕ) (p q : PolledPeer I D S M N) → LosesAssociation m p (MetEvent (ChannelOpen id label)) q → ⊥
  unfolding LosesAssociation
  lost_open id label p q h = h

  message_id : (id : ℕ) (binary : Bool) (bytes : List ℕ) (message : ChannelMessage)
      → ◌≡◌ {A = Met E} (MetEvent (ChannelData message)) (MetEvent (ChannelData (record { id = id; binary = binary; bytes = bytes }))) → message.id ≡ id
  message_id id binary bytes message h = ap id_of h
    where
      id_of : Met E → ℕ
      id_of (MetEvent (ChannelData x)) = x.id
      id_of met = 0

  close_data : (found : Option ℕ) (pending : Bool) (message : ChannelMessage) (p q : PolledPeer I D S M N)
      → ClosesChannelOver {I = I} {D = D} {S = S} {M = M} {E = E} {N = N} found pending p (MetEvent (ChannelData message)) q → ⊥
  close_data (Some id) pending message p q h = let c : ◌≡◌ {A = Met E} (MetEvent (ChannelData message)) (MetEvent (ChannelClose id)) = h.0 in cc
  close_data None pending message p q h = no_again (ChannelData message) h.0

  low_data : (found : Option ℕ) (message : ChannelMessage) (p q : PolledPeer I D S M N)
      → FallsChannelOver {I = I} {D = D} {S = S} {M = M} {E = E} {N = N} found p (MetEvent (ChannelData message)) q → ⊥
  low_data (Some id) message p q h = let c : ◌≡◌ {A = Met E} (MetEvent (ChannelData message)) (MetEvent (ChannelBufferedAmountLow id)) = h.0 in cc
  low_data None message p q h = no_again (ChannelData message) h.0

  close_open : (found : Option ℕ) (pending : Bool) (n : ℕ) (label : List ℕ) (p q : PolledPeer I D S M N)
      → ClosesChannelOver {I = I} {D = D} {S = S} {M = M} {E = E} {N = N} found pending p (MetEvent (ChannelOpen n label)) q → ⊥
  close_open (Some id) pending n label p q h = let c : ◌≡◌ {A = Met E} (MetEvent (ChannelOpen n label)) (MetEvent (ChannelClose id)) = h.0 in cc
  close_open None pending n label p q h = no_again (ChannelOpen n label) h.0

  low_open : (found : Option ℕ) (n : ℕ) (label : List ℕ) (p q : PolledPeer I D S M N)
      → FallsChannelOver {I = I} {D = D} {S = S} {M = M} {E = E} {N = N} found p (MetEvent (ChannelOpen n label)) q → ⊥
  low_open (Some id) n label p q h = let c : ◌≡◌ {A = Met E} (MetEvent (ChannelOpen n label)) (MetEvent (ChannelBufferedAmountLow id)) = h.0 in cc
  low_open None n label p q h = no_again (ChannelOpen n label) h.0

  hear_open : (found : Option ℕ) (binary : Bool) (bytes : List ℕ) (n : ℕ) (label : List ℕ) (p q : PolledPeer I D S M N)
      → HearsChannelOver {I = I} {D = D} {S = S} {M = M} {E = E} {N = N} found binary bytes p (MetEvent (ChannelOpen n label)) q → ⊥
  hear_open (Some id) binary bytes n label p q h =
      let c : ◌≡◌ {A = Met E} (MetEvent (ChannelOpen n label)) (MetEvent (ChannelData (record { id = id; binary = binary; bytes = bytes }))) = h.0 in cc
  hear_open None binary bytes n label p q h = no_again (ChannelOpen n label) h.0

  data_heard : (found : Option ℕ) (stream : ℕ) (binary : Bool) (bytes : List ℕ) (message : ChannelMessage) (b : PolledPeer I D S M N)
      (streams : SctpStreams S) (q : PolledPeer I D S M N) → channel_over stream b.core.channels ≡ found
      → PollsStreams m.association b.core.sctp (Ok (Some (event.Data stream binary bytes))) streams
      → HearsChannelOver {I = I} {D = D} {S = S} {M = M} {E = E} {N = N} found binary bytes (with_sctp streams b) (MetEvent (ChannelData message)) q
      → TellsData message b streams q
  data_heard (Some id) stream binary bytes message b streams q is polled h = record {
    stream = stream;
    binary = binary;
    bytes = bytes;
    polled = polled;
    over = is ∙ ap (λ (n : ℕ). Some n) (sym (message_id id binary bytes message h.0));
    left = h.1;
  }
  data_heard None stream binary bytes message b streams q is polled h = absurd (no_again (ChannelData message) h.0)

  pub data_told : (told : SctpEvent) (message : ChannelMessage) (b : PolledPeer I D S M N) (streams : SctpStreams S) (q : PolledPeer I D S M N)
      → PollsStreams m.association b.core.sctp (Ok (Some told)) streams
      → TakesStreamEvent m told (with_sctp streams b) (MetEvent (ChannelData message)) q → TellsData message b streams q
  data_told (event.Data stream binary bytes) message b streams q polled h =
      data_heard (channel_over stream b.core.channels) stream binary bytes message b streams q refl polled h
  data_told (event.Transmit packets) message b streams q polled h = absurd (no_nothing (ChannelData message) h.0)
  data_told (event.Open stream label) message b streams q polled h = absurd (opens_data stream label message (with_sctp streams b) q h)
  data_told (event.Close stream pending) message b streams q polled h =
      absurd (close_data (channel_over stream b.core.channels) pending message (with_sctp streams b) q h)
  data_told (event.StreamResetComplete stream) message b streams q polled h = absurd (no_again (ChannelData message) h.0)
  data_told (event.BufferedAmountLow stream) message b streams q polled h =
      absurd (low_data (channel_over stream b.core.channels) message (with_sctp streams b) q h)
  data_told event.AssociationLost message b streams q polled h = absurd (lost_data message (with_sctp streams b) q h)

  open_over : (stream : ℕ) (label : List ℕ) (id : ℕ) (text : List ℕ) (b : PolledPeer I D S M N) (streams : SctpStreams S) (q : PolledPeer I D S M N)
      → PollsStreams m.association b.core.sctp (Ok (Some (event.Open stream label))) streams
      → Opens stream label (with_sctp streams b) (MetEvent (ChannelOpen id text)) q → TellsOpen id b streams q
  unfolding OpensChannelOver
  open_over stream label id text b streams q polled h =
      record { stream = stream; label = label; polled = polled; over = h.1; left = h.2 }

  pub open_told : (told : SctpEvent) (id : ℕ) (text : List ℕ) (b : PolledPeer I D S M N) (streams : SctpStreams S) (q : PolledPeer I D S M N)
      → PollsStreams m.association b.core.sctp (Ok (Some told)) streams
      → TakesStreamEvent m told (with_sctp streams b) (MetEvent (ChannelOpen id text)) q → TellsOpen id b streams q
  open_told (event.Open stream label) id text b streams q polled h = open_over stream label id text b streams q polled h
  open_told (event.Transmit packets) id text b streams q polled h = absurd (no_nothing (ChannelOpen id text) h.0)
  open_told (event.Close stream pending) id text b streams q polled h =
      absurd (close_open (channel_over stream b.core.channels) pending id text (with_sctp streams b) q h)
  open_told (event.StreamResetComplete stream) id text b streams q polled h = absurd (no_again (ChannelOpen id text) h.0)
  open_told (event.Data stream binary bytes) id text b streams q polled h =
      absurd (hear_open (channel_over stream b.core.channels) binary bytes id text (with_sctp streams b) q h)
  open_told (event.BufferedAmountLow stream) id text b streams q polled h =
      absurd (low_open (channel_over stream b.core.channels) id text (with_sctp streams b) q h)
  open_told event.AssociationLost id text b streams q polled h = absurd (lost_open id text (with_sctp streams b) q h)
