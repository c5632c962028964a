-- The weight of a peer: as many outputs as its polls can return at most, up to a timeout, if there is no other call between.
use Rattle.std.specs.Prelude.{ℕ, ◌+◌, ◌*◌, ◌-◌, ◌^◌, ◌≡◌, ◌≤◌, ◌<◌, ◌||◌, ◌⊎◌, if◌then◌else◌, Bool, true, false}
use Rattle.std.specs.Prelude.{List, [], ◌∷◌, length, Option, Some, None, Ok}
use Rattle.std.specs.List.{sum_by}
use Rattle.rtc_config.specs.Stats.{Reporting}
use Rattle.rtc_parts.specs.MediaMeaning.{held_media}
use Rattle.rtc_wire.specs.declared.channel_config.ChannelConfig.{ChannelConfig}
use Rattle.rtc_sctp_entries.specs.declared.stream_entry_state.StreamEntryState.{StreamEntryState}
use Rattle.rtc_sctp_entries.specs.declared.stream_entry_state.StreamEntryState.TheVariants.{AwaitOpen, AwaitConfig, AwaitDcepAck}
use Rattle.rtc_sctp_entries.specs.declared.stream_entry_state.StreamEntryState.TheVariants.{Open, Closed as EntryClosed}
use Rattle.rtc_sctp_entries.specs.declared.stream_entry.StreamEntry.{StreamEntry}
use Rattle.rtc_sctp_entries.specs.Entries.{config_or_fresh, threshold_credit, unclosed}
use Rattle.rtc_sctp.specs.Polls.{credits}
use Rattle.rtc_peer_core.specs.declared.peer.Peer.{Peer}
use Rattle.rtc_peer_core.specs.declared.phase.Phase.{Phase}
use Rattle.rtc_peer_core.specs.declared.phase.Phase.TheVariants.{Alive, Closing, Closed}
use Rattle.rtc_peer_core.specs.Meanings.{Meanings}
use Rattle.rtc_peer_transport.specs.declared.handshake.Handshake.{Handshake}
use Rattle.rtc_peer_transport.specs.declared.handshake.Handshake.TheVariants.{Pending, Finished, Told}
use Rattle.rtc_peer_transport.specs.declared.output.Output.{Output}
use Rattle.rtc_peer_transport.specs.declared.input.Input.{Input}
use Rattle.rtc_peer_transport.specs.declared.input.Input.TheVariants as given
use Rattle.rtc_peer_transport.specs.declared.output.Output.TheVariants.{Timeout, Transmit, Event}
use Rattle.rtc_peer_transport.specs.declared.polled_peer.PolledPeer.{PolledPeer}
use Rattle.rtc_peer_polling.specs.DtlsStages.{has_come}
use Rattle.rtc_peer_polling.specs.Walk.{PollsPeer}

-- the credits of an entry by the progress of its stream: an open message has the label and the protocol (RFC 8832, section 5.1)
abbrev pub credits_in : StreamEntryState → Option ChannelConfig → ℕ
credits_in AwaitOpen config = 20 + length (config_or_fresh config).label + length (config_or_fresh config).protocol
credits_in AwaitConfig config = 7
credits_in AwaitDcepAck config = 4
credits_in Open config = 4
credits_in EntryClosed config = 0

abbrev pub credits_of : StreamEntry → ℕ
credits_of entry = credits_in entry.state entry.config

abbrev pub stats_events : Option Reporting → ℕ
stats_events None = 0
stats_events (Some reporting) = length reporting.events

-- what closing can add: 32 outputs of media, two units of the association and 32 packets of DTLS
abbrev pub alive_weight : Phase → ℕ
alive_weight Alive = 128
alive_weight Closing = 0
alive_weight Closed = 0

-- the end of the handshake is still to be reported
abbrev pub handshake_weight : Handshake → ℕ
handshake_weight Pending = 0
handshake_weight Finished = 1
handshake_weight Told = 0

-- how many packets of the association were pushed back
abbrev pub packets_pushed : Option (List (List ℕ)) → ℕ
packets_pushed None = 0
packets_pushed (Some packets) = length packets

-- how many entries ask for a threshold that is not set yet
abbrev pub thresholds_asked : List StreamEntry → ℕ
thresholds_asked entries = sum_by (λ entry. threshold_credit entry.threshold) entries

-- an output that is no timeout
abbrev pub puts_out : {E : Type 0} → Output E → Bool
puts_out (Timeout moment) = false
puts_out (Transmit transmit) = true
puts_out (Event event) = true

-- how an output changes a measure
abbrev pub FallsBy : {E : Type 0} → Output E → (before after : ℕ) → Type 0
FallsBy (Timeout moment) before after = after ≤ before
FallsBy (Transmit transmit) before after = after < before
FallsBy (Event event) before after = after < before

-- a moment that a program can take
abbrev pub IsMoment : ℕ → Type 0
IsMoment moment = moment ≤ 2 ^ 64 - 1

-- the moment of an input is one
abbrev pub IsTimely : Input → Type 0
IsTimely (given.Timeout now) = IsMoment now
IsTimely (given.Receive now datagram) = IsMoment now

-- the handshake is not finished, or its end was reported; a closed peer reports nothing any more
abbrev pub IsHandshakeTold : {I D S M N : Type 0} → PolledPeer I D S M N → Type 0
IsHandshakeTold p = (handshake_weight p.transport.handshake ≡ 0) ⊎ (p.core.phase ≡ Closed)

module _ {I D S M E X T W N : Type 0} (m : Meanings I D S M E X T W N) where
  -- whether a moment of DTLS is due: that which the part asks for once it is drained, or that which the peer read last
  abbrev pub is_moment_due : PolledPeer I D S M N → Bool
  is_moment_due p =
      has_come (m.dtls.asks p.core.dtls.instance) p.core.greatest || has_come p.transport.dtls_wake p.core.greatest

  -- what the DTLS part holds: each unit of input, each packet that is not queued yet, each that is, and a moment that is due
  abbrev pub dtls_weight : PolledPeer I D S M N → ℕ
  dtls_weight p =
      65 * m.dtls.units p.core.dtls.instance
      + 2 * m.dtls.packets p.core.dtls.instance
      + length p.core.dtls.packets
      + (if is_moment_due p then 64 else 0)

  -- what the association holds, with the packets that were pushed back and the credits of the entries
  abbrev pub streams_weight : PolledPeer I D S M N → ℕ
  streams_weight p =
      4 * (m.association.units p.core.sctp.association + packets_pushed p.core.sctp.pushed)
      + 4 * sum_by credits_of p.core.sctp.entries

  -- the weight of a peer
  abbrev pub weight : PolledPeer I D S M N → ℕ
  weight p =
      dtls_weight p
      + streams_weight p
      + m.ice.held p.core.ice
      + held_media m.media p.core.media
      + stats_events p.transport.stats
      + alive_weight p.core.phase
      + 1

  -- A finer measure, which each output lowers: an entry that is to be closed has one credit less, and the end of the handshake counts while
  -- it is still to be reported.
  abbrev pub load : PolledPeer I D S M N → ℕ
  load p =
      dtls_weight p
      + 4 * (m.association.units p.core.sctp.association + credits (unclosed p.core.sctp.entries) + packets_pushed p.core.sctp.pushed)
      + m.ice.held p.core.ice
      + held_media m.media p.core.media
      + stats_events p.transport.stats
      + alive_weight p.core.phase
      + handshake_weight p.transport.handshake

  -- no stream has a threshold and none is asked for, and the greatest moment that was taken is one
  pub record HasNoThreshold (p : Peer I D S M N) : Type 0 where
    pub stands : m.association.has_threshold p.sctp.association ≡ false
    pub asked : thresholds_asked p.sctp.entries ≡ 0
    pub moment : IsMoment p.greatest

  -- polls one after the other, each of which puts out something
  abbrev pub PutsOut : List (Output E) → PolledPeer I D S M N → PolledPeer I D S M N → Type 0
  PutsOut [] p q = q ≡ p
  PutsOut (output ∷ outputs) p q =
      (puts_out output ≡ true)
      × (between : PolledPeer I D S M N)
      × PollsPeer m p (Ok output) between
      × PutsOut outputs between q
