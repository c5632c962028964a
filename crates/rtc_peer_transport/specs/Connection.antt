-- A peer with its connection, and what changes of it.
use Rattle.std.specs.Prelude.{ℕ, ◌-◌, ◌^◌, Bool, List, [], Option, Some, None}
use Rattle.rtc_parts.specs.declared.reason.Reason.TheVariants.{NotHappening}
use Rattle.rtc_parts.specs.DtlsState.{DtlsState}
use Rattle.rtc_sctp.specs.Streams.{SctpStreams}
use Rattle.rtc_channels.specs.Channels.{Channels}
use Rattle.rtc_config.specs.Stats.{Reporting}
use Rattle.rtc_peer_core.specs.declared.phase.Phase.TheVariants.{Closed}
use Rattle.rtc_peer_transport.specs.declared.handshake.Handshake.TheVariants.{Pending}
use Rattle.rtc_peer_transport.specs.declared.transport.Transport.{Transport}
use Rattle.rtc_peer_transport.specs.declared.polled_peer.PolledPeer.{PolledPeer}

-- no report yet, with an interval, if there is one
abbrev pub first_stats : Option ℕ → Option Reporting
first_stats None = None
first_stats (Some interval) = Some (record { interval = interval; last = None; events = [] })

-- nothing is known of the other side
abbrev pub no_transport : (verifies rtp_mode : Bool) → (interval : Option ℕ) → Transport
no_transport verifies rtp_mode interval = record {
  send_addr = None;
  discovered = [];
  handshake = Pending;
  dtls_wake = 2 ^ 64 - 1;
  verifies = verifies;
  rtp_mode = rtp_mode;
  last_reason = NotHappening;
  received = 0;
  sent = 0;
  stats = first_stats interval;
}

-- the peer with another ICE agent, DTLS connection or media part
abbrev pub with_ice : {I D S M N : Type 0} → I → PolledPeer I D S M N → PolledPeer I D S M N
with_ice ice p = record p { core = record p.core { ice = ice } }

abbrev pub with_dtls : {I D S M N : Type 0} → DtlsState D → PolledPeer I D S M N → PolledPeer I D S M N
with_dtls dtls p = record p { core = record p.core { dtls = dtls } }

abbrev pub with_media : {I D S M N : Type 0} → M → PolledPeer I D S M N → PolledPeer I D S M N
with_media media p = record p { core = record p.core { media = media } }

-- the peer with other streams or channels, or with other packets that were pushed back
abbrev pub with_sctp : {I D S M N : Type 0} → SctpStreams S → PolledPeer I D S M N → PolledPeer I D S M N
with_sctp sctp p = record p { core = record p.core { sctp = sctp } }

abbrev pub with_channels : {I D S M N : Type 0} → Channels → PolledPeer I D S M N → PolledPeer I D S M N
with_channels channels p = record p { core = record p.core { channels = channels } }

abbrev pub with_pushed : {I D S M N : Type 0} → Option (List (List ℕ)) → PolledPeer I D S M N → PolledPeer I D S M N
with_pushed pushed p = record p { core = record p.core { sctp = record p.core.sctp { pushed = pushed } } }

-- the peer, closed
abbrev pub closed_peer : {I D S M N : Type 0} → PolledPeer I D S M N → PolledPeer I D S M N
closed_peer p = record p { core = record p.core { phase = Closed } }
